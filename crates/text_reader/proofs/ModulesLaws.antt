-- Laws of reading the modules of a text one by one. Assumes nothing.
use Prim.Native.Nat.{ℕ, suc, ◌+◌, ◌-◌, ◌≤◌, ◌<◌}
use native.Mathlib.Omega.{arith}
use mathlib.Core.Path.{◌≡◌, ap}
use mathlib.Core.List.{List, [], ◌∷◌, ◌++◌, append-nil}
use Rattle.units.specs.declared.Refusal.{Refusal}
use Rattle.fields.specs.Lines.{Line}
use Rattle.fields.specs.Readers.{no, got, after}
use Rattle.fields.proofs.ReaderLaws.{prepend, prepend_after}
use Rattle.soc.specs.declared.record.Module.{Module}
use Rattle.text_lines.specs.declared.head.Options.{Options}
use Rattle.text_reader.specs.Reading.{module_lines, modules}

-- n modules of which i are read, ds, the last of them with level last
module _ (o : Options) (n i last : ℕ) (ds : List Module) (ls : List Line) where
  pub modules-no : (c : Refusal) → i < n → module_lines o i last ls ≡ no c → prepend ds (modules o (n - i) i last ls) ≡ no c
  unfolding modules after prepend
  modules-no c h e = let k : n - i ≡ suc (n - (i + 1)) = omega arith in rw (k, e)

  pub modules-more : (d : Module) (ms : List Line) → i < n → module_lines o i last ls ≡ got d ms
      → prepend ds (modules o (n - i) i last ls) ≡ prepend (ds ++ d ∷ []) (modules o (n - (i + 1)) (i + 1) d.level ms)
  unfolding modules after
  modules-more d ms h e =
      let k : n - i ≡ suc (n - suc i) = omega arith in
      let m : i + 1 ≡ suc i = omega arith in
      rw (m, k, e) (prepend_after d ds (modules o (n - suc i) (suc i) d.level ms))

  pub modules-end : n ≤ i → prepend ds (modules o (n - i) i last ls) ≡ got ds ls
  unfolding modules prepend
  modules-end h = let k : n - i ≡ 0 = omega arith in rw k (ap (λ l. got l ls) (append-nil ds))
