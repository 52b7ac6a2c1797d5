-- Laws of the values that code holds: arrays have the lengths that their types say, in every element of an array too. Assumes nothing.
use Prim.Native.Nat.{ℕ, zero, suc, ◌<◌}
use mathlib.Core.Path.{◌≡◌}
use mathlib.Core.List.{List, [], ◌∷◌}
use native.Mathlib.Omega.{arith}
use lib.ListN.{length, get_or}
use base.Fml.{Fml}
use mir.Val.{Val}
use denote.Array.{each}
use denote.Shadow.{shadow}
use denote.Laws.{Is}
use denote.Struct.Declared as declared
use Rattle.soc.specs.Record.{no_module}
use Rattle.soc.specs.Sized.{SizedModule, Sized}
use Rattle.soc.specs.declared.record.Module.{Module}
use Rattle.soc.specs.declared.record.Soc.{Soc}
use Rattle.soc.specs.contracts.record.Module as module-type
use Rattle.soc.specs.contracts.record.Soc as soc-type

-- what is so of each value that is held is so of each value in an array that is held
each-held : {A : Type 0} (own : A → List Val → Fml) (P : A → Type 0)
    → ((x : A) (u : Val) → shadow (own x (u ∷ [])) → P x)
    → (xs : List A) (us : List Val) → shadow (each A own xs us) → (z : A) (i : ℕ) → i < length xs → P (get_or xs i z)
each-held own P h [] us s z i l = absurd (omega arith)
each-held own P h (x ∷ xs) [] s z i l = absurd s
each-held own P h (x ∷ xs) (u ∷ us) s z zero l = h x u s.0
each-held own P h (x ∷ xs) (u ∷ us) s z (suc i) l = each-held own P h xs us s.1 z i (omega arith)

held_module : (d : Module) (u : Val) → shadow ((module-type.the_row).own_val d (u ∷ [])) → SizedModule d
held_module d u h = record {
  chains = h.1.1.1.1.1.1.1.0.1.0.1;
  tests = h.1.1.1.1.1.1.1.1.1.1.1.0.1.0.1;
}

pub held-soc : (s : Soc) (vs : List Val) → Is (declared.row soc-type.the_type) s vs → Sized s
held-soc s vs h =
    let m = h.1.1.1.1.1.1.1.0 in
    let n : length s.modules ≡ 40 = m.1.0.1 in
    record {
      name = h.1.1.1.0.1.0.1;
      modules = n;
      each = λ i l. each-held (module-type.the_row).own_val SizedModule held_module s.modules m.0
          m.1.1 no_module i (omega arith);
    }
