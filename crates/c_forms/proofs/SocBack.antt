-- Laws of a SOC record read back from its bytes: what they say is that record where its figures fit their words, as those of a good one do.
-- Assumes nothing.
use Prim.Native.Nat.{ℕ, ◌<◌}
use mathlib.Core.Path.{◌≡◌, refl, ◌∙◌}
use mathlib.Core.Bool.{true}
use mathlib.Core.List.{List, ◌++◌, append_assoc}
use native.Mathlib.Omega.{arith}
use borrow.Author.Tests.{eq-eqb}
use lib.ListN.{length, get_or}
use Rattle.units.specs.Places.{all_of}
use Rattle.little_endian.specs.Rows.{each, rows}
use Rattle.little_endian.proofs.StandLaws.{Stands, stands_whole, stands_first, stands_behind}
use Rattle.little_endian.proofs.StandLaws.{part_stands, number-first, number_behind, rows_stand, all_stand}
use Rattle.fields.specs.Names.{name_max}
use Rattle.soc.specs.Limits.{modules_max}
use Rattle.soc.specs.Record.{no_module}
use Rattle.soc.specs.Rules.{good_soc}
use Rattle.soc.specs.Sized.{SizedModule, Sized}
use Rattle.soc.specs.declared.record.Module.{Module}
use Rattle.soc.specs.declared.record.Soc.{Soc}
use Rattle.c_forms.specs.Words.{word_length, words}
use Rattle.c_forms.specs.SocForm.{module_length, options_from, modules_from, soc_length, module_bytes, module_at}
use Rattle.c_forms.specs.SocForm.{option_words, head_bytes, soc_bytes, soc_at, module_flags, soc_flags, soc_in}
use Rattle.c_forms.specs.Fit.{FitModule, FitSoc}
use Rattle.c_forms.proofs.WordLaws.{words_stand, words-behind}
use Rattle.c_forms.proofs.LengthLaws.{module_length_lem, soc-length}
use Rattle.c_forms.proofs.SignedLaws.{flag_back, flag_small, flag-fits}
use Rattle.c_forms.proofs.ModuleBack.{module_back, module_flags_lem}
use Rattle.c_forms.proofs.SocFits.{good-fits}

-- a module whose arrays have their lengths and whose figures fit
record Fit (d : Module) : Type 0 where
  sized : SizedModule d
  fits : FitModule d

all_fit : (s : Soc) → Sized s → FitSoc s → (i : ℕ) → i < length s.modules → Fit (get_or s.modules i no_module)
all_fit s z f i h = record { sized = z.each i (omega (arith, z.modules)); fits = f.modules i h }

module _ {b : List ℕ} (s : Soc) (z : Sized s) (f : FitSoc s) where
  modules_stand : Stands (each module_bytes s.modules) b modules_from → rows (module_at b) module_length modules_max modules_from ≡ s.modules
  modules_stand t =
      rw z.modules at
      (rows_stand module_bytes module_length Fit (λ d h. module_length_lem d h.sized) b no_module
      (module_at b) (λ d at h. module_back d at h.sized h.fits) s.modules modules_from (all_fit s z f) t)

  flags_stand : Stands (each module_bytes s.modules) b modules_from
      → all_of (module_flags b) (rows (λ p. p) module_length modules_max modules_from) ≡ true
  flags_stand t =
      rw z.modules at
      (all_stand module_bytes module_length Fit (λ d h. module_length_lem d h.sized) b no_module
      (module_flags b) (λ d at h. module_flags_lem d at h.sized h.fits) s.modules modules_from (all_fit s z f) t)

  soc_stands : Stands (soc_bytes s) b 0 → (soc_at b ≡ s) × (soc_flags b ≡ true)
  unfolding soc_bytes head_bytes soc_at soc_flags
  soc_stands a =
      let r = simp append_assoc at a in
      let m = each module_bytes s.modules in
      let v = option_words s in
      let n = number_behind word_length s.name_len (s.name ++ (words v ++ m)) word_length refl r in
      let q = stands_behind s.name (words v ++ m) name_max options_from z.name refl n in
      let o = stands_first (words v) m q in
      let t = words-behind v m modules_from refl q in
      let p = words_stand v 0 (omega arith) (flag-fits s.power) o in
      let x = words_stand v 1 (omega arith) (flag-fits s.xy) o in (
        rw (
          number-first word_length s.name_len (s.name ++ (words v ++ m)) f.name_len r,
          part_stands s.name name_max z.name (stands_first s.name (words v ++ m) n),
          p,
          x,
          flag_back s.power,
          flag_back s.xy,
          words_stand v 2 (omega arith) f.module_count o,
          modules_stand t,
        ),
        rw (p, x, flag_small s.power, flag_small s.xy) (flags_stand t),
      )

-- bytes of the due length whose flags are 0 or 1 say a record
soc_in_lem : (b : List ℕ) → length b ≡ soc_length → soc_flags b ≡ true → soc_in b ≡ soc_at b
unfolding soc_in
soc_in_lem b e g = rw (eq-eqb (length b) soc_length e, g)

pub fit_soc_back : (s : Soc) → Sized s → FitSoc s → soc_in (soc_bytes s) ≡ s
fit_soc_back s z f =
    let t = soc_stands s z f (stands_whole (soc_bytes s)) in
    soc_in_lem (soc_bytes s) (soc-length s z) t.1 ∙ t.0

pub soc_back : (s : Soc) → Sized s → good_soc s ≡ true → soc_in (soc_bytes s) ≡ s
soc_back s z g = fit_soc_back s z (good-fits s g)
