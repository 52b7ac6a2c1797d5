-- Laws of the answers of a pair taken apart: each says the entry's own refusal, its line and the text that is meant, or its figure, and
-- none of them is cut. Lent buffers have fewer than 2^56 bytes. Assumes nothing.
use Prim.Native.Nat.{ℕ, ◌+◌, ◌*◌, ◌/◌, ◌%◌, ◌<◌, ◌≤◌}
use mathlib.Core.Path.{◌≡◌, refl, ◌∙◌}
use mathlib.Core.Bool.{Bool, true, false, cond}
use mathlib.Core.List.{List}
use native.Mathlib.Omega.{arith}
use borrow.Author.Tests.{leb-true}
use lib.Dec.{leb}
use lib.ListN.{length}
use Rattle.std.specs.Prelude.{Result, Ok, Err, ⊤}
use Rattle.units.specs.Refusals.{number_of, refused}
use Rattle.units.specs.declared.Fault.TheVariants.{ShortBuffer}
use Rattle.units.proofs.FaultLaws.{number_bounds}
use Rattle.soc.specs.Limits.{text_max}
use Rattle.wrapper_fit.specs.Maxima.{module_time_max, test_time_max, width_max}
use Rattle.wrapper_times.specs.declared.asked.ModuleTime.{ModuleTime}
use Rattle.pair.specs.Pair.{read_pair}
use Rattle.pair.specs.declared.read.Meant.TheVariants as meant
use Rattle.pair.specs.declared.read.PairRead.{PairRead}
use Rattle.pair.specs.declared.read.PairRefusal.{PairRefusal}
use Rattle.pair_entries.specs.LaidPair.{layout_pair}
use Rattle.pair_entries.specs.PlannedPair.{plan_pair}
use Rattle.pair_entries.specs.TimedPair.{module_time_pair}
use Rattle.pair_entries.specs.WrittenPair.{write_pair}
use Rattle.pair_entries.proofs.EntryLaws.{Told}
use Rattle.pair_entries.proofs.PairEntries.{told_number, write_pair_told, layout_pair_told, module_time_pair_told, plan-pair_told}
use Rattle.c_forms.specs.PlanForm.{plan_bytes}
use Rattle.c_forms.specs.LayoutForm.{layout_bytes}
use Rattle.c_interface.specs.Codes.{above_max, above, itself, cycles_of, wires_of, both_bytes, given, meant_number, line_max, pair_refused, pair_figure, pair_given}
use Rattle.c_interface.specs.Codes.{read_pair_code, write_pair_code, layout_pair_code, module_time_pair_code}
use Rattle.c_interface.specs.Codes.{module_wires_pair_code, plan_pair_code}
use Rattle.c_interface.specs.Apart.{roomed_or, PairRefused, PairSays, pair_roomed}
use Rattle.c_interface.proofs.ApartLaws.{above-number, above-figure}
use Rattle.c_interface.proofs.CodeLaws.{meant_most}

refused_says : (r : PairRefusal) → r.refusal.line ≤ text_max + 1 → PairRefused (pair_refused r) r
unfolding pair_refused
refused_says r line =
    record {
      number = above-number (number_of r.refusal.fault) (4 * (r.refusal.line % line_max) + meant_number r.meant) small;
      line = omega (arith, figure, most);
      text = omega (arith, figure, most);
    }
  where
    most : meant_number r.meant ≤ 2
    most = meant_most r.meant

    small : number_of r.refusal.fault < 256
    small = omega (arith, number_bounds r.refusal.fault)

    figure : above (number_of r.refusal.fault) (4 * (r.refusal.line % line_max) + meant_number r.meant) / 256 ≡ 4 * r.refusal.line + meant_number r.meant
    figure =
        above-figure (number_of r.refusal.fault) (4 * (r.refusal.line % line_max) + meant_number r.meant) small (omega (arith, most))
        ∙ (omega arith)

pub figure-says : {A : Type 0} (P : A → Type 0) (figure : A → ℕ) → ((v : A) → P v → figure v < above_max) → (a : Result A PairRefusal) → Told P a
    → PairSays (pair_figure figure a) figure a
unfolding pair_figure
figure-says P figure low (Ok v) t = (above-number 0 (figure v) (omega arith), above-figure 0 (figure v) (omega arith) (low v t))
figure-says P figure low (Err r) t = refused_says r t.1

module _ (buf : List ℕ) (short : length buf < above_max) where
  given-says : {A : Type 0} (P : A → Type 0) (form : A → List ℕ) (a : Result A PairRefusal) → Told P a
      → PairSays (pair_given form a buf) (λ v. length (form v)) (pair_roomed form a buf)
  unfolding pair_given given roomed_or meant_number
  given-says P form (Ok v) t = go (leb (length (form v)) (length buf)) refl
    where
      go : (u : Bool) → leb (length (form v)) (length buf) ≡ u
          → PairSays (cond u (above 0 (length (form v))) (above 11 0)) (λ v. length (form v))
          (cond u (Ok v) (Err (record { refusal = refused ShortBuffer 0; meant = meant.Neither })))
      go true e =
          let l = leb-true (length (form v)) (length buf) e in
          (above-number 0 (length (form v)) (omega arith), above-figure 0 (length (form v)) (omega arith) (omega arith))
      go false e =
          record {
            number = above-number 11 0 (omega arith);
            line = omega (arith, above-figure 11 0 (omega arith) (omega arith));
            text = omega (arith, above-figure 11 0 (omega arith) (omega arith));
          }
  given-says P form (Err r) t = refused_says r t.1

module _ (base overlay : List ℕ) where
  module _ (buf : List ℕ) (short : length buf < above_max) where
    pub read-pair-says :
        PairSays (read_pair_code base overlay buf) (λ p. length (both_bytes p)) (pair_roomed both_bytes (read_pair base overlay) buf)
    read-pair-says = given-says buf short (λ p. ⊤) both_bytes (read_pair base overlay) (go (read_pair base overlay) (told_number base overlay))
      where
        go : (a : Result PairRead PairRefusal)
            → ((r : PairRefusal) → a ≡ Err r → (number_of r.refusal.fault ≤ 17) × (r.refusal.line ≤ text_max + 1)) → Told (λ p. ⊤) a
        go (Ok p) h = tt
        go (Err r) h = h r refl

    pub write-pair-says : PairSays (write_pair_code base overlay buf) itself (write_pair base overlay buf)
    write-pair-says =
        figure-says (λ n. n ≤ length buf) itself (λ n h. omega arith) (write_pair base overlay buf) (write_pair_told base overlay buf)

    pub layout_pair-says : (m i w c : ℕ)
        → PairSays (layout_pair_code base overlay m i w c buf) (λ l. length (layout_bytes l))
        (pair_roomed layout_bytes (layout_pair base overlay m i w c) buf)
    layout_pair-says m i w c =
        given-says buf short (λ l. l.cycles.0 ≤ test_time_max) layout_bytes (layout_pair base overlay m i w c)
        (layout_pair_told base overlay m i w c)

    pub plan-pair-says : (W B c : ℕ)
        → PairSays (plan_pair_code base overlay W B c buf) (λ p. length (plan_bytes p))
        (pair_roomed plan_bytes (plan_pair base overlay W B c) buf)
    plan-pair-says W B c =
        given-says buf short (λ p. ⊤) plan_bytes (plan_pair base overlay W B c) (plan-pair_told base overlay W B c)

  module _ (m w c : ℕ) where
    abbrev Kept : ModuleTime → Type 0
    Kept t = (t.cycles.0 ≤ module_time_max) × (t.wires.0 ≤ width_max)

    pub module-time-pair-says : PairSays (module_time_pair_code base overlay m w c) cycles_of (module_time_pair base overlay m w c)
    module-time-pair-says =
        figure-says Kept cycles_of (λ t h. omega (arith, h.0)) (module_time_pair base overlay m w c) (module_time_pair_told base overlay m w c)

    pub module-wires-pair-says : PairSays (module_wires_pair_code base overlay m w c) wires_of (module_time_pair base overlay m w c)
    module-wires-pair-says =
        figure-says Kept wires_of (λ t h. omega (arith, h.1)) (module_time_pair base overlay m w c) (module_time_pair_told base overlay m w c)
