-- Laws of answers taken apart: each says the entry's own refusal and figure, and no figure is cut. Lent buffers have fewer than 2^56
-- bytes. Assumes nothing.
use Prim.Native.Nat.{ℕ, ◌+◌, ◌/◌, ◌%◌, ◌<◌, ◌≤◌}
use mathlib.Core.Path.{◌≡◌, refl}
use mathlib.Core.Bool.{Bool, true, false, cond}
use mathlib.Core.List.{List}
use native.Mathlib.Omega.{arith}
use borrow.Author.Tests.{leb-true}
use lib.Dec.{leb}
use lib.ListN.{length}
use Rattle.std.specs.Prelude.{Result, Ok, Err, MatchResult, IfErr, ⊤}
use Rattle.units.specs.Refusals.{number_of, refused}
use Rattle.units.specs.declared.Fault.TheVariants.{ShortBuffer}
use Rattle.units.specs.declared.Refusal.{Refusal}
use Rattle.units.proofs.FaultLaws.{number_bounds}
use Rattle.soc.specs.Limits.{text_max}
use Rattle.buffer.proofs.WriterAnswerLaws.{Fits}
use Rattle.text_reader.specs.Reading.{read_soc}
use Rattle.text_writer.specs.WrittenSoc as soctext
use Rattle.text_writer.proofs.SocWriterLaws as socwriter
use Rattle.text.proofs.RefusedLine.{refused-line-most}
use Rattle.wrapper_fit.specs.Maxima.{test_time_max, module_time_max, width_max}
use Rattle.wrapper_times.specs.TimeAnswers.{module_time_answer}
use Rattle.wrapper_times.specs.declared.asked.ModuleTime.{ModuleTime}
use Rattle.wrapper_layout.specs.LayoutAnswers.{layout_answer}
use Rattle.wrapper.proofs.WrapperAnswerLaws.{Told, layout_told, module_time_told}
use Rattle.plan.specs.PlanAnswers.{plan_answer}
use Rattle.plan.proofs.PlannerLaws.{answer_told}
use Rattle.budget.specs.BudgetAnswers.{budget_answer}
use Rattle.budget.proofs.EntryLaws as budgetlaws
use Rattle.plan_file.specs.Files as planfile
use Rattle.plan_file.proofs.FileAnswerLaws as filelaws
use Rattle.listing.specs.Listing.{listing_answer, show_answer}
use Rattle.listing.proofs.ListingAnswerLaws.{listing_fits, show_fits}
use Rattle.c_forms.specs.SocForm.{soc_in, soc_bytes}
use Rattle.c_forms.specs.PlanForm.{plan_in, plan_bytes}
use Rattle.c_forms.specs.LayoutForm.{layout_bytes}
use Rattle.c_interface.specs.Codes.{above_max, above, refusal_code, code, itself, cycles_of, wires_of, given, given_unless, read_code, write_code, layout_code}
use Rattle.c_interface.specs.Codes.{module_time_code, module_wires_code, plan_code, write_plan_code, read_plan_code, listing_code, show_code}
use Rattle.c_interface.specs.Codes.{found_bytes, budget_code}
use Rattle.c_interface.specs.Apart.{Says, roomed_or, roomed}

module _ (n v : ℕ) (small : n < 256) where
  pub above-number : above n v % 256 ≡ n
  unfolding above
  above-number = omega arith

  pub above-figure : v < above_max → above n v / 256 ≡ v
  unfolding above
  above-figure h = omega arith

-- a line that has its place above the number
abbrev Lined : {A : Type 0} → Result A Refusal → Type 0
Lined a = IfErr a (λ r. r.line < above_max)

-- a refusal with no line has
unlined : {A : Type 0} (P : A → Type 0) (k : ℕ) (a : Result A Refusal) → MatchResult a P (λ r. (number_of r.fault ≤ k) × (r.line ≡ 0)) → Lined a
unlined P k (Ok a) t = tt
unlined P k (Err r) t = omega (arith, t.1)

each_unlined : {A : Type 0} (k : ℕ) (a : Result A Refusal) → ((r : Refusal) → a ≡ Err r → (number_of r.fault ≤ k) × (r.line ≡ 0)) → Lined a
each_unlined k (Ok a) t = tt
each_unlined k (Err r) t = omega (arith, (t r refl).1)

-- the number of a refusal is one of a byte
refusal-says : (r : Refusal) → r.line < above_max → (refusal_code r % 256 ≡ number_of r.fault) × (refusal_code r / 256 ≡ r.line)
unfolding refusal_code
refusal-says r h =
    let small : number_of r.fault < 256 = omega (arith, number_bounds r.fault) in
    (above-number (number_of r.fault) r.line small, above-figure (number_of r.fault) r.line small h)

code-says : {A : Type 0} (figure : A → ℕ) (a : Result A Refusal) → MatchResult a (λ v. figure v < above_max) (λ r. r.line < above_max)
    → Says (code figure a) figure a
unfolding code
code-says figure (Ok v) h = (above-number 0 (figure v) (omega arith), above-figure 0 (figure v) (omega arith) h)
code-says figure (Err r) h = refusal-says r h

module _ (buf : List ℕ) (short : length buf < above_max) where
  given-says : {A : Type 0} (form : A → List ℕ) (a : Result A Refusal) → Lined a
      → Says (given_unless form a buf) (λ v. length (form v)) (roomed form a buf)
  unfolding given_unless given roomed_or
  given-says form (Ok v) h = go (leb (length (form v)) (length buf)) refl
    where
      go : (t : Bool) → leb (length (form v)) (length buf) ≡ t
          → Says (cond t (above 0 (length (form v))) (above 11 0)) (λ v. length (form v)) (cond t (Ok v) (Err (refused ShortBuffer 0)))
      go true e =
          let l = leb-true (length (form v)) (length buf) e in
          (above-number 0 (length (form v)) (omega arith), above-figure 0 (length (form v)) (omega arith) (omega arith))
      go false e = (above-number 11 0 (omega arith), above-figure 11 0 (omega arith) (omega arith))
  given-says form (Err r) h = refusal-says r h

  fits-says : (a : Result ℕ Refusal) → Fits buf a → Says (code itself a) itself a
  fits-says a f = code-says itself a (go a f)
    where
      go : (a : Result ℕ Refusal) → Fits buf a → MatchResult a (λ n. n < above_max) (λ r. r.line < above_max)
      go (Ok n) f = omega arith
      go (Err r) f = omega (arith, f.1)

  -- reading and writing
  pub read-says : (text : List ℕ) → Says (read_code text buf) (λ s. length (soc_bytes s)) (roomed soc_bytes (read_soc text) buf)
  read-says text = given-says soc_bytes (read_soc text) (go (read_soc text) (refused-line-most text))
    where
      go : {A : Type 0} (a : Result A Refusal) → ((r : Refusal) → a ≡ Err r → (number_of r.fault ≤ 17) × (r.line ≤ text_max + 1)) → Lined a
      go (Ok s) t = tt
      go (Err r) t = omega (arith, (t r refl).1)

  pub write_says : (b : List ℕ) → Says (write_code b buf) itself (soctext.write_answer (soc_in b) buf)
  write_says b = fits-says (soctext.write_answer (soc_in b) buf) (socwriter.write_fits (soc_in b) buf)

  pub write_plan_says : (b : List ℕ) → Says (write_plan_code b buf) itself (planfile.write_answer (plan_in b) buf)
  write_plan_says b = fits-says (planfile.write_answer (plan_in b) buf) (filelaws.write_fits (plan_in b) buf)

  pub read-plan-says : (f : List ℕ) → Says (read_plan_code f buf) (λ p. length (plan_bytes p)) (roomed plan_bytes (planfile.read_answer f) buf)
  read-plan-says f = given-says plan_bytes (planfile.read_answer f) (unlined (λ p. ⊤) 14 (planfile.read_answer f) (filelaws.read_told f))

  pub listing_says : (input : List ℕ) → Says (listing_code input buf) itself (listing_answer input buf)
  listing_says input = fits-says (listing_answer input buf) (listing_fits input buf)

  pub show_says : (b : List ℕ) → Says (show_code b buf) itself (show_answer (plan_in b) buf)
  show_says b = fits-says (show_answer (plan_in b) buf) (show_fits (plan_in b) buf)

  -- layouts and plans
  pub layout_says : (b : List ℕ) (m i w c : ℕ)
      → Says (layout_code b m i w c buf) (λ l. length (layout_bytes l)) (roomed layout_bytes (layout_answer (soc_in b) m i w c) buf)
  layout_says b m i w c =
      given-says layout_bytes (layout_answer (soc_in b) m i w c) (unlined (λ l. l.cycles.0 ≤ test_time_max) 16 (layout_answer (soc_in b) m i w c) (layout_told (soc_in b) m i w c))

  pub plan-says : (b : List ℕ) (W B c : ℕ)
      → Says (plan_code b W B c buf) (λ p. length (plan_bytes p)) (roomed plan_bytes (plan_answer (soc_in b) W B c) buf)
  plan-says b W B c =
      given-says plan_bytes (plan_answer (soc_in b) W B c) (each_unlined 16 (plan_answer (soc_in b) W B c) (λ r. answer_told (soc_in b) W B c))

  pub budget_says : (b : List ℕ) (W B c budget : ℕ)
      → Says (budget_code b W B c budget buf) (λ a. length (found_bytes a)) (roomed found_bytes (budget_answer (soc_in b) W B c budget) buf)
  budget_says b W B c budget =
      given-says found_bytes (budget_answer (soc_in b) W B c budget)
      (each_unlined 18 (budget_answer (soc_in b) W B c budget) (λ r. budgetlaws.answer_told (soc_in b) W B c budget))

-- times and wires
module _ (b : List ℕ) (m w c : ℕ) where
  pub module_time_says : Says (module_time_code b m w c) cycles_of (module_time_answer (soc_in b) m w c)
  module_time_says =
      code-says cycles_of (module_time_answer (soc_in b) m w c) (go (module_time_answer (soc_in b) m w c) (module_time_told (soc_in b) m w c))
    where
      go : (a : Result ModuleTime Refusal) → Told (λ t. (t.cycles.0 ≤ module_time_max) × (t.wires.0 ≤ width_max)) a
          → MatchResult a (λ t. cycles_of t < above_max) (λ r. r.line < above_max)
      go (Ok t) h = omega (arith, h.0)
      go (Err r) h = omega (arith, h.1)

  pub module_wires_says : Says (module_wires_code b m w c) wires_of (module_time_answer (soc_in b) m w c)
  module_wires_says =
      code-says wires_of (module_time_answer (soc_in b) m w c) (go (module_time_answer (soc_in b) m w c) (module_time_told (soc_in b) m w c))
    where
      go : (a : Result ModuleTime Refusal) → Told (λ t. (t.cycles.0 ≤ module_time_max) × (t.wires.0 ≤ width_max)) a
          → MatchResult a (λ t. wires_of t < above_max) (λ r. r.line < above_max)
      go (Ok t) h = omega (arith, h.1)
      go (Err r) h = omega (arith, h.1)
