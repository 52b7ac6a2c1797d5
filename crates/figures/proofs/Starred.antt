-- The starred figures of document 01, the starts of the same plans and some figures with more capture cycles hold: one table, one proof, by
-- computation, of t1 from its very text. Assumes nothing.
use mathlib.Core.Path.{◌≡◌, refl}
use Rattle.std.specs.Prelude.{IsOkAnd}
use Rattle.fields.specs.Names.{name_bytes}
use Rattle.soc.specs.Rules.{good_power, good_position, pins_rule, good_test, spare_test, level_rule, good_terminals, good_chains, good_tests, good_module, good_modules, spare_module, good_name, good_soc}
use Rattle.soc.specs.Planned.{is_planned, planned_from}
use Rattle.units.specs.Places.{padded, all_of, any_of}
use Rattle.wrapper_fit.specs.Fit.{longest, total, better, best_from, goes, placed, with_cells, longest_after}
use Rattle.wrapper_scans.specs.Chains.{numbered_from, insert, ordered, sum_over, how_many, used_chains, thread, threaded}
use Rattle.wrapper_scans.specs.TestTimes.{scan_in, scan_out, test_cycles, test_time}
use Rattle.wrapper_times.specs.Times.{sum_times, figure, best_to, module_best}
use Rattle.plan_rules.specs.Plans.{sum, busy_from, busies, largest, time_of}
use Rattle.plan_rules.specs.Listed.{upward, width_lists, placements, plans_on, plans, first_least, first_of, best_of}
use Rattle.plan_record.specs.Record.{cycles_on, bus_records, module_records, plan_record}
use Rattle.plan.specs.PlanAnswers.{time_in, wires_in, best_for, plan_answer}
use Rattle.figures.proofs.Read.{t1-read, copies_read}
use Rattle.text_reader.specs.Reading.{read_soc}
use Rattle.figures.specs.Records.{t1, two_copies}
use Rattle.figures.specs.Texts.{t1_text, two_copies_text}
use Rattle.figures.specs.Figures.{figures, computed_of, stated_of}

-- of the records
records-hold : computed_of (figures t1 two_copies) ≡ stated_of (figures t1 two_copies)
unfolding is_planned planned_from padded all_of any_of longest total better best_from goes placed with_cells longest_after numbered_from insert ordered sum_over how_many used_chains thread threaded scan_in scan_out test_cycles test_time sum_times figure best_to module_best sum busy_from busies largest time_of upward width_lists placements plans_on plans first_least first_of best_of cycles_on bus_records module_records plan_record time_in wires_in best_for plan_answer computed_of stated_of good_power good_position good_test spare_test level_rule good_terminals good_chains good_tests good_module good_modules spare_module good_name good_soc name_bytes pins_rule
records-hold = refl

-- and of the records that the reader gives for the texts
pub starred_hold : IsOkAnd (read_soc t1_text) (λ s. IsOkAnd (read_soc two_copies_text) (λ c. computed_of (figures s c) ≡ stated_of (figures s c)))
starred_hold = rw (t1-read, copies_read) records-hold
