-- What document 01's text t1, and the text with two copies of its module 1, are read to. Assumes nothing.
use mathlib.Core.Path.{◌≡◌, refl, ap}
use Rattle.std.specs.Prelude.{Ok}
use Rattle.fields.specs.Bytes.{lf_next, bad_byte, same_bytes}
use Rattle.fields.specs.Fields.{begins, on_field, fields_of, blank, gaps, run, field_from, next_field, field_end}
use Rattle.fields.specs.Lines.{on_line, lines_of, with_line, numbered, until_lf, line_ending, line_at, line_start}
use Rattle.fields.specs.Numbers.{digits, more, decimal_of, cut}
use Rattle.fields.specs.Names.{name_bytes}
use Rattle.fields.specs.Readers.{after, each, bytes_due, within, between, past_at, figure_at, word_answer, number_answer, key_number_answer}
use Rattle.text_lines.specs.Parts.{due_is, due, flag, given_is, or_not_given, name, rule, pins, is_next, closed}
use Rattle.text_lines.specs.Kinds.{name_part, name_line, total_line, options_part, options_line, level, terminals, chain_length, lengths, lengths_part, chains_part, level_line, position_part, total_tests, tests_part, second_part, second_line, tests_line, power_part, uses, test_due, patterns_part, test_line}
use Rattle.text_reader.specs.Lines.{judged, line, no_more}
use Rattle.text_reader.specs.Reading.{behind, body, module_tests, module_rest, module_lines, modules, rest, behind_name, soc, answer, unless_bad, read_soc}
use Rattle.soc.specs.Rules.{good_power, good_position, pins_rule, good_test, spare_test, level_rule, good_terminals, good_chains, good_tests, good_module, good_modules, spare_module, good_name, good_soc}
use Rattle.units.specs.Places.{padded, all_of, any_of}
use mathlib.Core.List.{[]}
use Rattle.fields.specs.Lines.{lines_from}
use Rattle.fields.specs.Readers.{got}
use Rattle.figures.specs.Texts.{text}
use Rattle.figures.specs.Texts.{t1_text, two_copies_text}
use Rattle.figures.specs.Records.{t1, two_copies}

-- each text has no bad byte, and its lines are those of its record
t1-lines : soc (lines_from 1 t1_text 0) ≡ got t1 []
unfolding lf_next bad_byte same_bytes begins on_field fields_of blank gaps run field_from next_field field_end on_line lines_of with_line numbered until_lf line_ending line_at line_start digits more decimal_of cut name_bytes after each bytes_due within between past_at figure_at word_answer number_answer key_number_answer due_is due flag given_is or_not_given name rule pins is_next closed name_part name_line total_line options_part options_line level terminals chain_length lengths lengths_part chains_part level_line position_part total_tests tests_part second_part second_line tests_line power_part uses test_due patterns_part test_line judged line no_more behind body module_tests module_rest module_lines modules rest behind_name soc answer unless_bad read_soc good_power good_position pins_rule good_test spare_test level_rule good_terminals good_chains good_tests good_module good_modules spare_module good_name good_soc padded all_of any_of text
t1-lines = refl

copies_lines : soc (lines_from 1 two_copies_text 0) ≡ got two_copies []
unfolding lf_next bad_byte same_bytes begins on_field fields_of blank gaps run field_from next_field field_end on_line lines_of with_line numbered until_lf line_ending line_at line_start digits more decimal_of cut name_bytes after each bytes_due within between past_at figure_at word_answer number_answer key_number_answer due_is due flag given_is or_not_given name rule pins is_next closed name_part name_line total_line options_part options_line level terminals chain_length lengths lengths_part chains_part level_line position_part total_tests tests_part second_part second_line tests_line power_part uses test_due patterns_part test_line judged line no_more behind body module_tests module_rest module_lines modules rest behind_name soc answer unless_bad read_soc good_power good_position pins_rule good_test spare_test level_rule good_terminals good_chains good_tests good_module good_modules spare_module good_name good_soc padded all_of any_of text
copies_lines = refl

pub t1-read : read_soc t1_text ≡ Ok t1
unfolding text lf_next bad_byte unless_bad answer read_soc
t1-read = ap answer t1-lines

pub copies_read : read_soc two_copies_text ≡ Ok two_copies
unfolding text lf_next bad_byte unless_bad answer read_soc
copies_read = ap answer copies_lines
