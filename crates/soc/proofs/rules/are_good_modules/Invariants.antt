-- `soc::rules::are_good_modules` meets its contract. The loop's invariant: the modules are good where those from m on are, with the level of
-- the one before them. Assumes nothing.
use Rattle.std.proofs.Common.{◌≡◌, drop}
use Rattle.soc.specs.Rules.{good_modules}
use Rattle.soc.proofs.rules.are_good_modules.Given as goal

abbrev pub invariant-loop-m : goal.invariant-loop-m
invariant-loop-m l = good_modules l.power l.xy 0 0 l.modules ≡ good_modules l.power l.xy l.m l.last (drop l.m l.modules)
