use Rattle.std.proofs.Common.{◌≤◌, ◌-◌, length, drop}
use Rattle.go_tree.specs.Forest.{Forest}
use Rattle.go_parse.specs.Machine.{state_of, Built}
use Rattle.go_parse.proofs.Parse.{Same}
use Rattle.go_parse.proofs.parser.Parser.spell.Given as goal

abbrev pub invariant-loop-step : goal.invariant-loop-step
invariant-loop-step l = record {
  inside : l.at ≤ length l.classes;
  same : (before : Forest) → Built (state_of l.initial.self) before → Same (length l.classes) l.fn.start (drop l.fn.from l.classes) before (drop l.at l.classes) (state_of l.self);
}

abbrev pub decreases-loop-step : goal.decreases-loop-step
decreases-loop-step l = length l.classes - l.at
