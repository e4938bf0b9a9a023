use Rattle.std.proofs.Common.{◌≡◌, false, take}
use Rattle.std.specs.List.{fold}
use Rattle.go_tree.specs.Lexeme.{step_of, start_of, is_dead}
use Rattle.go_lexeme.proofs.class.run_class.Given as goal

abbrev pub invariant-loop-n : goal.invariant-loop-n
invariant-loop-n l = record {
  comes : fold (step_of l.class) (start_of l.class l.first) (take l.n l.tail) ≡ l.state;
  alive : is_dead l.state ≡ false;
}
