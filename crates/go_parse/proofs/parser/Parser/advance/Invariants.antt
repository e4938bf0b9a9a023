use Rattle.std.proofs.Common.{◌≡◌, ◌-◌, ℕ, List, [], length}
use Rattle.std.specs.Prelude.{IfNone}
use Rattle.go_tree.specs.Classes.{next}
use Rattle.go_tree.specs.Forest.{Forest}
use Rattle.go_parse.specs.State.{Leads, Holds}
use Rattle.go_parse.specs.Machine.{state_of, topped}
use Rattle.go_parse.proofs.Steps.{turns}
use Rattle.go_parse.proofs.parser.Parser.advance.Given as goal

abbrev pub invariant-loop-next : goal.invariant-loop-next
invariant-loop-next l = record {
  holds : (g : Forest) × Holds (topped l.next (state_of l.self)) g;
  leads : (n : ℕ) (xs : List ℕ) → next xs ≡ l.fn.class → l.at ≡ n - length xs → Leads n xs (state_of l.fn.self) (topped l.next (state_of l.self));
  class : l.self.class ≡ l.fn.class;
  none : IfNone l.next ((state_of l.self).stack ≡ []);
}

abbrev pub decreases-loop-next : goal.decreases-loop-next
decreases-loop-next l = turns (topped l.next (state_of l.self)).stack
