use Rattle.std.proofs.Common.{false, refl}
use Rattle.go_tree.proofs.NodeLemmas.{differ}
use Rattle.check_pkg.proofs.faults.are_quiet.Goals as goal

pub returns-then-not-is_quiet : goal.returns-then-not-is_quiet
returns-then-not-is_quiet c = (
  λ e. absurd (differ false refl e),
  λ none. absurd (differ c.is_quiet.result c.if-not-is_quiet.true (c.is_quiet.ensures.1 none.0)),
)

pub returns : goal.returns
returns c = (
  λ e. (c.is_quiet.ensures.0 c.if-not-is_quiet.false, c.is_quiet-2.ensures.0 e),
  λ none. c.is_quiet-2.ensures.1 none.1,
)
