use Rattle.std.proofs.Common.{subst}
use Rattle.typed_marks.specs.declared.item.Item.{Item}
use Rattle.unit_read.specs.Subjects.{unit_of}
use Rattle.rule_words.specs.Declaring.{IsDeclaringAt}
use Rattle.go_rules.proofs.DeclareLemmas.{own_item}
use Rattle.go_rules.proofs.declare.declare_own.Goals as goal

pub returns-in_ok-declaring-clause-over : goal.returns-in_ok-declaring-clause-over
returns-in_ok-declaring-clause-over c =
    subst (λ (i : Item). IsDeclaringAt (unit_of c.args.u.now) c.args.s.now i c.in_ok-declaring.declaring)
    (own_item c.args.item c.args.at c.requires.stage c.if-item-at.true c.requires.node) c.in_ok-declaring.ensures.over
