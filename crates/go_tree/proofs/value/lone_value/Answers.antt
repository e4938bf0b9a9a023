use Rattle.std.proofs.Common.{sym, ap, ◌∙◌}
use Rattle.go_tree.specs.Escapes.{is_plain}
use Rattle.go_tree.proofs.Literals.{lone_ending, lone_stop, lone_on, lone_end}
use Rattle.go_tree.proofs.value.lone_value.Goals as goal

pub unit_value-requires : goal.unit_value-requires
unit_value-requires c = lone_ending _ _ (ap is_plain (sym c.lone_step-next.ensures) ∙ sym c.is_plain.ensures ∙ c.if-is_plain.true)

pub returns-then-is_plain : goal.returns-then-is_plain
returns-then-is_plain c = c.unit_value.ensures ∙ lone_stop _ _ _ _ c.loop-b-test.true c.loop-b.invariant (ap is_plain (sym c.lone_step-next.ensures) ∙ sym c.is_plain.ensures ∙ c.if-is_plain.true)

pub loop-b-preserved : goal.loop-b-preserved
loop-b-preserved c = lone_on _ _ _ _ _ c.loop-b-test.true c.loop-b.invariant c.lone_step-next.ensures (sym c.is_plain.ensures ∙ c.if-is_plain.false)

pub returns : goal.returns
returns c = lone_end _ _ _ _ c.loop-b-test.false c.loop-b.invariant
