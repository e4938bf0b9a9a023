use Rattle.std.proofs.Common.{arith, sym, ◌∙◌}
use Rattle.unit_read.specs.Subjects.{unit_of}
use Rattle.selected_methods.proofs.MethodLemmas.{first_here, first_next, first_none}
use Rattle.selected_methods.proofs.methods.first_called.Goals as goal

pub loop-i-preserved : goal.loop-i-preserved
loop-i-preserved c =
    c.loop-i.invariant
    ∙ first_next (unit_of c.args.u.now) c.args.name.now c.args.list.now c.loop-i.i c.nth-at.result c.nth-at.ensures (sym c.is_called.ensures ∙ c.if-is_called.false)

pub returns : goal.returns
returns c = sym (c.loop-i.invariant ∙ first_none (unit_of c.args.u.now) c.args.name.now c.args.list.now c.loop-i.i (omega arith))

pub returns-then-is_called : goal.returns-then-is_called
returns-then-is_called c =
    sym (c.loop-i.invariant
    ∙ first_here (unit_of c.args.u.now) c.args.name.now c.args.list.now c.loop-i.i c.nth-at.result c.nth-at.ensures (sym c.is_called.ensures ∙ c.if-is_called.true))
