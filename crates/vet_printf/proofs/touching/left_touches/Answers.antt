use Rattle.std.proofs.Common.{refl, sym, ◌∙◌, arith}
use Rattle.package_objects.specs.Declares.{part, items}
use Rattle.unit_read.specs.Units.{nodes_at}
use Rattle.findings.specs.Passes.{unit_in}
use Rattle.vet_printf.specs.Forwards.{denotes}
use Rattle.vet_printf.proofs.TouchLemmas.{any_at, any_fails, any_whole}
use Rattle.vet_printf.proofs.touching.left_touches.Goals as goal

pub loop-i-init : goal.loop-i-init
loop-i-init c = refl

pub loop-i-preserved : goal.loop-i-preserved
loop-i-preserved c =
    let u = unit_in c.args.p.now in
    any_fails (denotes u c.args.file c.args.at) (items (nodes_at u c.args.file) (part c.args.node.now 0)) c.loop-i.i c.loop-i.invariant (sym c.left_denotes.ensures ∙ c.if-left_denotes.false)

pub returns-then-left_denotes : goal.returns-then-left_denotes
returns-then-left_denotes c =
    let u = unit_in c.args.p.now in
    sym (any_at (denotes u c.args.file c.args.at) (items (nodes_at u c.args.file) (part c.args.node.now 0)) c.loop-i.i (sym c.left_denotes.ensures ∙ c.if-left_denotes.true))

pub returns : goal.returns
returns c =
    let u = unit_in c.args.p.now in
    sym (sym (any_whole (denotes u c.args.file c.args.at) (items (nodes_at u c.args.file) (part c.args.node.now 0)) c.loop-i.i (omega (arith, c.loop-i-test.false, c.loop-i.auto.i-end, c.left_count-i-end.ensures))) ∙ c.loop-i.invariant)
