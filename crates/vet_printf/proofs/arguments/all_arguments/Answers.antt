use Rattle.findings.specs.Passes.{unit_in, marks_in}
use Rattle.vet_printf.specs.Calls.{IsNthArgument}
use Rattle.vet_printf.proofs.EachLemmas.{one_more}
use Rattle.vet_printf.proofs.arguments.all_arguments.Goals as goal

pub loop-i-preserved : goal.loop-i-preserved
loop-i-preserved c =
    one_more (IsNthArgument (unit_in c.args.p.now) (marks_in c.args.p.now) c.args.file c.args.nodes.now) c.loop-i.i c.loop-i.list.items c.push.new.self.items c.in_ok-one.one c.loop-i.invariant c.in_ok-one.ensures
    c.in_ok-push.ensures.items
