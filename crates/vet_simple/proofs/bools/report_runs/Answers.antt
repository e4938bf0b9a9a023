use Rattle.std.proofs.Common.{refl, [], arith}
use Rattle.findings.specs.Passes.{unit_in, marks_in}
use Rattle.vet_simple.proofs.RunLemmas.{kept_none, seen_all}
use Rattle.vet_simple.proofs.bools.report_runs.Goals as goal

pub loop-i-init : goal.loop-i-init
loop-i-init c = record { run = []; met_operands = kept_none c.new-operands.result c.new-operands.ensures.empty; met_compared = kept_none c.new-compared.result c.new-compared.ensures.empty; so_far = refl }

pub loop-i-preserved : goal.loop-i-preserved
loop-i-preserved c = c.in_ok-report_operand.ensures c.args.list.now c.args.found.now.items c.loop-i.i c.loop-i.invariant c.operand_at-x.ensures

pub returns : goal.returns
returns c =
    seen_all (unit_in c.args.p.now) (marks_in c.args.p.now) c.args.file c.args.c c.args.list.now c.args.found.now.items c.loop-i.i c.loop-i.found.items c.loop-i.operands c.loop-i.compared c.loop-i.invariant
    (omega arith)
