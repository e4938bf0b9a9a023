use Rattle.std.proofs.Common.{length, map, append-nil, sym, arith}
use Rattle.package_objects.proofs.GatherLemmas.{gather_on, gather_all}
use Rattle.unit_read.specs.Units.{nodes_at}
use Rattle.findings.specs.Passes.{unit_in}
use Rattle.own_functions.specs.Functions.{function_at}
use Rattle.own_functions.specs.InCode.{named_in}
use Rattle.own_functions.proofs.functions.push_file.Goals as goal

pub loop-n-init : goal.loop-n-init
loop-n-init c = sym (append-nil (map named_in c.args.found.now.items))

pub loop-n-preserved : goal.loop-n-preserved
loop-n-preserved c =
    gather_on (function_at (unit_in c.args.p.now) c.args.file) c.loop-n.n (map named_in c.args.found.now.items) (map named_in c.loop-n.found.items) (map named_in c.push_at.new.found.items) c.loop-n.invariant c.in_ok-push_at.ensures

-- guessed: the name of the loop's end (`node_count-n-end`)
pub returns : goal.returns
returns c =
    gather_all (function_at (unit_in c.args.p.now) c.args.file) c.loop-n.n (length (nodes_at (unit_in c.args.p.now) c.args.file)) (map named_in c.args.found.now.items) (map named_in c.loop-n.found.items)
    (omega (arith, c.loop-n-test.false, c.node_count-n-end.ensures.count)) (omega (arith, c.loop-n.auto.n-end, c.node_count-n-end.ensures.count)) c.loop-n.invariant
