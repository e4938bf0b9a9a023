use Rattle.std.proofs.Common.{[], length, map, ap, arith}
use Rattle.package_objects.proofs.GatherLemmas.{gather_on, gather_all}
use Rattle.findings.specs.Passes.{unit_in}
use Rattle.own_functions.specs.Functions.{functions_in}
use Rattle.own_functions.specs.InCode.{named_in}
use Rattle.own_functions.proofs.functions.functions_of.Goals as goal

pub loop-file-init : goal.loop-file-init
loop-file-init c = ap (λ l. map named_in l) c.new-found.ensures.items

pub loop-file-preserved : goal.loop-file-preserved
loop-file-preserved c = gather_on (functions_in (unit_in c.args.p.now)) c.loop-file.file [] (map named_in c.loop-file.found.items) (map named_in c.push_file.new.found.items) c.loop-file.invariant c.in_ok-push_file.ensures

pub returns : goal.returns
returns c =
    gather_all (functions_in (unit_in c.args.p.now)) c.loop-file.file (length c.args.p.now.subject.now.trees.now) [] (map named_in c.loop-file.found.items) (omega (arith, c.loop-file-test.false)) (omega (arith, c.loop-file.auto.file-end))
    c.loop-file.invariant
