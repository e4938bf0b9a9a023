use Rattle.std.proofs.Common.{length, arith}
use Rattle.findings.specs.Passes.{unit_in}
use Rattle.vet_never.proofs.FileLemmas.{no_functions, function_more, all_functions}
use Rattle.vet_never.proofs.bodies.functions_by_number.Goals as goal

pub loop-i-init : goal.loop-i-init
loop-i-init c = no_functions (unit_in c.args.p.now) c.new-all.result.items c.new-all.ensures.items

pub loop-i-preserved : goal.loop-i-preserved
loop-i-preserved c = function_more (unit_in c.args.p.now) c.loop-i.i c.loop-i.all.items c.push.new.self.items c.nth_function.result c.loop-i.invariant c.nth_function.ensures c.in_ok-push.ensures.items

pub returns : goal.returns
returns c = all_functions (unit_in c.args.p.now) c.loop-i.i (length c.args.list.now) c.loop-i.all.items (omega (arith, c.loop-i-test.false, c.loop-i.auto.i-end)) c.loop-i.invariant
