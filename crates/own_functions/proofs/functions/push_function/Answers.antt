use Rattle.findings.specs.Passes.{unit_in}
use Rattle.own_functions.proofs.ListLemmas.{unchanged}
use Rattle.own_functions.proofs.functions.push_function.Goals as goal

pub returns : goal.returns
returns c = unchanged (unit_in c.args.p.now) c.args.file c.args.n c.args.node.now c.args.found.now.items c.declares.result c.declares.ensures c.if-declares.false
