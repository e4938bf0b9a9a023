use Rattle.bind.specs.Places.{placed}
use Rattle.bind.specs.Tables.{found}
use Rattle.bind.proofs.StepLemmas.{local_answer, outside_answer}
use Rattle.bind.proofs.answer.named_answer.Goals as goal

pub returns-in-Some : goal.returns-in-Some
returns-in-Some c =
    local_answer c.args.file.now c.args.number (record { top_names = found c.args.top_names.now; imports = found c.args.imports.now; universe = placed c.args.universe.now }) c.args.at c.args.name.now
    c.local_node.result c.in-Some.node c.ref_to.result c.local_node.ensures c.in-Some.is c.ref_to.ensures

pub returns-in-None : goal.returns-in-None
returns-in-None c =
    outside_answer c.args.file.now c.args.number (record { top_names = found c.args.top_names.now; imports = found c.args.imports.now; universe = placed c.args.universe.now }) c.args.at c.args.name.now
    c.local_node.result c.find.result c.find-in-None.result c.place_of.result c.outside.result c.local_node.ensures c.in-None.is c.find.ensures c.find-in-None.ensures c.place_of.ensures c.outside.ensures
