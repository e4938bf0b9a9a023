use Rattle.std.proofs.Common.{sym, ◌∙◌}
use Rattle.findings.specs.Passes.{unit_in, marks_in}
use Rattle.vet_words.specs.Called.{SelectsMethod, names_function}
use Rattle.vet_words.proofs.MethodLemmas.{second_way}
use Rattle.vet_words.proofs.methods.is_function.Goals as goal

pub returns : goal.returns
returns c =
    let u = unit_in c.args.p.now in
    let marks = marks_in c.args.p.now in
    second_way (SelectsMethod u marks c.args.file c.args.node.now) (names_function u marks c.args.file c.args.n) c.in_ok-found.found (sym c.names_function.ensures ∙ c.if-names_function.false) c.in_ok-found.ensures
