use Rattle.std.proofs.Common.{sym, ◌∙◌}
use Rattle.findings.specs.Passes.{unit_in, marks_in}
use Rattle.vet_words.specs.Called.{SelectsMethod}
use Rattle.vet_simple.specs.Unused.{is_text_call}
use Rattle.vet_simple.proofs.GainLemmas.{both_second}
use Rattle.vet_simple.proofs.unused.is_text_method.Goals as goal

pub returns-then-is_text_call : goal.returns-then-is_text_call
returns-then-is_text_call c =
    let u = unit_in c.args.p.now in
    let marks = marks_in c.args.p.now in
    both_second (SelectsMethod u marks c.args.file c.args.node.now) (is_text_call u marks c.args.file c.args.n c.args.node.now) c.in_ok-selects.selects (sym c.is_text_call.ensures ∙ c.if-is_text_call.true)
    c.in_ok-selects.ensures
