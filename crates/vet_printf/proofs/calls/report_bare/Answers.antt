use Rattle.std.proofs.Common.{Option, option_map, sym, ap, ◌∙◌}
use Rattle.typed_marks.specs.declared.mark.Facts.{Facts}
use Rattle.rule_words.specs.Good.{known_of}
use Rattle.findings.specs.Passes.{unit_in, marks_in}
use Rattle.findings.proofs.GainLemmas.{gains_some, gains_nothing}
use Rattle.vet_words.specs.Marked.{known_at}
use Rattle.vet_printf.specs.Calls.{kinds_at, IsKnownFound}
use Rattle.vet_printf.proofs.calls.report_bare.Goals as goal

pub returns-in_ok-report_known-in-Some : goal.returns-in_ok-report_known-in-Some
returns-in_ok-report_known-in-Some c =
    let p = c.args.p.now in
    let s = p.state.now in
    gains_some (known_at (marks_in p) c.args.file c.args.n) (IsKnownFound (kinds_at c.args.kinds.now.items) (unit_in p) (marks_in p) c.args.file c.args.node.now c.args.callee c.args.n) (known_of s c.in-Some.x) c.args.found.now.items
    c.report_known.new.found.items (sym c.known_at.ensures.is ∙ ap (λ (o : Option Facts). option_map (known_of s) o) c.in-Some.is) c.in_ok-report_known-in-Some.ensures

pub returns-in-None : goal.returns-in-None
returns-in-None c =
    let p = c.args.p.now in
    gains_nothing (known_at (marks_in p) c.args.file c.args.n) (IsKnownFound (kinds_at c.args.kinds.now.items) (unit_in p) (marks_in p) c.args.file c.args.node.now c.args.callee c.args.n) c.args.found.now.items
    (sym c.known_at.ensures.is ∙ ap (λ (o : Option Facts). option_map (known_of p.state.now) o) c.in-None.is)
