use Rattle.std.proofs.Common.{◌∙◌, sym, ap, is_some}
use Rattle.typed_marks.specs.Cells.{Filled, cell}
use Rattle.typed_marks.proofs.FilledLemmas.{number_tells, none_tells}
use Rattle.typed_marks.proofs.cells.Cells.has.Goals as goal

pub returns-in-Some : goal.returns-in-Some
returns-in-Some c =
    let old = c.self.inside in
    c.is_number.ensures ∙ number_tells old.marks.items old.numbers.items c.args.place c.in-Some.number c.self.invariant (sym c.number_at.ensures ∙ c.in-Some.is)
    ∙ ap (λ (f : Filled). is_some (cell f.items c.args.place)) c.self.view_is

pub returns-in-None : goal.returns-in-None
returns-in-None c =
    let old = c.self.inside in
    none_tells old.marks.items old.numbers.items c.args.place (sym c.number_at.ensures ∙ c.in-None.is) ∙ ap (λ (f : Filled). is_some (cell f.items c.args.place)) c.self.view_is
