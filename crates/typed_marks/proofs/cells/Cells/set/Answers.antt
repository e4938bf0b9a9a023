use Rattle.std.proofs.Common.{◌∙◌, sym, ap, subst, set, Some}
use Rattle.typed_marks.specs.Cells.{Filled, filled, AreNumbered}
use Rattle.typed_marks.proofs.FilledLemmas.{filled_here, numbered_set}
use Rattle.typed_marks.proofs.cells.Cells.set.Goals as goal

pub returns : goal.returns
returns c =
    let old = c.self.inside in
    ap (filled c.number_for.new.marks.items) c.put.ensures
    ∙ filled_here old.marks.items c.number_for.new.marks.items old.numbers.items c.args.place c.in_ok-number.number c.args.mark c.self.invariant c.in_ok-number.ensures
    ∙ ap (λ (f : Filled). set f.items c.args.place (Some c.args.mark)) c.self.view_is

pub invariant_of-self-2 : goal.invariant_of-self-2
invariant_of-self-2 c =
    let old = c.self.inside in
    subst (AreNumbered c.number_for.new.marks.items) (sym c.put.ensures)
    (numbered_set old.marks.items c.number_for.new.marks.items old.numbers.items c.args.place c.in_ok-number.number c.args.mark c.self.invariant c.in_ok-number.ensures)
