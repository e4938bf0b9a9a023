use Rattle.std.proofs.Common.{◌≤◌, length, subst, sym, ap, arith}
use Rattle.typed_marks.specs.Cells.{Filled, AllNone}
use Rattle.typed_marks.proofs.FilledLemmas.{none_after}
use Rattle.typed_marks.proofs.cells.Cells.add.Goals as goal

pub returns-in_ok-resize-in-Some-clause-none : goal.returns-in_ok-resize-in-Some-clause-none
returns-in_ok-resize-in-Some-clause-none c none =
    let low : length c.self.inside.numbers.items ≤ c.in-Some.size = omega arith in
    rw c.in_ok-resize-in-Some.ensures.items
    (none_after c.self.inside.marks.items c.self.inside.numbers.items c.in-Some.size _ c.self.invariant.none low
    (subst AllNone (sym (ap (λ (f : Filled). f.items) c.self.view_is)) none))
