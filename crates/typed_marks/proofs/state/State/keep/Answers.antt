use Rattle.std.proofs.Common.{◌≡◌, ◌∙◌, sym, ap, subst, length, set, length-set, List, Option, Some}
use Rattle.mark_walk.specs.Asks.{Adds}
use Rattle.typed_marks.specs.declared.mark.Mark.{Mark}
use Rattle.typed_marks.specs.Items.{number_of}
use Rattle.typed_marks.specs.Meanings.{mark_in}
use Rattle.typed_marks.specs.States.{so_far, said_over}
use Rattle.typed_marks.proofs.CellLemmas.{adds_cell}
use Rattle.typed_marks.proofs.state.State.keep.Goals as goal

pub returns-clause-adds : goal.returns-clause-adds
unfolding so_far
returns-clause-adds c =
    let s = c.args.self.now in
    let are : c.set.new.self.items ≡ set s.cells.items (number_of s.blocks.items c.args.item) (Some c.args.mark) =
    c.in_ok-set.ensures ∙ ap (λ n. set s.cells.items n (Some c.args.mark)) (c.number_of-number.ensures.number ∙ ap (λ bs. number_of bs c.args.item) c.deref.ensures.value) in
    subst (λ (cells : List (Option Mark)). Adds (said_over s.table s.constants.items s.blocks.items s.cells.items) (said_over s.table s.constants.items s.blocks.items cells) c.args.item (mark_in s.table s.constants.items c.args.mark))
    (sym are) (adds_cell s.table s.constants.items s.blocks.items s.cells.items c.args.item c.args.mark c.requires.state.blocks c.requires.item c.requires.unmarked)

pub returns-clause-cells : goal.returns-clause-cells
returns-clause-cells c =
    ap (λ (cells : List (Option Mark)). length cells) c.in_ok-set.ensures ∙ length-set c.args.self.now.cells.items c.number_of-number.result (Some c.args.mark)
