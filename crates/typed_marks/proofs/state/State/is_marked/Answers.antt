use Rattle.typed_marks.specs.Meanings.{mark_in}
use Rattle.typed_marks.specs.States.{so_far, kept}
use Rattle.typed_marks.proofs.CellLemmas.{kept_said}
use Rattle.typed_marks.proofs.state.State.is_marked.Goals as goal

pub returns : goal.returns
unfolding so_far
returns c =
    let s = c.args.self.now in
    kept_said (mark_in s.table s.constants.items) (kept s.blocks.items s.cells.items c.args.item) c.is_kept.result c.is_kept.ensures
