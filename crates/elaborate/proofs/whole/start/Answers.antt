use Rattle.std.proofs.Common.{◌≡◌, ◌∙◌, List, sym, ap, subst}
use Rattle.typed_marks.specs.declared.item.Block.{Block}
use Rattle.typed_marks.specs.Items.{IsItem}
use Rattle.typed_marks.specs.States.{laid, room}
use Rattle.elaborate.proofs.CoverLemmas.{started}
use Rattle.elaborate.proofs.whole.start.Goals as goal

pub returns-clause-work : goal.returns-clause-work
returns-clause-work c =
    let s = c.in_ok-state.state in
    let made = c.in_ok-state.ensures in
    let spans = c.deref.ensures.value ∙ c.in_ok-list.ensures in
    started c.args.u.now s c.args.table c.requires.read c.requires.basics c.requires.env c.requires.base made.state made.table
    (made.blocks ∙ ap (laid 0) spans) (made.cells ∙ ap room spans)
    c.counted.ensures made.unmarked

pub returns-clause-unmarked : goal.returns-clause-unmarked
returns-clause-unmarked c = λ i is.
    let made = c.in_ok-state.ensures in
    let blocks = made.blocks ∙ ap (laid 0) (c.deref.ensures.value ∙ c.in_ok-list.ensures) in
    made.unmarked i (subst (λ (bs : List Block). IsItem bs i) (sym blocks) is)
