use Rattle.std.proofs.Common.{ap, ◌∙◌}
use Rattle.std.specs.Global.{Vec}
use Rattle.typed_marks.specs.declared.item.Block.{Block}
use Rattle.elaborate.proofs.steps.leave.Goals as goal

pub returns-clause-work : goal.returns-clause-work
returns-clause-work c =
    let kept = c.in_ok-keep.ensures in
    record {
      scene = kept.scene;
      blocks = ap (λ (blocks : Vec Block). blocks.items) kept.blocks ∙ c.requires.work.blocks;
      cells = kept.cells ∙ c.requires.work.cells;
      fits = c.requires.work.fits;
    }
