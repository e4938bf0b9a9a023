use Rattle.std.proofs.Common.{[], refl}
use Rattle.typed_marks.specs.States.{so_far}
use Rattle.typed_marks.proofs.TableLemmas.{grown_more, mark_still, stays, nothing_more}
use Rattle.typed_marks.proofs.state.State.add.Goals as goal

pub returns-clause-grown : goal.returns-clause-grown
unfolding so_far
returns-clause-grown c =
    let old = c.args.self.now in
    let grown = c.add.ensures.grown in
    let more = grown_more old.table c.add.new.self old.constants.items grown in
    record {
      state = record {
        table = grown.table;
        blocks = c.requires.state.blocks;
        over = λ n mark e. mark_still old.table c.add.new.self old.constants.items old.constants.items more mark (c.requires.state.over n mark e);
      };
      stays = stays old.table c.add.new.self old.constants.items old.constants.items more old.blocks.items old.cells.items c.requires.state.over;
      blocks = refl;
      extends = grown.extends;
      declarations = grown.declarations;
      constants = ([], nothing_more old.constants.items);
    }
