use Rattle.std.proofs.Common.{[], ◌∷◌, ◌++◌, refl, sym, subst}
use Rattle.type_model.proofs.TypeLaws.{extends-itself}
use Rattle.type_model.specs.Tables.{terms_in}
use Rattle.typed_marks.specs.States.{so_far}
use Rattle.typed_marks.proofs.TableLemmas.{constants_are, mark_still, stays}
use Rattle.typed_marks.proofs.state.State.add_constant.Goals as goal

pub returns-clause-grown : goal.returns-clause-grown
unfolding so_far
returns-clause-grown c =
    let old = c.args.self.now in
    let new = c.push.new.self.items in
    let more = constants_are old.table old.constants.items new c.args.constant c.in_ok-push.ensures.items in
    record {
      state = record {
        table = c.requires.table;
        blocks = c.requires.blocks;
        over = λ n mark e. mark_still old.table old.table old.constants.items new more mark (c.requires.over n mark e);
      };
      stays = stays old.table old.table old.constants.items new more old.blocks.items old.cells.items c.requires.over;
      blocks = refl;
      extends = extends-itself (terms_in old.table);
      declarations = λ name. refl;
      constants = (c.args.constant ∷ [], c.in_ok-push.ensures.items);
    }
