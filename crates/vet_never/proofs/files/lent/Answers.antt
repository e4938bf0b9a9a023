use Rattle.std.proofs.Common.{length, refl}
use Rattle.std.proofs.lemmas.Option.{slice_get_read}
use Rattle.vet_never.proofs.files.lent.Goals as goal

pub returns : goal.returns
returns c =
    let trees = c.args.trees.now in
    let list = c.args.list.now in
    record {
      tree = c.index-trees-i.result;
      known = c.index-list-i.result;
      tree_there = slice_get_read trees (length trees) c.args.i c.index-trees-i.result refl c.requires.tree c.index-trees-i.is;
      known_there = slice_get_read list (length list) c.args.i c.index-list-i.result refl c.requires.known c.index-list-i.is;
      tree_is = refl;
      labels_are = c.deref.ensures.value;
      graph_is = refl;
      calls_are = c.deref-2.ensures.value;
    }
