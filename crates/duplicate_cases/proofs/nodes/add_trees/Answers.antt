use Rattle.std.proofs.Common.{List, [], length, ap, sym, ◌∙◌, ◌++◌, arith}
use Rattle.std.specs.Option.{option_map_or}
use Rattle.mark_walk.specs.Asks.{filled}
use Rattle.package_objects.proofs.GatherLemmas.{gather_on, gather_all}
use Rattle.typed_marks.specs.Meanings.{Quiet}
use Rattle.typed_marks.specs.States.{so_far}
use Rattle.duplicate_cases.specs.InCode.{tree_duplicates, file_duplicates}
use Rattle.duplicate_cases.proofs.nodes.add_trees.Goals as goal

pub loop-file-preserved : goal.loop-file-preserved
loop-file-preserved c =
    gather_on (file_duplicates c.args.trees.now (filled Quiet (so_far c.args.s.now))) c.loop-file.file c.args.out.now.items c.loop-file.out.items c.add_tree.new.out.items c.loop-file.invariant
    (c.in_ok-add_tree.ensures ∙ ap (λ o. c.loop-file.out.items ++ option_map_or (tree_duplicates (filled Quiet (so_far c.args.s.now)) c.loop-file.file) o []) (sym c.tree_of.ensures))

pub add_tree-requires-clause-small : goal.add_tree-requires-clause-small
add_tree-requires-clause-small c = c.requires.small c.loop-file.file c.tree_of.result.now c.tree_of.ensures

pub returns : goal.returns
returns c =
    gather_all (file_duplicates c.args.trees.now (filled Quiet (so_far c.args.s.now))) c.loop-file.file (length c.args.trees.now) c.args.out.now.items c.loop-file.out.items
    (omega arith) (omega arith) c.loop-file.invariant
