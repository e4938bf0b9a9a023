use Rattle.std.proofs.Common.{◌≡◌, take, map}
use Rattle.tree_report.specs.Reports.{texts_of}
use Rattle.tree_report.proofs.texts.all_texts.Given as goal

abbrev pub invariant-loop-pack : goal.invariant-loop-pack
invariant-loop-pack l = l.list.items ≡ map (texts_of l.files) (take l.pack-index l.packages)
