use Rattle.std.proofs.Common.{◌∙◌}
use Rattle.typed_tree.proofs.BasicLaws.{grown_basics}
use Rattle.go_kit.proofs.loading.load_trees.Goals as goal

pub load_env-requires-clause-basics : goal.load_env-requires-clause-basics
load_env-requires-clause-basics c = grown_basics c.args.kept.table c.read_env.new.table c.requires.kept.basics c.in_ok-read.ensures.grown.table c.in_ok-read.ensures.grown.extends

pub load_env-requires-clause-error : goal.load_env-requires-clause-error
load_env-requires-clause-error c = λ name. c.in_ok-read.ensures.grown.declarations name ∙ c.requires.base name

pub load_env-requires-clause-within : goal.load_env-requires-clause-within
load_env-requires-clause-within c = rw c.in-Some.is at c.in_ok-read.ensures.within

pub load_env-requires-clause-read : goal.load_env-requires-clause-read
load_env-requires-clause-read c = rw c.as_slice.ensures at (rw c.in-Some.is at c.in_ok-read.ensures.is)
