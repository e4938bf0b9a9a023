use Rattle.std.proofs.Common.{◌≡◌, true}
use Rattle.go_tree.proofs.NodeLemmas.{differ}
use Rattle.unit_read.specs.Subjects.{unit_of}
use Rattle.body_facts.proofs.PanicLemmas.{none_panic}
use Rattle.body_facts.proofs.name_tables.panics_of.Goals as goal

pub returns-then-not-any_panics : goal.returns-then-not-any_panics
returns-then-not-any_panics c =
    none_panic (unit_of c.args.u.now) c.args.file c.args.nodes.now c.args.parents.now c.in_ok-none.none.items c.requires.tree c.requires.parents c.in_ok-none.ensures
    (λ n is. differ c.any_panics.result c.if-not-any_panics.true (c.any_panics.ensures.1 (n, is)))
