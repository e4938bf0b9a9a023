use Rattle.std.proofs.Common.{Bool, if◌then◌else◌, Option, Some, None, sym, ap, ◌∙◌}
use Rattle.mark_walk.specs.Asks.{filled}
use Rattle.go_tree.specs.declared.bindings.Object.{Object}
use Rattle.object_order.specs.Spots.{place}
use Rattle.typed_marks.specs.Meanings.{Quiet}
use Rattle.typed_marks.specs.States.{so_far}
use Rattle.unit_read.specs.Subjects.{unit_of}
use Rattle.unit_read.specs.Units.{object_at}
use Rattle.check_pkg.specs.References.{names_field}
use Rattle.check_pkg.proofs.UsedLemmas.{none_at}
use Rattle.check_pkg.proofs.used.uses_in.Goals as goal

pub returns-in-Some : goal.returns-in-Some
returns-in-Some c =
    let u = unit_of c.args.u.now in
    let marks = filled Quiet (so_far c.args.s.now) in
    let at = place c.args.file c.args.node in
    c.unless_field.ensures
    ∙ (ap (λ (b : Bool). if b then None else Some c.in-Some.object) c.names_field.ensures
    ∙ ap (λ (o : Option Object). if names_field u marks at then None else o) (sym c.in-Some.is ∙ c.object_in.ensures))

pub returns-in-None : goal.returns-in-None
returns-in-None c =
    let u = unit_of c.args.u.now in
    let at = place c.args.file c.args.node in
    none_at (names_field u (filled Quiet (so_far c.args.s.now)) at) (object_at u at) (sym c.object_in.ensures ∙ c.in-None.is)
