-- What comes of a package that has been read, before what is kept of it is put together.
use Rattle.std.specs.Prelude.{◌≡◌, ◌↔◌, List, [], true}
use Rattle.std.specs.List.{Contains}
use Rattle.go_tree.specs.declared.bindings.Object.{Object}
use Rattle.go_tree.specs.declared.tree.NodeRef.{NodeRef}
use Rattle.mark_walk.specs.Asks.{filled}
use Rattle.package_faces.specs.Faces.{ObjectOut}
use Rattle.package_faces.specs.Interfaces.{AreObjectsIn}
use Rattle.package_faces.specs.Orders.{object_before, rises}
use Rattle.type_model.specs.Tables.{count, types_in}
use Rattle.typed_marks.specs.declared.item.Item.{Item}
use Rattle.typed_marks.specs.Meanings.{Quiet}
use Rattle.typed_marks.specs.States.{so_far}
use Rattle.unit_read.specs.declared.subject.Subject.{Subject}
use Rattle.unit_read.specs.Subjects.{full_of, unit_of}
use Rattle.unit_read.specs.Units.{Unit}
use Rattle.rule_words.specs.Asking.{Rule}
use Rattle.rule_words.specs.Scenes.{IsScene}
use Rattle.elaborate.specs.Elaborated.{IsAnnotated}
use Rattle.check_pkg.specs.declared.judging.Found.{Found}
use Rattle.check_pkg.specs.declared.judging.Judged.{Judged}
use Rattle.check_pkg.specs.declared.judging.Judged.TheVariants as j
use Rattle.check_pkg.specs.declared.judging.Outcome.{Outcome}
use Rattle.check_pkg.specs.declared.judging.Outcome.TheVariants as o
use Rattle.check_pkg.specs.declared.refusal.Refusal.{Refusal}
use Rattle.check_pkg.specs.declared.typing.Flags.{Flags}
use Rattle.check_pkg.specs.Checks.{HasCircle}
use Rattle.check_pkg.specs.Exports.{outs_in}
use Rattle.check_pkg.specs.Faults.{IsOrdered}
use Rattle.check_pkg.specs.Interfaces.{IsExported}
use Rattle.check_pkg.specs.Refusals.{IsRefused}

-- its one annotation, what refuses it, and where nothing does what it exports
pub record IsFound (rule : Unit → Item → Rule) (u : Subject) (f : Found) : Type 0 where
  pub scene : IsScene u f.state
  pub annotated : IsAnnotated rule u f.state
  pub all : (x : Refusal) → Contains f.refused.items x ↔ IsRefused (full_of u) (filled Quiet (so_far f.state)) x
  pub ordered : IsOrdered f.refused.items
  pub rise : f.refused.items ≡ [] → rises object_before (outs_in f.state f.exports.items) ≡ true
  pub exported : f.refused.items ≡ [] → (out : ObjectOut) → Contains (outs_in f.state f.exports.items) out ↔ IsExported (unit_of u) (filled Quiet (so_far f.state)) out
  pub within : f.refused.items ≡ [] → AreObjectsIn (unit_of u).path (count f.state.table) (types_in f.state.table) f.exports.items
  pub nothing : ¬ (f.refused.items ≡ []) → f.exports.items ≡ []

abbrev pub IsJudged : (Unit → Item → Rule) → Subject → Judged → Type 0
IsJudged rule u (j.Found f) = IsFound rule u f
IsJudged rule u j.Circle = HasCircle rule (full_of u)

-- what comes of it, with what is kept
abbrev pub outcome_in : Judged → List (NodeRef × Object) → Flags → Outcome
outcome_in (j.Found f) uses flags = o.Checked (record { refused = f.refused; exports = f.exports; typed = record { uses = uses; flags = flags; state = f.state } })
outcome_in j.Circle uses flags = o.Circle
