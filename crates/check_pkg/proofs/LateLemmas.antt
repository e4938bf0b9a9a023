-- What late rules refuse, node by node and rule by rule.
use Rattle.std.proofs.Common.{◌≡◌, ◌↔◌, ℕ, List, [], ◌∷◌, ◌++◌, length, slice_get, Some, refl, sym, ◌∙◌, subst}
use Rattle.std.proofs.lemmas.Option.{slice_get_within}
use Rattle.std.specs.List.{Contains}
use Rattle.gv_base.specs.declared.place.Place.{Place}
use Rattle.go_tree.specs.declared.tree.Node.{Node}
use Rattle.go_tree.specs.declared.tree.NodeRef.{NodeRef}
use Rattle.typed_marks.specs.declared.item.Item.{Item}
use Rattle.typed_marks.specs.Meanings.{Meaning}
use Rattle.unit_read.specs.Imports.{bare}
use Rattle.unit_read.specs.Units.{Unit}
use Rattle.check_pkg.specs.declared.late_rules.Late.{Late}
use Rattle.check_pkg.specs.declared.late_rules.Late.TheVariants as l
use Rattle.check_pkg.specs.declared.refusal.Fault.{Fault}
use Rattle.check_pkg.specs.declared.refusal.Fault.TheVariants.{Rule as RuleFault}
use Rattle.check_pkg.specs.declared.refusal.Refusal.{Refusal}
use Rattle.check_pkg.specs.Faults.{start_of, spot}
use Rattle.check_pkg.specs.Gains.{Gains, SomeBelow}
use Rattle.check_pkg.specs.Late.{lates, late_rule, late_token, RefusesLate, IsLateIn, RefusedBy, IsRefusedByRow, NthLateAt, NthRefusedBy}
use Rattle.check_pkg.proofs.Lists.{stands_in, contains_at}
use Rattle.check_pkg.proofs.FaultLemmas.{same_refusal}
use Rattle.check_pkg.proofs.GainLemmas.{gains_push, gains_as}

-- each rule is among them: a row
late_there : (late : Late) → (k : ℕ) × (slice_get lates k ≡ Some late)
late_there l.InitialCycle = (0, refl)
late_there l.DuplicateCase = (1, refl)

-- the fault of a node
pub late_node : (u : Unit) (late : Late) (at : NodeRef) (node : Node) (lies : Place) (fault : Fault) (old new : List Refusal) → lies ≡ spot at.file (start_of u at.file (late_token late node))
    → fault ≡ RuleFault (late_rule late) → new ≡ old ++ record { place = lies; fault = fault } ∷ [] → Gains (IsLateIn u late at node) old new
late_node u late at node lies fault old new here is push =
    gains_push (IsLateIn u late at node) old new (record { place = lies; fault = fault }) push (here, is) (λ x (there, same). same_refusal x lies fault (there ∙ sym here) (same ∙ sym is))

-- the faults of the nodes that a rule refuses
pub nodes_gain : (u : Unit) (marks : Item → Meaning) (late : Late) (nodes given : List NodeRef) (old new : List Refusal) → given ≡ nodes
    → ((at : NodeRef) → Contains nodes at ↔ RefusesLate u marks late at) → Gains (SomeBelow (length given) (NthLateAt (bare u) late given)) old new → Gains (RefusedBy u marks late) old new
nodes_gain u marks late nodes given old new same are gains =
    gains_as (SomeBelow (length nodes) (NthLateAt (bare u) late nodes)) (RefusedBy u marks late) old new
    (subst (λ (ns : List NodeRef). Gains (SomeBelow (length ns) (NthLateAt (bare u) late ns)) old new) same gains) (λ x. (
      λ (k, low, (at, read, lies)). (at, (are at).0 (contains_at nodes k at read), lies),
      λ (at, refuses, lies). let s = stands_in nodes at ((are at).1 refuses) in (s.0, slice_get_within nodes s.0 at s.1, (at, s.1, lies)),
    ))

-- what all rows refuse
pub lates_gain : (u : Unit) (marks : Item → Meaning) (rules given : List Late) (old new : List Refusal) → given ≡ rules → rules ≡ lates
    → Gains (SomeBelow (length given) (NthRefusedBy u marks given)) old new → Gains (IsRefusedByRow u marks) old new
lates_gain u marks rules given old new same all gains =
    gains_as (SomeBelow (length lates) (NthRefusedBy u marks lates)) (IsRefusedByRow u marks) old new
    (subst (λ (rs : List Late). Gains (SomeBelow (length rs) (NthRefusedBy u marks rs)) old new) (same ∙ all) gains) (λ x. (
      λ (k, low, (late, read, refused)). (late, refused),
      λ (late, refused). let t = late_there late in (t.0, slice_get_within lates t.0 late t.1, (late, t.1, refused)),
    ))
