-- Late rules: those that are tested when all marks stand, and on which no mark rests. A late rule is a row here: its number, the nodes that it refuses,
-- and at which of their tokens a fault stands; or one of bodies.
use Rattle.std.specs.Prelude.{◌≡◌, ◌⊎◌, ℕ, List, [], ◌∷◌, slice_get}
use Rattle.go_tree.specs.declared.tree.Node.{Node}
use Rattle.go_tree.specs.declared.tree.NodeRef.{NodeRef}
use Rattle.typed_tree.specs.declared.rule.Rule.{Rule}
use Rattle.typed_marks.specs.declared.item.Item.{Item}
use Rattle.typed_marks.specs.Meanings.{Meaning}
use Rattle.unit_read.specs.Imports.{bare}
use Rattle.unit_read.specs.Units.{Unit, node_at}
use Rattle.duplicate_cases.specs.Duplicates.{IsDuplicateCase}
use Rattle.check_pkg.specs.declared.late_rules.Late.{Late}
use Rattle.check_pkg.specs.declared.late_rules.Late.TheVariants as l
use Rattle.typed_tree.specs.declared.rule.TheConstants.{INITIALISATION_CYCLE, DUPLICATE_CASE}
use Rattle.check_pkg.specs.declared.refusal.Fault.TheVariants.{Rule as RuleFault}
use Rattle.check_pkg.specs.declared.refusal.Refusal.{Refusal}
use Rattle.check_pkg.specs.Faults.{start_of, spot}
use Rattle.check_pkg.specs.Gains.{OfSome}
use Rattle.check_pkg.specs.Initial.{IsInitialFault}
use Rattle.check_pkg.specs.InBodies.{IsRefusedInBody}

-- ---- the rows

abbrev pub lates : List Late
lates = l.InitialCycle ∷ l.DuplicateCase ∷ []

abbrev pub late_rule : Late → Rule
late_rule l.InitialCycle = INITIALISATION_CYCLE
late_rule l.DuplicateCase = DUPLICATE_CASE

-- the token at which the fault of a node stands
abbrev pub late_token : Late → Node → ℕ
late_token l.InitialCycle node = node.first
late_token l.DuplicateCase node = node.first

-- the rule refuses the node
abbrev pub RefusesLate : Unit → (Item → Meaning) → Late → NodeRef → Type 0
RefusesLate u marks l.InitialCycle at = IsInitialFault u marks at
RefusesLate u marks l.DuplicateCase at = IsDuplicateCase (bare u) marks at

-- ---- what they refuse

-- the fault of a node
abbrev pub IsLateIn : Unit → Late → NodeRef → Node → Refusal → Type 0
IsLateIn u late at node x = (x.place ≡ spot at.file (start_of u at.file (late_token late node))) × (x.fault ≡ RuleFault (late_rule late))

abbrev pub IsLateAt : Unit → Late → NodeRef → Refusal → Type 0
IsLateAt u late at x = OfSome (node_at u at) (IsLateIn u late at) x

-- a node that the rule refuses
abbrev pub RefusedBy : Unit → (Item → Meaning) → Late → Refusal → Type 0
RefusedBy u marks late x = (at : NodeRef) × RefusesLate u marks late at × IsLateAt (bare u) late at x

-- some row refuses the package
abbrev pub IsRefusedByRow : Unit → (Item → Meaning) → Refusal → Type 0
IsRefusedByRow u marks x = (late : Late) × RefusedBy u marks late x

-- Some late rule refuses the package.
abbrev pub IsRefusedLate : Unit → (Item → Meaning) → Refusal → Type 0
IsRefusedLate u marks x = IsRefusedByRow u marks x ⊎ IsRefusedInBody (bare u) marks x

-- ---- as they are found

abbrev pub NthLateAt : Unit → Late → List NodeRef → ℕ → Refusal → Type 0
NthLateAt u late nodes k x = OfSome (slice_get nodes k) (IsLateAt u late) x

abbrev pub NthRefusedBy : Unit → (Item → Meaning) → List Late → ℕ → Refusal → Type 0
NthRefusedBy u marks list k x = OfSome (slice_get list k) (RefusedBy u marks) x
