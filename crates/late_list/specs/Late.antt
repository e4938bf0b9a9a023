-- What late rules find in a package: a comprehension over its files, their nodes and the rules.
use Rattle.std.specs.Prelude.{◌≡◌, ◌↔◌, ◌<◌, ℕ, List, Option, Some, None}
use Rattle.std.specs.List.{Contains}
use Rattle.gv_base.specs.declared.place.Place.{Place}
use Rattle.late_list.specs.declared.late.LateFault.{LateFault}
use Rattle.late_list.specs.declared.late.LateRule.{LateRule}
use Rattle.late_list.specs.declared.late.LateRule.TheVariants as r

-- the number of each late rule
abbrev pub rule_number : LateRule → ℕ
rule_number r.RedeclaredLabel = 1
rule_number r.UnusedVariable = 6
rule_number r.ShadowedResult = 88
rule_number r.MissingReturn = 89
rule_number r.UndefinedLabel = 90
rule_number r.UnusedLabel = 91
rule_number r.OverVariable = 93
rule_number r.IntoBlock = 94
rule_number r.MisplacedBranch = 95
rule_number r.MisplacedFallthrough = 96

-- The places at which a rule finds a fault of a node: one or none.
abbrev pub IsAnswer : (Place → Type 0) → Option Place → Type 0
IsAnswer IsFault (Some place) = IsFault place × ((other : Place) → IsFault other → other ≡ place)
IsAnswer IsFault None = (other : Place) → IsFault other → ⊥

-- a rule finds a fault of a node
abbrev pub IsFoundBy : {V : Type 0} → (V → LateRule → ℕ → Place → Type 0) → V → ℕ → LateRule → LateFault → Type 0
IsFoundBy IsFault view n rule x = IsFault view rule n x.place × (x.rule ≡ rule)

abbrev pub IsFoundAt : {V : Type 0} → (V → LateRule → ℕ → Place → Type 0) → V → ℕ → LateFault → Type 0
IsFoundAt IsFault view n x = (rule : LateRule) × IsFoundBy IsFault view n rule x

abbrev pub IsFoundIn : {V : Type 0} → (V → LateRule → ℕ → Place → Type 0) → (V → ℕ) → V → LateFault → Type 0
IsFoundIn IsFault count view x = (n : ℕ) × (n < count view) × IsFoundAt IsFault view n x

-- some late rule finds the fault of some node of some file
abbrev pub IsLate : {V : Type 0} → (V → LateRule → ℕ → Place → Type 0) → (V → ℕ) → List V → LateFault → Type 0
IsLate {V} IsFault count views x = (view : V) × Contains views view × IsFoundIn IsFault count view x

-- exactly these
abbrev pub AreFound : (LateFault → Type 0) → List LateFault → Type 0
AreFound Is list = (x : LateFault) → Contains list x ↔ Is x

-- what is known of each is right
abbrev pub AreRight : {V : Type 0} → (V → Type 0) → List V → Type 0
AreRight {V} IsState views = (view : V) → Contains views view → IsState view
