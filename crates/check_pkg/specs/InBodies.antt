-- What the late rules of bodies refuse: labels and jumps, variables that nothing reads, bodies that may end.
use Rattle.std.specs.Prelude.{◌≡◌, ℕ, List, slice_get}
use Rattle.go_tree.specs.declared.tree.NodeRef.{NodeRef}
use Rattle.late_list.specs.declared.late.LateFault.{LateFault}
use Rattle.late_list.specs.declared.late.LateRule.{LateRule}
use Rattle.late_list.specs.Late.{rule_number}
use Rattle.typed_tree.specs.declared.rule.Rule.{Rule}
use Rattle.typed_marks.specs.declared.item.Item.{Item}
use Rattle.typed_marks.specs.Meanings.{Meaning}
use Rattle.unit_read.specs.Units.{Unit}
use Rattle.body_facts.specs.Facts.{IsBodyFault}
use Rattle.check_pkg.specs.declared.refusal.Fault.TheVariants.{Rule as RuleFault}
use Rattle.check_pkg.specs.declared.refusal.Refusal.{Refusal}
use Rattle.check_pkg.specs.Gains.{OfSome}
use Rattle.check_pkg.specs.References.{reads_at}

abbrev pub rule_of : LateRule → Rule
rule_of rule = record { 0 = rule_number rule }

-- the fault of a body, as a refusal
abbrev pub IsOfFault : LateFault → Refusal → Type 0
IsOfFault y x = (x.place ≡ y.place) × (x.fault ≡ RuleFault (rule_of y.rule))

-- A late rule of bodies refuses the package. The name of a field before a colon reads no variable.
abbrev pub IsRefusedInBody : Unit → (Item → Meaning) → Refusal → Type 0
IsRefusedInBody u marks x = (y : LateFault) × IsBodyFault u (reads_at u marks) y × IsOfFault y x

-- ---- as they are found

abbrev pub NthOfFault : List LateFault → ℕ → Refusal → Type 0
NthOfFault list k x = OfSome (slice_get list k) IsOfFault x
