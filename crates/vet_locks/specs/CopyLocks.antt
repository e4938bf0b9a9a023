-- copylocks: values of lock types that are copied.
use Rattle.std.specs.Prelude.{◌≡◌, ℕ, Bool, List, Option, Some, None, option_map}
use Rattle.std.specs.List.{Contains}
use Rattle.go_tree.specs.declared.tree.Node.{Node}
use Rattle.go_tree.specs.declared.tree.NodeRef.{NodeRef}
use Rattle.type_model.specs.GoTypes.{GoType}
use Rattle.typed_marks.specs.declared.item.Item.{Item}
use Rattle.typed_marks.specs.declared.item.Stage.{Stage}
use Rattle.typed_marks.specs.Meanings.{Known, Meaning}
use Rattle.rule_words.specs.Asking.{item}
use Rattle.rule_words.specs.Good.{known_told}
use Rattle.unit_read.specs.Units.{Unit}
use Rattle.selected_methods.specs.Selected.{declared_by}
use Rattle.analysis_core.specs.declared.analyzer_name.AnalyzerName.TheVariants as analyzer
use Rattle.analysis_core.specs.declared.diagnostic.Diagnostic.{Diagnostic}
use Rattle.findings.specs.Gains.{SomeBelow, OfSome}
use Rattle.findings.specs.Passes.{unit_in, marks_in, IsPass}
use Rattle.findings.specs.Reported.{AreFindings}
use Rattle.findings.specs.declared.passing.Pass.{Pass}
use Rattle.lock_types.specs.Locks.{IsLock}
use Rattle.lock_types.specs.InTable.{AreLocks}
use Rattle.vet_words.specs.Diagnosing.{diagnosed_at}
use Rattle.vet_locks.specs.Suspects.{count_of, suspect_at, text_of}
use Rattle.vet_locks.specs.declared.suspected.Suspect.{Suspect}

-- what is known of a node, or of the object that is declared there
abbrev pub known_as : (Item → Meaning) → ℕ → Stage → ℕ → Option Known
known_as marks f stage n = known_told (marks (item stage f n))

abbrev pub known_type : Known → GoType
known_type x = x.of

abbrev pub suspect_type : (Item → Meaning) → ℕ → Suspect → Option GoType
suspect_type marks f s = option_map known_type (known_as marks f s.stage s.node)

-- its type is a lock type
abbrev pub IsLockSuspect : Unit → (Item → Meaning) → ℕ → Suspect → Type 0
IsLockSuspect u marks f s = (of : GoType) × (suspect_type marks f s ≡ Some of) × IsLock (declared_by u marks) of

-- what is said of it, at the node
abbrev pub told_of : Unit → ℕ → Suspect → List Diagnostic
told_of u f s = diagnosed_at u f s.node analyzer.CopyLocks (text_of u f s.words) None

abbrev pub IsToldOf : Unit → (Item → Meaning) → ℕ → Suspect → Diagnostic → Type 0
IsToldOf u marks f s d = IsLockSuspect u marks f s × Contains (told_of u f s) d

abbrev pub IsNthTold : Unit → (Item → Meaning) → ℕ → Node → ℕ → Diagnostic → Type 0
IsNthTold u marks f node i d = OfSome (suspect_at u f node i) (IsToldOf u marks f) d

-- Of what may copy a value in a node each of which the type is a lock type.
abbrev pub IsLockCopy : Unit → (Item → Meaning) → NodeRef → Node → Diagnostic → Type 0
IsLockCopy u marks at node d = SomeBelow (count_of u at.file node) (IsNthTold u marks at.file node) d

abbrev pub AreLockCopies : Unit → (Item → Meaning) → List Diagnostic → Type 0
AreLockCopies u marks found = AreFindings IsLockCopy u marks found

-- ---- in code

-- the flags are those of the types of a package's table, and the package is this one
pub record AreLocksOf (p : Pass) (locks : List Bool) (u : Unit) (marks : Item → Meaning) : Type 0 where
  pub pass : IsPass p
  pub unit : unit_in p ≡ u
  pub says : marks_in p ≡ marks
  pub are : AreLocks p.state.now.table locks
