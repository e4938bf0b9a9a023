-- What each analyzer finds of a package.
use Rattle.std.specs.Prelude.{◌≡◌, ℕ, Bool, List, [], codes, Option, Some, None}
use Rattle.go_tree.specs.declared.tree.Node.{Node}
use Rattle.go_tree.specs.declared.tree.NodeRef.{NodeRef}
use Rattle.typed_marks.specs.declared.item.Item.{Item}
use Rattle.typed_marks.specs.Meanings.{Meaning}
use Rattle.unit_read.specs.Units.{Unit, node_at}
use Rattle.gv_bytes.specs.Spelling.{natural}
use Rattle.handed_facts.specs.Handed.{Named}
use Rattle.analysis_core.specs.AnalyzerNames.{analyzer_numbered}
use Rattle.analysis_core.specs.declared.analyzer_name.AnalyzerName.{AnalyzerName}
use Rattle.analysis_core.specs.declared.analyzer_name.AnalyzerName.TheVariants as a
use Rattle.analysis_core.specs.declared.diagnostic.Diagnostic.{Diagnostic}
use Rattle.vet_simple.specs.Assigning.{AreSelfAssigned}
use Rattle.vet_simple.specs.Bools.{AreBoolFound}
use Rattle.vet_simple.specs.NilFunctions.{AreNilCompared}
use Rattle.vet_simple.specs.RuneTexts.{AreRuneTexts, rune_texts}
use Rattle.vet_simple.specs.StructTags.{AreTagFaults}
use Rattle.vet_simple.specs.Unused.{AreUnused}
use Rattle.vet_locks.specs.CopyLocks.{AreLockCopies}
use Rattle.vet_flow.specs.Unreachable.{AreUnreachable}
use Rattle.vet_never.specs.Never.{IsNeverText}
use Rattle.vet_printf.specs.Wraps.{IsWrapsText, ArePrintfFindings}
use Rattle.vet_suite.specs.Free.{IsFree}

-- Conversions of integers to strings, with a fix where `rune` denotes the predeclared type: that counts where there is such a conversion.
pub record AreFreeRuneTexts (paths : List (List ℕ)) (u : Unit) (marks : Item → Meaning) (found : List Diagnostic) : Type 0 where
  pub free : NodeRef → Bool
  pub is_free : (at : NodeRef) (node : Node) → node_at u at ≡ Some node → (rune_texts free u marks at node ≡ [] → ⊥) → IsFree paths u (codes "rune") free
  pub are : AreRuneTexts free u marks found

-- what the analyzer of a name finds; one only says what others need
abbrev pub FoundOf : AnalyzerName → Unit → (Item → Meaning) → List (List ℕ) → List Named → List Diagnostic → Type 0
FoundOf a.Assign u marks paths given found = AreSelfAssigned u marks found
FoundOf a.Bools u marks paths given found = AreBoolFound u marks found
FoundOf a.CopyLocks u marks paths given found = AreLockCopies u marks found
FoundOf a.CtrlFlow u marks paths given found = found ≡ []
FoundOf a.NilFunc u marks paths given found = AreNilCompared u marks found
FoundOf a.Printf u marks paths given found = ArePrintfFindings u marks given found
FoundOf a.StringIntConv u marks paths given found = AreFreeRuneTexts paths u marks found
FoundOf a.StructTag u marks paths given found = AreTagFaults paths u marks found
FoundOf a.Unreachable u marks paths given found = AreUnreachable u marks found
FoundOf a.UnusedResult u marks paths given found = AreUnused u marks found

abbrev pub FoundIf : Option AnalyzerName → Unit → (Item → Meaning) → List (List ℕ) → List Named → List Diagnostic → Type 0
FoundIf None u marks paths given found = found ≡ []
FoundIf (Some name) u marks paths given found = FoundOf name u marks paths given found

-- Exactly what the analyzer of a number reports of a package with these marks, whose files have these paths, where these are the facts of other packages: in the order of diagnostics,
-- each once.
unfoldable pub FoundBy : ℕ → Unit → (Item → Meaning) → List (List ℕ) → List Named → List Diagnostic → Type 0
FoundBy number u marks paths given found = FoundIf (analyzer_numbered number) u marks paths given found

-- ---- facts

-- no fact
abbrev pub no_facts : List ℕ
no_facts = natural 0

-- The facts of the analyzer of a name, as their text.
abbrev pub FactsOf : AnalyzerName → Unit → (Item → Meaning) → List Named → List ℕ → Type 0
FactsOf a.Assign u marks given text = text ≡ no_facts
FactsOf a.Bools u marks given text = text ≡ no_facts
FactsOf a.CopyLocks u marks given text = text ≡ no_facts
FactsOf a.CtrlFlow u marks given text = IsNeverText u marks given text
FactsOf a.NilFunc u marks given text = text ≡ no_facts
FactsOf a.Printf u marks given text = IsWrapsText u marks given text
FactsOf a.StringIntConv u marks given text = text ≡ no_facts
FactsOf a.StructTag u marks given text = text ≡ no_facts
FactsOf a.Unreachable u marks given text = text ≡ no_facts
FactsOf a.UnusedResult u marks given text = text ≡ no_facts

abbrev pub FactsIf : Option AnalyzerName → Unit → (Item → Meaning) → List Named → List ℕ → Type 0
FactsIf None u marks given text = text ≡ no_facts
FactsIf (Some name) u marks given text = FactsOf name u marks given text

-- What is told of a package to those that import it: the text of the facts of the analyzer of a number, where these are the facts of other packages.
unfoldable pub FactsBy : ℕ → Unit → (Item → Meaning) → List Named → List ℕ → Type 0
FactsBy number u marks given text = FactsIf (analyzer_numbered number) u marks given text
