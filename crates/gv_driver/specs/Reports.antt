-- The verdict of each package of a tree, from its sources.
use Rattle.std.specs.Prelude.{◌≡◌, ℕ, Bool, true, false, if◌then◌else◌, Option, Some, None, List, [], ◌∷◌, ◌++◌, length, slice_get}
use Rattle.std.specs.List.{Contains}
use Rattle.analysis_core.specs.declared.diagnostic.Diagnostic.{Diagnostic}
use Rattle.analysis_core.specs.Findings.{AreFindings}
use Rattle.package_faces.specs.Faces.{Face}
use Rattle.action_graph.specs.Analyzing.{Analyzes}
use Rattle.action_graph.specs.Judging.{Env}
use Rattle.action_graph.specs.Outcomes.{outcome_text}
use Rattle.action_graph.specs.Work.{has_facts}
use Rattle.action_graph.specs.Standing.{AllFound}
use Rattle.action_graph.specs.declared.marks.MarkLine.{MarkLine}
use Rattle.action_graph.specs.Marks.{AreSpelled}
use Rattle.action_graph.specs.Nodes.{Named}
use Rattle.action_graph.specs.Judging.Judged.{Accepts, Refuses}
use Rattle.gv_driver.specs.declared.tree.PackageTexts.{PackageTexts}
use Rattle.gv_driver.specs.declared.node.Answer.{Answer}
use Rattle.gv_driver.specs.declared.node.Answer.TheVariants as answer
use Rattle.gv_driver.specs.declared.node.Node.{Node}
use Rattle.gv_driver.specs.declared.node.RunNode.{RunNode}
use Rattle.gv_driver.specs.Analyzers.{analyzers_of}
use Rattle.gv_driver.specs.declared.reply.Verdict.{Verdict}
use Rattle.gv_driver.specs.declared.reply.Verdict.TheVariants as verdict
use Rattle.gv_driver.specs.Facts.{HasFacts, IsGiven}
use Rattle.gv_driver.specs.Tables.{runs_of_node}
use Rattle.gv_driver.specs.Standing.{AllStand}
use Rattle.gv_driver.specs.Whole.{Checked, HasEnv}

-- the verdict of a package
abbrev pub HasVerdict : List PackageTexts → ℕ → Verdict → Type 0
HasVerdict tree p verdict.Faulty = (pack : PackageTexts) × (slice_get tree p ≡ Some pack) × (pack.sound ≡ false)
HasVerdict tree p verdict.Blocked = (pack : PackageTexts) × (slice_get tree p ≡ Some pack) × (pack.sound ≡ true)
    × ((q : ℕ) × Contains pack.imports q × ((i : Face) → Checked tree q (Accepts i) → ⊥))
HasVerdict tree p (verdict.Refused marks) = Checked tree p (Refuses marks)
HasVerdict tree p verdict.Accepted = (i : Face) × Checked tree p (Accepts i)

-- the verdicts of all packages
pub record IsReport (tree : List PackageTexts) (verdicts : List Verdict) : Type 0 where
  pub size : length verdicts ≡ length tree
  pub each : (p : ℕ) (v : Verdict) → slice_get verdicts p ≡ Some v → HasVerdict tree p v

-- what an analyzer finds of a package, over what is seen of its environment, and the facts of this
pub record IsFoundOf (tree : List PackageTexts) (p a : ℕ) (pack : PackageTexts) (found : List Diagnostic) : Type 0 where
  pub env : Env
  pub faces : HasEnv tree p env
  pub given : List Named
  pub are_given : IsGiven tree a faces.0 given
  pub findings : List ℕ
  pub facts : List ℕ
  pub analyzes : Analyzes a pack.path pack.files env given findings facts
  pub spelled : AreFindings found findings

-- what these analyzers find, in turn
abbrev pub AreFoundOf : List PackageTexts → ℕ → PackageTexts → List ℕ → List Diagnostic → Type 0
AreFoundOf tree p pack [] found = found ≡ []
AreFoundOf tree p pack (a ∷ numbers) found = (mine more : List Diagnostic) × IsFoundOf tree p a pack mine × AreFoundOf tree p pack numbers more × (found ≡ mine ++ more)

-- of an accepted package what the analyzers find that run over it, of every other nothing
abbrev pub HasFound : List PackageTexts → ℕ → ℕ → Verdict → List Diagnostic → Type 0
HasFound tree only p verdict.Faulty found = found ≡ []
HasFound tree only p verdict.Blocked found = found ≡ []
HasFound tree only p (verdict.Refused marks) found = found ≡ []
HasFound tree only p verdict.Accepted found = (pack : PackageTexts) × (slice_get tree p ≡ Some pack) × AreFoundOf tree p pack (analyzers_of only pack.stub) found

-- What the analyzers find of each package, beside its verdict.
pub record IsRunReport (tree : List PackageTexts) (only : ℕ) (verdicts : List Verdict) (found : List (List Diagnostic)) : Type 0 where
  pub size : length found ≡ length tree
  pub each : (p : ℕ) (v : Verdict) (ds : List Diagnostic) → slice_get verdicts p ≡ Some v → slice_get found p ≡ Some ds → HasFound tree only p v ds

-- those of these analyzers that have facts
abbrev pub fact_givers : List ℕ → List ℕ
fact_givers [] = []
fact_givers (a ∷ numbers) = if has_facts a then a ∷ fact_givers numbers else fact_givers numbers

-- the facts that these analyzers give of a package, in turn
abbrev pub AreFactsTold : List PackageTexts → ℕ → List ℕ → List (ℕ × List ℕ) → Type 0
AreFactsTold tree p [] facts = facts ≡ []
AreFactsTold tree p (a ∷ numbers) facts = (text : List ℕ) × (more : List (ℕ × List ℕ)) × HasFacts tree a p text × AreFactsTold tree p numbers more × (facts ≡ (a, text) ∷ more)

-- of an accepted package those that the analyzers give that run over it, of every other none
abbrev pub HasFactsTold : List PackageTexts → ℕ → ℕ → Verdict → List (ℕ × List ℕ) → Type 0
HasFactsTold tree only p verdict.Faulty facts = facts ≡ []
HasFactsTold tree only p verdict.Blocked facts = facts ≡ []
HasFactsTold tree only p (verdict.Refused marks) facts = facts ≡ []
HasFactsTold tree only p verdict.Accepted facts = (pack : PackageTexts) × (slice_get tree p ≡ Some pack) × AreFactsTold tree p (fact_givers (analyzers_of only pack.stub)) facts

-- The facts of each package, beside its verdict.
pub record IsFactReport (tree : List PackageTexts) (only : ℕ) (verdicts : List Verdict) (facts : List (List (ℕ × List ℕ))) : Type 0 where
  pub size : length facts ≡ length tree
  pub each : (p : ℕ) (v : Verdict) (fs : List (ℕ × List ℕ)) → slice_get verdicts p ≡ Some v → slice_get facts p ≡ Some fs → HasFactsTold tree only p v fs

-- what an answer shows of these files: marks that stand in them, and where such are spelled, these
abbrev pub IsAnswerShown : List Named → Answer → Verdict → Type 0
IsAnswerShown files (answer.Accepted export) v = v ≡ verdict.Accepted
IsAnswerShown files (answer.Refused text) v = (list : List MarkLine) × (v ≡ verdict.Refused list) × AllStand files list
    × ((marks : List MarkLine) → AreSpelled marks text → AllStand files marks → list ≡ marks)

abbrev pub IsShown : List Named → Bool → Option Node → Verdict → Type 0
IsShown files false known v = v ≡ verdict.Faulty
IsShown files true None v = v ≡ verdict.Blocked
IsShown files true (Some n) v = IsAnswerShown files n.answer v

-- each of the verdicts shows what the table has
pub record AreShown (tree : List PackageTexts) (table : List (Option Node)) (verdicts : List Verdict) (end : ℕ) : Type 0 where
  pub size : length verdicts ≡ end
  pub each : (p : ℕ) (pack : PackageTexts) (node : Option Node) (v : Verdict) → slice_get tree p ≡ Some pack → slice_get table p ≡ Some node → slice_get verdicts p ≡ Some v
      → IsShown pack.files pack.sound node v

-- what an outcome text of an analyzer's run shows of these files: diagnostics that stand in them, and where such are spelled, these
pub record IsFoundShown (files : List Named) (a : ℕ) (text : List ℕ) (found : List Diagnostic) : Type 0 where
  pub stand : AllFound files a found
  pub told : (findings facts : List ℕ) (ds : List Diagnostic) → text ≡ outcome_text findings facts → AreFindings ds findings → AllFound files a ds → found ≡ ds

-- those of the outcome texts of these runs, in turn
abbrev pub AreFoundShown : List Named → List RunNode → List Diagnostic → Type 0
AreFoundShown files [] found = found ≡ []
AreFoundShown files (r ∷ more) found = (mine rest : List Diagnostic) × IsFoundShown files r.analyzer r.outcome mine × AreFoundShown files more rest × (found ≡ mine ++ rest)

-- each of these shows what the runs of the table have
pub record AllFoundShown (tree : List PackageTexts) (table : List (Option Node)) (found : List (List Diagnostic)) (end : ℕ) : Type 0 where
  pub size : length found ≡ end
  pub each : (p : ℕ) (pack : PackageTexts) (node : Option Node) (ds : List Diagnostic) → slice_get tree p ≡ Some pack → slice_get table p ≡ Some node → slice_get found p ≡ Some ds
      → AreFoundShown pack.files (runs_of_node node) ds
