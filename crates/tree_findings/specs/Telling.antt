-- What a reply tells of diagnostics and fixes, as it is asked.
use Rattle.std.specs.Prelude.{◌≡◌, ℕ, List, [], Contains, None, bit_and}
use Rattle.gv_base.specs.Files.{Entry}
use Rattle.fix_apply.specs.declared.choices.Choice.{Choice}
use Rattle.analysis_core.specs.declared.command.Command.{Command}
use Rattle.analysis_core.specs.declared.command.Command.TheVariants as command
use Rattle.analysis_core.specs.declared.reply.ChangedFile.{ChangedFile}
use Rattle.analysis_core.specs.declared.reply.Counts.{Counts}
use Rattle.analysis_core.specs.declared.reply.ErrorLine.{ErrorLine}
use Rattle.analysis_core.specs.declared.reply.FactLine.{FactLine}
use Rattle.analysis_core.specs.declared.reply.FoundLine.{FoundLine}
use Rattle.analysis_core.specs.declared.reply.Reply.{Reply}
use Rattle.analysis_core.specs.Replies.{check_reply}
use Rattle.tree_findings.specs.Lines.{IsSettled}
use Rattle.tree_findings.specs.Mending.{IsMended}

-- a reply within the limits, without facts
abbrev pub reply_with : ℕ → List ErrorLine → List FoundLine → List Choice → List ChangedFile → Counts → Reply
reply_with packages errors diagnostics choices changed counts = record {
  limit = None;
  packages = packages;
  errors = errors;
  diagnostics = diagnostics;
  facts = [];
  choices = choices;
  changed = changed;
  counts = counts;
}

-- a reply within the limits with facts alone
abbrev pub facts_reply : ℕ → List ErrorLine → List FactLine → Counts → Reply
facts_reply packages errors facts counts = record {
  limit = None;
  packages = packages;
  errors = errors;
  diagnostics = [];
  facts = facts;
  choices = [];
  changed = [];
  counts = counts;
}

-- besides the error lines nothing
abbrev pub TellsNothing : Reply → Type 0
TellsNothing r = r ≡ check_reply r.packages r.errors r.counts

-- These diagnostics, in order, each once.
pub record TellsFound (lines : List FoundLine) (r : Reply) : Type 0 where
  pub found : IsSettled lines r.diagnostics
  pub plain : r ≡ reply_with r.packages r.errors r.diagnostics [] [] r.counts

-- What becomes of the fixes of these diagnostics, taken in order, and the files that the applied ones change.
pub record TellsFixes (tree : List Entry) (lines : List FoundLine) (r : Reply) : Type 0 where
  pub found : IsSettled lines r.diagnostics
  pub mended : IsMended tree r.diagnostics r.choices r.changed
  pub plain : r ≡ reply_with r.packages r.errors r.diagnostics r.choices r.changed r.counts

-- These facts, in this order.
pub record TellsFacts (facts : List FactLine) (r : Reply) : Type 0 where
  pub plain : r ≡ facts_reply r.packages r.errors facts r.counts

-- What a reply to this command tells besides the error lines, where these are the diagnostics and the facts.
abbrev pub IsTold : Command → List Entry → List FoundLine → List FactLine → Reply → Type 0
IsTold command.Check tree lines facts r = TellsNothing r
IsTold command.Report tree lines facts r = TellsFound lines r
IsTold command.Facts tree lines facts r = TellsFacts facts r
IsTold command.Fix tree lines facts r = TellsFixes tree lines r

-- the bits of the analyzers that have facts: ctrlflow, which is the fourth, and printf, the sixth
abbrev pub with_facts : ℕ
with_facts = 80

-- the analyzers that run for this command, of those that are chosen: for a check none, and for facts those that have facts
abbrev pub chosen_by : Command → ℕ → ℕ
chosen_by command.Check only = 0
chosen_by command.Report only = only
chosen_by command.Facts only = bit_and only with_facts
chosen_by command.Fix only = only

-- the path is that of one of the files
pub record IsPathOf (tree : List Entry) (path : List ℕ) : Type 0 where
  pub entry : Entry
  pub has : Contains tree entry
  pub is : path ≡ entry.0

-- each changed file is one of the files
abbrev pub AreFilesOf : List Entry → List ChangedFile → Type 0
AreFilesOf tree changed = (f : ChangedFile) → Contains changed f → IsPathOf tree f.path
