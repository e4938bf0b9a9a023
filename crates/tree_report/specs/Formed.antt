-- What the code holds of a tree, and of its reply.
use Rattle.std.specs.Prelude.{◌≡◌, Option, List, length, map}
use Rattle.gv_base.specs.Files.{Entry}
use Rattle.analysis_core.specs.declared.command.Command.{Command}
use Rattle.analysis_core.specs.declared.reply.Reply.{Reply}
use Rattle.gv_driver.specs.declared.reply.Judgement.{Judgement}
use Rattle.fact_lines.specs.Lines.{all_facts}
use Rattle.tree_findings.specs.Lines.{all_lines}
use Rattle.tree_findings.specs.Telling.{IsTold}
use Rattle.parse_file.specs.declared.verdict.FileVerdict.{FileVerdict}
use Rattle.tree_report.specs.Lines.{refusal_of, error_lines}
use Rattle.tree_report.specs.declared.formed.Formed.{Formed}
use Rattle.tree_report.specs.declared.formed.Known.{Known}
use Rattle.tree_report.specs.declared.formed.Known.TheVariants as known
use Rattle.tree_report.specs.Form.{IsForm}
use Rattle.tree_report.specs.Limits.{IsFirstLimit}

-- these are the refusals and heads of the files, and the packages
abbrev pub Holds : List Entry → Formed → Type 0
Holds tree f = (verdicts : List (Option FileVerdict)) × (IsForm tree verdicts f.heads.items f.packages.items × (f.refusals.items ≡ map refusal_of verdicts))

abbrev pub IsKnown : List Entry → Known → Type 0
IsKnown tree (known.Over first) = IsFirstLimit tree first
IsKnown tree (known.Of f) = Holds tree f

-- The reply of a run over the packages of a tree, as it is asked.
pub record IsReplyOf (tree : List Entry) (asked : Command) (f : Formed) (ran : Judgement) (reply : Reply) : Type 0 where
  pub told : IsTold asked tree (all_lines f.packages.items ran.found) (all_facts f.packages.items ran.facts) reply
  pub size : reply.packages ≡ length f.packages.items
  pub errors : reply.errors ≡ error_lines f.heads.items f.refusals.items f.packages.items ran.verdicts
  pub counts : reply.counts ≡ ran.counts
