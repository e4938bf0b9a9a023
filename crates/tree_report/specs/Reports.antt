-- What a run answers of a tree, and what it leaves in the cache.
use Rattle.std.specs.Prelude.{◌≡◌, ℕ, Option, Some, List, [], length, map, All}
use Rattle.gv_base.specs.Files.{Entry}
use Rattle.fact_cache.specs.declared.texts.Input.{Input}
use Rattle.fact_cache.specs.declared.list.Entry.{Entry as Kept}
use Rattle.parse_file.specs.declared.verdict.FileVerdict.{FileVerdict}
use Rattle.import_graph.specs.Orders.{is_sound}
use Rattle.import_graph.specs.declared.pack.Package.{Package}
use Rattle.gv_driver.specs.declared.tree.PackageTexts.{PackageTexts}
use Rattle.gv_driver.specs.declared.reply.Verdict.{Verdict}
pub use Rattle.gv_driver.specs.Caches.{IsHonest}
use Rattle.gv_driver.specs.Caches.{IsCacheAfter, loads_of, missing_of, runs_of}
use Rattle.gv_driver.specs.Loads.{IsPlan, all_inputs}
use Rattle.gv_driver.specs.Reports.{IsFactReport, IsReport, IsRunReport}
use Rattle.gv_driver.specs.Runs.{IsCutOff, MeetsCircle}
use Rattle.gv_driver.specs.Tallies.{Tally}
use Rattle.gv_driver.specs.Whole.{HasStuck}
use Rattle.analysis_core.specs.declared.command.Command.{Command}
use Rattle.analysis_core.specs.declared.diagnostic.Diagnostic.{Diagnostic}
use Rattle.analysis_core.specs.declared.reply.Reply.{Reply}
use Rattle.analysis_core.specs.declared.reply.TreeLimit.{TreeLimit}
use Rattle.analysis_core.specs.Replies.{file_numbered, no_counts}
use Rattle.report_text.specs.Standing.{StandsIn}
use Rattle.report_text.specs.ReplyStanding.{FoundStands}
use Rattle.fact_lines.specs.Lines.{all_facts}
use Rattle.tree_findings.specs.Lines.{all_lines}
pub use Rattle.tree_findings.specs.Telling.{AreFilesOf}
use Rattle.tree_findings.specs.Telling.{IsTold, chosen_by}
use Rattle.go_tree.specs.declared.head.Head.{Head}
use Rattle.tree_report.specs.Form.{IsForm}
use Rattle.tree_report.specs.Limits.{IsFirstLimit}
use Rattle.tree_report.specs.Lines.{error_lines}

-- a package with the texts of its files
abbrev pub texts_of : List Entry → Package → PackageTexts
texts_of tree p = record { path = p.path; stub = p.stub; sound = is_sound p.state; imports = p.imports; files = map (file_numbered tree) p.files }

-- The reply of a run over a tree that is over a limit, whatever is asked: it names the first, and nothing more. There are no nodes, so that all counts are 0, and no file changes.
abbrev pub limit_reply : TreeLimit → Reply
limit_reply first = record { limit = Some first; packages = 0; errors = []; diagnostics = []; facts = []; choices = []; changed = []; counts = no_counts }

pub record ReportsLimit (tree : List Entry) (reply : Reply) : Type 0 where
  pub limit : TreeLimit
  pub first : IsFirstLimit tree limit
  pub replies : reply ≡ limit_reply limit

-- The reply to a tree within the limits, as it is asked and with these analyzers, over one cache and leaving another. What comes of its packages
-- and what is found in them, and the facts of their functions, come of their sources and know neither cache nor export texts. The nodes are the loads of its packages and the runs
-- of analyzers over those that are accepted; those for whose inputs the cache had nothing were executed and stand in it then, and so were the loads
-- that a run needed. The reply has the error lines, and what the command asks for besides.
pub record ReportsPackages (asked : Command) (only : ℕ) (tree : List Entry) (before after : List Kept) (reply : Reply) : Type 0 where
  pub verdicts : List (Option FileVerdict)
  pub heads : List (Option Head)
  pub packages : List Package
  pub form : IsForm tree verdicts heads packages
  pub outcomes : List Verdict
  pub outcome : IsReport (map (texts_of tree) packages) outcomes
  pub findings : List (List Diagnostic)
  pub finds : IsRunReport (map (texts_of tree) packages) (chosen_by asked only) outcomes findings
  pub facts : List (List (ℕ × List ℕ))
  pub given : IsFactReport (map (texts_of tree) packages) (chosen_by asked only) outcomes facts
  pub plan : List (List Input)
  pub is_plan : IsPlan (map (texts_of tree) packages) (chosen_by asked only) plan
  pub cache : IsCacheAfter before after (all_inputs plan)
  pub told : IsTold asked tree (all_lines packages findings) (all_facts packages facts) reply
  pub size : reply.packages ≡ length packages
  pub errors : reply.errors ≡ error_lines heads verdicts packages outcomes
  pub nodes : reply.counts.nodes ≡ length (all_inputs plan)
  pub missing : reply.counts.missing ≡ length (missing_of before (all_inputs plan))
  pub loads : reply.counts.loads ≡ loads_of before plan
  pub runs : reply.counts.runs ≡ runs_of before plan

-- The reply to a tree, over one cache and leaving another: where it is over a limit it knows neither, and the cache stays as it was.
pub data Reports (asked : Command) (only : ℕ) (tree : List Entry) (before after : List Kept) (reply : Reply) : Type 0 where
  of_limit : ReportsLimit tree reply → after ≡ before → Reports asked only tree before after reply
  of_packages : ReportsPackages asked only tree before after reply → Reports asked only tree before after reply

-- What holds over any cache of a reply that tells of packages: it is one to the command for the packages of a tree within the limits, and each
-- place in it stands in one of the files.
pub record TellsPackages (asked : Command) (tree : List Entry) (reply : Reply) : Type 0 where
  pub verdicts : List (Option FileVerdict)
  pub heads : List (Option Head)
  pub packages : List Package
  pub form : IsForm tree verdicts heads packages
  pub findings : List (List Diagnostic)
  pub facts : List (List (ℕ × List ℕ))
  pub told : IsTold asked tree (all_lines packages findings) (all_facts packages facts) reply
  pub size : reply.packages ≡ length packages
  pub stand : All (StandsIn tree) reply.errors
  pub found_stand : All (FoundStands tree) reply.diagnostics

-- What holds of a reply over any cache: it tells of packages, or of a limit, and then the cache, the loads and the runs stayed as they were.
pub data IsSafe (asked : Command) (tree : List Entry) (before after : List Kept) (count now : Tally) (reply : Reply) : Type 0 where
  of_limit : ReportsLimit tree reply → after ≡ before → now ≡ count → IsSafe asked tree before after count now reply
  of_packages : TellsPackages asked tree reply → IsSafe asked tree before after count now reply

-- After want of memory, or a circle: no package was looked at, and nothing has changed; or the tree is within the limits, at most the missing nodes of its
-- packages and the loads that they need were executed, and the cache has gained the entries of the first of them alone, within its limits.
pub data IsStopped (asked : Command) (only : ℕ) (tree : List Entry) (before after : List Kept) (count now : Tally) : Type 0 where
  not_run : after ≡ before → now ≡ count → IsStopped asked only tree before after count now
  in_run : (verdicts : List (Option FileVerdict)) (heads : List (Option Head)) (packages : List Package) → IsForm tree verdicts heads packages
      → IsCutOff (map (texts_of tree) packages) (chosen_by asked only) before after count now → IsStopped asked only tree before after count now

-- Over any cache: some sound package is stuck over what the run had of its environment.
pub record MetCircle (tree : List Entry) (before : List Kept) : Type 0 where
  pub verdicts : List (Option FileVerdict)
  pub heads : List (Option Head)
  pub packages : List Package
  pub form : IsForm tree verdicts heads packages
  pub meets : MeetsCircle (map (texts_of tree) packages) before

-- Some sound package, all of whose environment is accepted, is stuck over what is seen of it: rules go in a circle, or what is seen of the package
-- can't be told. What comes of its environment comes of the sources.
pub record HasCircle (tree : List Entry) : Type 0 where
  pub verdicts : List (Option FileVerdict)
  pub heads : List (Option Head)
  pub packages : List Package
  pub form : IsForm tree verdicts heads packages
  pub stuck : HasStuck (map (texts_of tree) packages)
