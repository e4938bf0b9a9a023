-- The reply of a run over a tree that is over a limit can be printed.
use Rattle.std.proofs.Common.{◌≡◌, List, [], All, refl, sym, subst, arith}
use Rattle.gv_base.specs.Files.{Entry}
use Rattle.analysis_core.specs.declared.command.Command.{Command}
use Rattle.analysis_core.specs.declared.reply.Reply.{Reply}
use Rattle.analysis_core.specs.declared.reply.TreeLimit.{TreeLimit}
use Rattle.report_text.specs.ReplyStanding.{FoundStands, ReplyStands}
use Rattle.tree_report.specs.Reports.{limit_reply}

none-found : (tree : List Entry) → All (FoundStands tree) []
none-found tree = λ k d lt. absurd (omega (arith, lt))

-- a reply over a limit can be printed, whatever is asked
pub limit-stands : (asked : Command) (tree : List Entry) (r : Reply) (l : TreeLimit) → r ≡ limit_reply l → ReplyStands tree asked r
limit-stands asked tree r l is = subst (ReplyStands tree asked) (sym is) (record {
  errors = λ k d lt. absurd (omega (arith, lt));
  found = none-found tree;
  fixes = λ e. record { size = refl; earlier = λ k d lt. absurd (omega (arith, lt)) };
})
