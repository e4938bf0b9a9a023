use Rattle.std.proofs.Common.{All, subst, sym, ap, ◌∙◌}
use Rattle.analysis_core.specs.Replies.{fix_spots}
use Rattle.report_text.specs.ReplyStanding.{SpotStands}
use Rattle.report_text.proofs.FixLemmas.{spots_stand}
use Rattle.report_text.proofs.lines.push_middle.Goals as goal

pub push_fixes-requires-clause-stand : goal.push_fixes-requires-clause-stand
push_fixes-requires-clause-stand c =
    subst (All (SpotStands c.args.files.now)) (sym c.deref.ensures.value)
    (spots_stand c.args.files.now c.args.reply.now.diagnostics c.in_ok-spots-in-Fix.spots.items (c.in_ok-spots-in-Fix.ensures ∙ ap fix_spots c.as_slice-in-Fix.ensures) c.requires.found)
