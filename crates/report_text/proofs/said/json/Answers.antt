use Rattle.std.proofs.Common.{All, subst, sym}
use Rattle.std.specs.List.Sorted.{IsPermutation}
use Rattle.report_text.specs.ReplyStanding.{SaidStands}
use Rattle.report_text.proofs.SaidLemmas.{said_stand}
use Rattle.report_text.proofs.said.json.Goals as goal

pub push_line-requires : goal.push_line-requires
push_line-requires c = record {
  stand = subst (All (SaidStands c.args.files.now)) (sym c.deref.ensures.value)
      (said_stand c.args.files.now c.args.reply.now c.sort.new.said.items c.requires.stand.errors c.requires.stand.found
      (subst (λ l. IsPermutation l c.sort.new.said.items) c.in_ok-said-in-None.ensures c.sort.ensures.moved));
}
