use Rattle.report_text.proofs.SaidLemmas.{all_joined}
use Rattle.report_text.proofs.said.all_said.Goals as goal

pub returns : goal.returns
returns c = all_joined c.args.reply.now _ _ _ _ _ c.as_slice.ensures c.as_slice-2.ensures c.new-said.ensures.items c.in_ok-add_errors.ensures c.in_ok-add_found.ensures
