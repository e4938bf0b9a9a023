use Rattle.export_text.proofs.MentionLaws.{sorted_texts}
use Rattle.export_text.proofs.mentioning.in_order.Goals as goal

pub returns : goal.returns
returns c = sorted_texts c.args.texts.items c.sort.new.texts.items c.drop_repeats.new.texts.items c.sort.ensures.moved c.sort.ensures.sorted c.drop_repeats.ensures
