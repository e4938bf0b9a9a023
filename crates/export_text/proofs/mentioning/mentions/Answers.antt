use Rattle.std.proofs.Common.{refl}
use Rattle.export_text.specs.Reaching.{nothing_declared}
use Rattle.export_text.specs.MentionIds.{face_ids}
use Rattle.export_text.proofs.ListLaws.{reached_below}
use Rattle.export_text.proofs.MentionLaws.{mentions_are}
use Rattle.export_text.proofs.mentioning.mentions.Goals as goal

pub mentioned-requires-clause-within : goal.mentioned-requires-clause-within
mentioned-requires-clause-within c = reached_below c.args.table.now nothing_declared c.args.interface.now.path (face_ids c.args.interface.now) c.in_ok-ids.ids.items c.in_ok-ids.ensures

pub returns : goal.returns
returns c =
    mentions_are c.args.table.now c.args.interface.now (face_ids c.args.interface.now) c.in_ok-ids.ids.items c.in_ok-paths.paths.items c.in_order.result.items refl c.in_ok-ids.ensures c.in_ok-paths.ensures c.in_order.ensures
