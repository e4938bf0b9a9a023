use Rattle.type_model.specs.GoTypes.{type_at}
use Rattle.type_model.specs.Tables.{types_in}
use Rattle.method_sets.specs.Members.{selector}
use Rattle.method_sets.specs.Levels.{EnoughToSelect, NeedsToSelect, SaysSelected, IsSelectionIn, chosen_in, select_of}
use Rattle.method_sets.proofs.ChooseLaws.{selecting_lasts}
use Rattle.method_sets.proofs.ReplyLaws.{said_in}
use Rattle.type_questions.specs.Questions.{Selecting}
use Rattle.type_questions.proofs.JudgingLaws.{of_table, found_shown}
use Rattle.type_questions.proofs.members.field_or_method.Goals as goal

pub reach-requires-clause-within : goal.reach-requires-clause-within
reach-requires-clause-within g c =
    let t = c.args.t.now in
    of_table EnoughToSelect NeedsToSelect (IsSelectionIn t) t (select_of t c.args.of c.args.name.now c.args.from.now) c.in_ok-reply.reply c.in_ok-reply.ensures

pub returns : goal.returns
returns g c =
    let t = c.args.t.now in
    found_shown (g.S.Seen.base (g.S.Seen.subject c.args.seen.now)) (g.S.Seen.under (g.S.Seen.subject c.args.seen.now)) g.S.Seen.reads (g.S.Seen.so_far c.args.seen.now) t c.requires.step
    EnoughToSelect NeedsToSelect SaysSelected selecting_lasts Selecting (select_of t c.args.of c.args.name.now c.args.from.now)
    (IsSelectionIn t) (chosen_in t) (λ sel said. said_in t (type_at (types_in t) c.args.of) (selector c.args.name.now c.args.from.now) sel said)
    c.in_ok-reply.reply c.reach.result c.in_ok-reply.ensures c.reach.ensures
