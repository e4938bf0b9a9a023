use Rattle.type_model.specs.GoTypes.{type_at}
use Rattle.type_model.specs.Tables.{types_in}
use Rattle.rel_growth.specs.Compare.{EnoughToCompare, NeedsToCompare, SaysComparable}
use Rattle.rel_growth.proofs.CompareLaws.{comparing_lasts}
use Rattle.type_questions.specs.Questions.{Holds}
use Rattle.type_questions.proofs.JudgingLaws.{of_table, found_told}
use Rattle.type_questions.proofs.relations.is_comparable.Goals as goal

pub reach-requires-clause-within : goal.reach-requires-clause-within
reach-requires-clause-within g c = of_table EnoughToCompare NeedsToCompare SaysComparable c.args.t.now (type_at (types_in c.args.t.now) c.args.of) c.in_ok-reply.reply c.in_ok-reply.ensures

pub returns : goal.returns
returns g c =
    found_told (g.S.Seen.base (g.S.Seen.subject c.args.seen.now)) (g.S.Seen.under (g.S.Seen.subject c.args.seen.now)) g.S.Seen.reads (g.S.Seen.so_far c.args.seen.now) c.args.t.now c.requires.step
    EnoughToCompare NeedsToCompare SaysComparable comparing_lasts Holds (type_at (types_in c.args.t.now) c.args.of)
    c.in_ok-reply.reply c.reach.result c.in_ok-reply.ensures c.reach.ensures
