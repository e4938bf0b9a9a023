use Rattle.rel_growth.specs.Implement.{EnoughToImplement, NeedsToImplement, SaysImplements, implement_of}
use Rattle.rel_growth.proofs.ImplementLaws.{implementing_lasts}
use Rattle.type_questions.specs.Questions.{Implementing}
use Rattle.type_questions.proofs.JudgingLaws.{of_table, found_told}
use Rattle.type_questions.proofs.relations.missing_method.Goals as goal

pub reach-requires-clause-within : goal.reach-requires-clause-within
reach-requires-clause-within g c = of_table EnoughToImplement NeedsToImplement SaysImplements c.args.t.now (implement_of c.args.t.now c.args.methods.now c.args.of) c.in_ok-reply.reply c.in_ok-reply.ensures

pub returns : goal.returns
returns g c =
    found_told (g.S.Seen.base (g.S.Seen.subject c.args.seen.now)) (g.S.Seen.under (g.S.Seen.subject c.args.seen.now)) g.S.Seen.reads (g.S.Seen.so_far c.args.seen.now) c.args.t.now c.requires.step
    EnoughToImplement NeedsToImplement SaysImplements implementing_lasts Implementing (implement_of c.args.t.now c.args.methods.now c.args.of)
    c.in_ok-reply.reply c.reach.result c.in_ok-reply.ensures c.reach.ensures
