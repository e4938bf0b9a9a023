use Rattle.rel_growth.specs.Assign.{EnoughToAssign, NeedsToAssign, SaysAssignable, assign_of}
use Rattle.rel_growth.proofs.AssignLaws.{assigning_lasts}
use Rattle.type_questions.specs.Questions.{Holds}
use Rattle.type_questions.proofs.JudgingLaws.{of_table, found_told}
use Rattle.type_questions.proofs.relations.assignable_to.Goals as goal

pub reach-requires-clause-within : goal.reach-requires-clause-within
reach-requires-clause-within g c = of_table EnoughToAssign NeedsToAssign SaysAssignable c.args.t.now (assign_of c.args.t.now c.args.x.now c.args.methods.now c.args.to) c.assign-reply.result c.assign-reply.ensures

pub returns : goal.returns
returns g c =
    found_told (g.S.Seen.base (g.S.Seen.subject c.args.seen.now)) (g.S.Seen.under (g.S.Seen.subject c.args.seen.now)) g.S.Seen.reads (g.S.Seen.so_far c.args.seen.now) c.args.t.now c.requires.step
    EnoughToAssign NeedsToAssign SaysAssignable assigning_lasts Holds (assign_of c.args.t.now c.args.x.now c.args.methods.now c.args.to)
    c.assign-reply.result c.reach.result c.assign-reply.ensures c.reach.ensures
