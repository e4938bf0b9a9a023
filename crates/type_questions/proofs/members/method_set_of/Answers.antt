use Rattle.std.specs.Global.{Vec}
use Rattle.type_model.specs.declared.term.Method.{Method}
use Rattle.type_model.specs.GoTypes.{type_at}
use Rattle.type_model.specs.Tables.{types_in}
use Rattle.method_sets.specs.Levels.{EnoughToList, NeedsToList, SaysMethods}
use Rattle.method_sets.specs.Replies.{IsListIn, listed_in}
use Rattle.method_sets.proofs.ListLaws.{listing_lasts}
use Rattle.method_sets.proofs.ReplyLaws.{said_methods}
use Rattle.type_questions.specs.Questions.{Listing}
use Rattle.type_questions.proofs.JudgingLaws.{of_table, found_shown, methods_below}
use Rattle.type_questions.proofs.members.method_set_of.Goals as goal

pub reach-requires-clause-within : goal.reach-requires-clause-within
reach-requires-clause-within g c =
    let t = c.args.t.now in
    of_table EnoughToList NeedsToList (IsListIn t) t (type_at (types_in t) c.args.of) c.in_ok-reply.reply c.in_ok-reply.ensures

pub returns-clause-told : goal.returns-clause-told
returns-clause-told g c =
    let t = c.args.t.now in
    found_shown (g.S.Seen.base (g.S.Seen.subject c.args.seen.now)) (g.S.Seen.under (g.S.Seen.subject c.args.seen.now)) g.S.Seen.reads (g.S.Seen.so_far c.args.seen.now) t c.requires.step
    EnoughToList NeedsToList SaysMethods listing_lasts Listing (type_at (types_in t) c.args.of)
    (IsListIn t) (λ (methods : Vec Method). listed_in t methods.items) (λ methods said. said_methods t (type_at (types_in t) c.args.of) methods.items said)
    c.in_ok-reply.reply c.reach.result c.in_ok-reply.ensures c.reach.ensures

pub returns-clause-below : goal.returns-clause-below
returns-clause-below g c =
    let t = c.args.t.now in
    methods_below (g.S.Seen.base (g.S.Seen.subject c.args.seen.now)) (g.S.Seen.under (g.S.Seen.subject c.args.seen.now)) g.S.Seen.reads (g.S.Seen.so_far c.args.seen.now) t
    (type_at (types_in t) c.args.of) c.in_ok-reply.reply c.reach.result c.in_ok-reply.ensures c.reach.ensures
