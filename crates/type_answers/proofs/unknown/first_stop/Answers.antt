use Rattle.std.proofs.Common.{arith, sym, ◌∙◌}
use Rattle.method_sets.specs.Replies.{listed_in}
use Rattle.type_model.specs.Parts.{method_of}
use Rattle.type_model.specs.Tables.{types_in}
use Rattle.type_answers.specs.Unknown.{wanted_told}
use Rattle.type_answers.proofs.UnknownLemmas.{first_here, first_next, first_end}
use Rattle.type_answers.proofs.unknown.first_stop.Goals as goal

pub loop-i-preserved : goal.loop-i-preserved
loop-i-preserved c =
    c.loop-i.invariant ∙ first_next (wanted_told (listed_in c.args.s.now.table c.args.set.now)) (method_of (types_in c.args.s.now.table)) c.args.wanted.now c.loop-i.i c.wanted_at.result c.wanted_at.ensures c.in_default.is

pub returns-in-Some : goal.returns-in-Some
returns-in-Some c =
    sym (c.loop-i.invariant ∙ first_here (wanted_told (listed_in c.args.s.now.table c.args.set.now)) (method_of (types_in c.args.s.now.table)) c.args.wanted.now c.loop-i.i c.wanted_at.result c.in-Some.b c.wanted_at.ensures c.in-Some.is)

pub returns : goal.returns
returns c = sym (c.loop-i.invariant ∙ first_end (wanted_told (listed_in c.args.s.now.table c.args.set.now)) (method_of (types_in c.args.s.now.table)) c.args.wanted.now c.loop-i.i (omega arith))
