use Rattle.std.proofs.Common.{arith, sym, ◌∙◌}
use Rattle.method_sets.specs.Replies.{listed_in}
use Rattle.type_model.specs.Parts.{method_of}
use Rattle.type_model.specs.Tables.{types_in}
use Rattle.type_answers.specs.Unknown.{unknown_told}
use Rattle.type_answers.proofs.UnknownLemmas.{first_here, first_next, first_end}
use Rattle.type_answers.proofs.unknown.first_unknown.Goals as goal

pub loop-i-preserved : goal.loop-i-preserved
loop-i-preserved c =
    c.loop-i.invariant ∙ first_next (unknown_told) (method_of (types_in c.args.s.now.table)) c.args.methods.now c.loop-i.i c.unknown_at.result c.unknown_at.ensures c.in_default.is

pub returns-in-Some : goal.returns-in-Some
returns-in-Some c =
    sym (c.loop-i.invariant ∙ first_here (unknown_told) (method_of (types_in c.args.s.now.table)) c.args.methods.now c.loop-i.i c.unknown_at.result c.in-Some.b c.unknown_at.ensures c.in-Some.is)

pub returns : goal.returns
returns c = sym (c.loop-i.invariant ∙ first_end (unknown_told) (method_of (types_in c.args.s.now.table)) c.args.methods.now c.loop-i.i (omega arith))
