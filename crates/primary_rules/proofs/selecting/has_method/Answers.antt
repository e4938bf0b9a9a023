use Rattle.std.proofs.Common.{Some, arith, sym, ap, ◌∙◌}
use Rattle.method_sets.specs.Members.{selector}
use Rattle.type_model.specs.Parts.{method_of}
use Rattle.type_model.specs.Tables.{types_in}
use Rattle.primary_rules.specs.Selecting.{is_named}
use Rattle.primary_rules.proofs.ListLemmas.{any_here, any_next, any_end}
use Rattle.primary_rules.proofs.selecting.has_method.Goals as goal

pub loop-i-preserved : goal.loop-i-preserved
loop-i-preserved c =
    c.loop-i.invariant
    ∙ any_next (is_named (selector c.args.name.now c.args.from.now)) (method_of (types_in c.args.s.now.table)) c.args.methods.now c.loop-i.i (c.is_named_at.ensures ∙ ap Some c.if-is_named_at.false)

pub returns : goal.returns
returns c =
    sym (c.loop-i.invariant
    ∙ any_end (is_named (selector c.args.name.now c.args.from.now)) (method_of (types_in c.args.s.now.table)) c.args.methods.now c.loop-i.i (omega arith))

pub returns-then-is_named_at : goal.returns-then-is_named_at
returns-then-is_named_at c =
    sym (c.loop-i.invariant
    ∙ any_here (is_named (selector c.args.name.now c.args.from.now)) (method_of (types_in c.args.s.now.table)) c.args.methods.now c.loop-i.i (c.is_named_at.ensures ∙ ap Some c.if-is_named_at.true))
