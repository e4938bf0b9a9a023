use Rattle.std.proofs.Common.{sym, ◌∙◌}
use Rattle.type_model.specs.Tables.{types_in}
use Rattle.decl_rules.proofs.GiveLemmas.{field_on, field_here}
use Rattle.decl_rules.proofs.methods.is_field_of.Goals as goal

pub returns-then-same_name : goal.returns-then-same_name
returns-then-same_name c =
    sym (c.loop-i.invariant ∙ field_here c.args.name.now c.args.owner.now (types_in c.args.s.now.table) c.args.fields.now c.loop-i.i c.nth_field.result.now c.nth_field.ensures
    (sym c.same_name.ensures ∙ c.if-same_name.true))

pub loop-i-preserved : goal.loop-i-preserved
loop-i-preserved c =
    c.loop-i.invariant ∙ field_on c.args.name.now c.args.owner.now (types_in c.args.s.now.table) c.args.fields.now c.loop-i.i c.nth_field.result.now c.nth_field.ensures
    (sym c.same_name.ensures ∙ c.if-same_name.false)
