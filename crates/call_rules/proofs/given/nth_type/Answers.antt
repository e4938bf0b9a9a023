use Rattle.std.proofs.Common.{Option, option_map, IfSome, sym, ap, ◌∙◌, subst}
use Rattle.type_model.specs.declared.term.TypeId.{TypeId}
use Rattle.type_model.specs.Tables.{types_in, count}
use Rattle.rule_words.specs.Scenes.{type_in, IsTypeOf}
use Rattle.call_rules.proofs.ListLemmas.{nth_at, nth_below}
use Rattle.call_rules.proofs.given.nth_type.Goals as goal

pub returns-clause-is : goal.returns-clause-is
returns-clause-is c = ap (option_map (type_in c.args.s.now)) c.id_at.ensures ∙ nth_at (types_in c.args.s.now.table) c.args.types.now c.args.i

pub returns-clause-within : goal.returns-clause-within
returns-clause-within c =
    subst (λ (o : Option TypeId). IfSome o (IsTypeOf c.args.s.now)) (sym c.id_at.ensures) (nth_below (count c.args.s.now.table) c.args.types.now c.args.i c.requires)
