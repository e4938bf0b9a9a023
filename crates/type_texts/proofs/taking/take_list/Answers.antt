use Rattle.std.proofs.Common.{rules, ◌≡◌, [], ◌∷◌, ap, subst, ◌∙◌}
use Rattle.type_model.specs.Tables.{types_in, count}
use Rattle.type_texts.specs.declared.values.Value.{Value}
use Rattle.type_texts.specs.Building.{list_off}
use Rattle.type_texts.specs.Values.{part_of, parts_in, IsBelow}
use Rattle.type_texts.proofs.taking.take_list.Goals as goal

pub returns-in_default-clause-is : goal.returns-in_default-clause-is
returns-in_default-clause-is c =
    let none : parts_in (types_in c.args.table.now) c.args.values.now.items ≡ [] = search rules in
    ap list_off none

pub returns-in-Type-clause-is : goal.returns-in-Type-clause-is
returns-in-Type-clause-is c = ap list_off (c.in-Some.ensures.is ∙ ap (λ (v : Value). part_of (types_in c.args.table.now) v ∷ parts_in (types_in c.args.table.now) c.pop.new.values.items) c.in-Type.is)

pub returns-in-List-clause-is : goal.returns-in-List-clause-is
returns-in-List-clause-is c = ap list_off (c.in-Some.ensures.is ∙ ap (λ (v : Value). part_of (types_in c.args.table.now) v ∷ parts_in (types_in c.args.table.now) c.pop.new.values.items) c.in-List.is)

pub returns-in-Field-clause-is : goal.returns-in-Field-clause-is
returns-in-Field-clause-is c = ap list_off (c.in-Some.ensures.is ∙ ap (λ (v : Value). part_of (types_in c.args.table.now) v ∷ parts_in (types_in c.args.table.now) c.pop.new.values.items) c.in-Field.is)

pub returns-in-Tag-clause-is : goal.returns-in-Tag-clause-is
returns-in-Tag-clause-is c = ap list_off (c.in-Some.ensures.is ∙ ap (λ (v : Value). part_of (types_in c.args.table.now) v ∷ parts_in (types_in c.args.table.now) c.pop.new.values.items) c.in-Tag.is)

pub returns-in-Method-clause-is : goal.returns-in-Method-clause-is
returns-in-Method-clause-is c = ap list_off (c.in-Some.ensures.is ∙ ap (λ (v : Value). part_of (types_in c.args.table.now) v ∷ parts_in (types_in c.args.table.now) c.pop.new.values.items) c.in-Method.is)

pub returns-clause-is : goal.returns-clause-is
returns-clause-is c = ap list_off (c.in-Some.ensures.is ∙ ap (λ (v : Value). part_of (types_in c.args.table.now) v ∷ parts_in (types_in c.args.table.now) c.pop.new.values.items) c.in-Signature.is)

pub returns-in-List-clause-below : goal.returns-in-List-clause-below
returns-in-List-clause-below c = subst (λ (v : Value). IsBelow (count c.args.table.now) v) c.in-List.is c.in-Some.ensures.below
