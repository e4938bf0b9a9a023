use Rattle.std.proofs.Common.{rules, ◌≡◌, length, ap}
use Rattle.std.proofs.lemmas.List.{nil_from_length}
use Rattle.type_model.specs.Tables.{types_in, count}
use Rattle.type_texts.specs.Values.{parts_in}
use Rattle.type_texts.proofs.ValueLaws.{last_first, stand_pop}
use Rattle.type_texts.proofs.taking.pop.Goals as goal

pub returns-clause-is : goal.returns-clause-is
returns-clause-is c = last_first (types_in c.args._table.now) c.args.values.now.items c.pop.new.self.items c.in-Some.last c.in-Some.ensures.items

pub returns-clause-below : goal.returns-clause-below
returns-clause-below c = (stand_pop (count c.args._table.now) c.args.values.now.items c.pop.new.self.items c.in-Some.last c.in-Some.ensures.items c.requires.stand).1

pub returns-clause-stand : goal.returns-clause-stand
returns-clause-stand c = (stand_pop (count c.args._table.now) c.args.values.now.items c.pop.new.self.items c.in-Some.last c.in-Some.ensures.items c.requires.stand).0

pub returns-in_default-clause-is : goal.returns-in_default-clause-is
returns-in_default-clause-is c =
    let none : length c.args.values.now.items ≡ 0 = search rules in
    ap (parts_in (types_in c.args._table.now)) (nil_from_length c.args.values.now.items none)
