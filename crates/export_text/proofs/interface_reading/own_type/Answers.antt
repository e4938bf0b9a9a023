use Rattle.std.proofs.Common.{ap, subst, ◌∙◌}
use Rattle.type_model.specs.declared.term.Term.TheVariants.{Defined}
use Rattle.type_model.specs.declared.table.Added.{Added}
use Rattle.type_model.specs.declared.table.Added.TheVariants.{Id}
use Rattle.type_model.specs.GoTypes.{DefinedType}
use Rattle.type_model.specs.Tables.{IsAdded}
use Rattle.export_text.proofs.interface_reading.own_type.Goals as goal

pub returns-clause-is : goal.returns-clause-is
returns-clause-is c =
    let added : IsAdded c.args.table.now c.add.new.self (Defined c.in_ok-full.full) (Id c.in-Id.id) = subst (λ (a : Added). IsAdded c.args.table.now c.add.new.self (Defined c.in_ok-full.full) a) c.in-Id.is c.in_ok-added.ensures.added in
    added.1 ∙ ap DefinedType c.in_ok-full.ensures

pub returns-clause-below : goal.returns-clause-below
returns-clause-below c =
    let added : IsAdded c.args.table.now c.add.new.self (Defined c.in_ok-full.full) (Id c.in-Id.id) = subst (λ (a : Added). IsAdded c.args.table.now c.add.new.self (Defined c.in_ok-full.full) a) c.in-Id.is c.in_ok-added.ensures.added in
    added.0
