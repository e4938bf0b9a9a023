use Rattle.std.proofs.Common.{subst}
use Rattle.type_model.specs.declared.term.Term.TheVariants.{Defined}
use Rattle.type_model.specs.declared.table.Added.{Added}
use Rattle.type_model.specs.Tables.{IsAdded, IsAppended}
use Rattle.typed_tree.proofs.UniverseLaws.{adds_error}
use Rattle.typed_tree.proofs.predeclare.add_error.Goals as goal

pub returns : goal.returns
returns c =
    adds_error c.args.t.now c.add.new.self c.in_ok-name.name c.in-Id.field-0 c.in_ok-name.ensures c.requires c.in_ok-added.ensures.grown
    (subst (λ (a : Added). IsAdded c.args.t.now c.add.new.self (Defined c.in_ok-name.name) a) c.in-Id.is c.in_ok-added.ensures.added)
    (subst (λ (a : Added). IsAppended c.args.t.now c.add.new.self (Defined c.in_ok-name.name) a) c.in-Id.is c.in_ok-added.ensures.appended)
