use Rattle.std.proofs.Common.{subst}
use Rattle.type_model.specs.declared.term.Term.TheVariants.{Basic}
use Rattle.type_model.specs.declared.table.Added.{Added}
use Rattle.type_model.specs.Tables.{IsAdded, IsAppended}
use Rattle.typed_tree.proofs.UniverseLaws.{adds_kind}
use Rattle.typed_tree.proofs.predeclare.add_basic.Goals as goal

pub returns : goal.returns
returns c =
    adds_kind c.args.t.now c.add.new.self c.args.kind c.in-Id.field-0 c.requires c.in_ok-added.ensures.grown
    (subst (λ (a : Added). IsAdded c.args.t.now c.add.new.self (Basic c.args.kind) a) c.in-Id.is c.in_ok-added.ensures.added)
    (subst (λ (a : Added). IsAppended c.args.t.now c.add.new.self (Basic c.args.kind) a) c.in-Id.is c.in_ok-added.ensures.appended)
