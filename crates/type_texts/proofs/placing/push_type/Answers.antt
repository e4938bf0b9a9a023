use Rattle.std.proofs.Common.{Some, ap, sym, subst, ◌∙◌}
use Rattle.type_model.specs.declared.table.Added.{Added}
use Rattle.type_model.specs.declared.table.Added.TheVariants.{Id, TooWide}
use Rattle.type_model.specs.GoTypes.{type_of}
use Rattle.type_model.specs.Tables.{IsAdded, terms_in, types_in}
use Rattle.type_texts.specs.Values.{parts_in}
use Rattle.type_texts.proofs.BuildLaws.{over_is, over_wide}
use Rattle.type_texts.proofs.ValueLaws.{type_pushed, type_stands}
use Rattle.type_texts.proofs.placing.push_type.Goals as goal

pub returns-in_ok-push-in-Id-clause-is : goal.returns-in_ok-push-in-Id-clause-is
returns-in_ok-push-in-Id-clause-is c =
    let old = c.args.table.now in
    let new = c.add.new.self in
    let t = type_of (types_in old) c.args.term in
    let added : IsAdded old new c.args.term (Id c.in-Id.id) = subst (λ (a : Added). IsAdded old new c.args.term a) c.in-Id.is c.in_ok-added.ensures.added in
    over_is t (parts_in (types_in old) c.args.values.now.items) added.2
    ∙ ap Some (sym (type_pushed (terms_in old) (terms_in new) c.args.values.now.items c.push.new.self.items c.in-Id.id t c.in_ok-added.ensures.grown.extends c.requires.stand c.in_ok-push-in-Id.ensures.items added.1))

pub returns-in_ok-push-in-Id-clause-stand : goal.returns-in_ok-push-in-Id-clause-stand
returns-in_ok-push-in-Id-clause-stand c =
    let old = c.args.table.now in
    let new = c.add.new.self in
    let added : IsAdded old new c.args.term (Id c.in-Id.id) = subst (λ (a : Added). IsAdded old new c.args.term a) c.in-Id.is c.in_ok-added.ensures.added in
    type_stands (terms_in old) (terms_in new) c.args.values.now.items c.push.new.self.items c.in-Id.id c.in_ok-added.ensures.grown.extends c.requires.stand c.in_ok-push-in-Id.ensures.items added.0

pub returns-in-TooWide-clause-is : goal.returns-in-TooWide-clause-is
returns-in-TooWide-clause-is c =
    let old = c.args.table.now in
    let new = c.add.new.self in
    let added : IsAdded old new c.args.term TooWide = subst (λ (a : Added). IsAdded old new c.args.term a) c.in-TooWide.is c.in_ok-added.ensures.added in
    over_wide (type_of (types_in old) c.args.term) (parts_in (types_in old) c.args.values.now.items) added.0
