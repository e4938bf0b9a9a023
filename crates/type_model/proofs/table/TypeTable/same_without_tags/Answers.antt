use Rattle.std.proofs.Common.{◌≡◌, ◌↔◌, ℕ, sym, subst}
use Rattle.std.specs.Prelude.{IsTrue, nat_eq}
use Rattle.type_model.specs.GoTypes.{type_at}
use Rattle.type_model.specs.Tags.{untagged}
use Rattle.type_model.specs.Shapes.{class_number}
use Rattle.type_model.specs.Tables.{types_in, terms_in}
use Rattle.type_model.proofs.ClassLaws.{one_class}
use Rattle.type_model.proofs.table.TypeTable.same_without_tags.Goals as goal

pub returns : goal.returns
returns c =
    let t = c.args.self.now in
    subst (λ (x : ℕ). IsTrue (nat_eq x c.class-2.result) ↔ (untagged (type_at (types_in t) c.args.a) ≡ untagged (type_at (types_in t) c.args.b))) (sym c.class.ensures)
    (subst (λ (y : ℕ). IsTrue (nat_eq (class_number t.classes.classes.items c.args.a.0) y) ↔ (untagged (type_at (types_in t) c.args.a) ≡ untagged (type_at (types_in t) c.args.b))) (sym c.class-2.ensures)
    (one_class (terms_in t) t.classes c.args.a.0 c.args.b.0 c.requires.table.classes c.requires.table.terms c.requires.first c.requires.second))
