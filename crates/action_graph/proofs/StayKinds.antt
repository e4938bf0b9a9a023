-- Kinds of nodes and marks, as selectors meet them.
use Rattle.std.proofs.Common.{◌≡◌, ℕ, zero, suc, ◌<◌, ◌&&◌, nat_le, nat_lt, Bool, true, false, if◌then◌else◌, List, [], ◌∷◌, ◌++◌, Some, None, refl, ap, arith}
use Rattle.std.proofs.lemmas.Bool.Decides.{nat_tests}
use Rattle.std.proofs.lemmas.Option.{same_Some}
use Rattle.go_tree.specs.declared.tree.NodeKind.{NodeKind}
use Rattle.go_tree.specs.declared.tree.NodeKind.TheVariants as k
use Rattle.package_objects.specs.Declares.{gather, is_list}
use Rattle.type_model.specs.GoTypes.{GoType}
use Rattle.typed_tree.specs.declared.place.Want.{Want as Demand}
use Rattle.typed_tree.specs.declared.place.Want.TheVariants as demand
use Rattle.typed_tree.specs.Places.{is_package, blank_mark}
use Rattle.typed_marks.specs.Meanings.{Known, Meaning, Wish, Right, Wrong, Beyond, Quiet, Wishes, Declares}
use Rattle.selected_methods.specs.Owners.{is_selector, is_good, type_told}
use Rattle.op_rules.specs.Names.{wished}
use Rattle.go_rules.specs.declared.family.Family.TheVariants as f
use Rattle.go_rules.specs.Families.{family}
use Rattle.go_rules.specs.Roles.{is_name}

pub selector_kind : (kind : NodeKind) → is_selector kind ≡ true → kind ≡ k.Selector
selector_kind k.Selector h = refl
selector_kind _ h = absurd cc

pub list_name : (kind : NodeKind) → is_list kind ≡ true → is_name kind ≡ false
list_name k.Names h = refl
list_name k.Exprs h = refl
list_name _ h = absurd cc

pub list_family : (kind : NodeKind) → is_list kind ≡ true → family kind ≡ f.Other
list_family k.Names h = refl
list_family k.Exprs h = refl
list_family _ h = absurd cc

pub good_right : (m : Meaning) → is_good m ≡ true → (y : Known) × (m ≡ Right y)
good_right (Right y) h = (y, refl)
good_right (Wrong rule) h = absurd cc
good_right (Beyond limit) h = absurd cc
good_right Quiet h = absurd cc
good_right (Wishes d w) h = absurd cc
good_right (Declares d) h = absurd cc

pub known_type : (x : Known) (t : GoType) (b : Bool) → is_package x.mode ≡ b → (if b then None else Some x.of) ≡ Some t → (is_package x.mode ≡ false) × (x.of ≡ t)
known_type x t true is e = absurd cc
known_type x t false is e = (is, same_Some x.of t e)

pub told_right : (m : Meaning) (t : GoType) → type_told m ≡ Some t → (x : Known) × (m ≡ Right x) × (is_package x.mode ≡ false) × (x.of ≡ t)
told_right (Right x) t e = let is = known_type x t (is_package x.mode) refl e in (x, refl, is.0, is.1)
told_right (Wrong rule) t e = absurd cc
told_right (Beyond limit) t e = absurd cc
told_right Quiet t e = absurd cc
told_right (Wishes d w) t e = absurd cc
told_right (Declares d) t e = absurd cc

pub below : (n size : ℕ) → n < size → (nat_le 0 n && nat_lt n size) ≡ true
below n size low = grind (arith, nat_tests)

pub gather_front : {X : Type 0} (g : ℕ → List X) (n : ℕ) (x : X) → 0 < n → g 0 ≡ x ∷ [] → (xs : List X) × (gather g n ≡ x ∷ xs)
gather_front g zero x some first = absurd (omega (arith, some))
gather_front g (suc zero) x some first = ([], first)
gather_front g (suc (suc n)) x some first =
    let rest = gather_front g (suc n) x (omega arith) first in
    (rest.0 ++ g (suc n), ap (λ xs. xs ++ g (suc n)) rest.1)

pub blank_wrong : (d : Demand) (w : Wish) (y : Known) → wished w (blank_mark d) ≡ Right y → ⊥
blank_wrong demand.Type w y e = cc
blank_wrong demand.Case w y e = cc
blank_wrong _ w y e = cc
