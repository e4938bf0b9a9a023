-- Which selections are of methods, and which nodes name a function.
use Rattle.std.proofs.Common.{◌≡◌, ◌↔◌, ◌⊎◌, inl, inr, Bool, true, false, ℕ, List, [], Option, Some, None, refl, sym, ap, ◌∙◌, subst}
use Rattle.type_model.specs.declared.table.TypeTable.{TypeTable}
use Rattle.type_model.specs.GoTypes.{GoType, signature_of}
use Rattle.type_model.specs.Declarations.{Declarations}
use Rattle.type_model.specs.Tables.{types_in, declarations_in}
use Rattle.method_sets.specs.declared.selection.Selected.TheVariants as selected
use Rattle.method_sets.specs.declared.selection.Selection.{Selection}
use Rattle.method_sets.specs.declared.selection.Selection.TheVariants as selection
use Rattle.method_sets.specs.Levels.{ToSelect, Chosen, One, Several, Nothing, SaysSelected, chosen_in}
use Rattle.method_sets.specs.Members.{Part, AField, AMethod}
use Rattle.unit_read.specs.Units.{Unit}
use Rattle.selected_methods.specs.Selected.{to_select}
use Rattle.gv_base.proofs.Lists.{same_some}
use Rattle.go_tree.specs.declared.tree.Node.{Node}
use Rattle.typed_marks.specs.declared.item.Item.{Item}
use Rattle.typed_marks.specs.Meanings.{Meaning}
use Rattle.unit_read.specs.Units.{last_spelled}
use Rattle.selected_methods.specs.Selected.{declared_by}
use Rattle.vet_words.specs.Forms.{is_selector}
use Rattle.vet_words.specs.Called.{IsMethodOf, owner_of, SelectsMethod}
use Rattle.vet_words.specs.InCode.{is_method}

module _ (u : Unit) (t : TypeTable) (name : List ℕ) (of : GoType) (once : (ds : Declarations) (q : ToSelect) (a b : Chosen) → SaysSelected ds q a → SaysSelected ds q b → a ≡ b) where
  none_chosen : (x : Chosen) → SaysSelected (declarations_in t) (to_select u name of) x → ((path : List ℕ) (part : Part) → x ≡ One path part → ((m : _) (p : Bool) → part ≡ AMethod m p → ⊥)) → IsMethodOf u (declarations_in t) name of → ⊥
  none_chosen x says other (path, method, pointer, more) =
      other path (AMethod method pointer) (once (declarations_in t) (to_select u name of) x (One path (AMethod method pointer)) says more) method pointer refl

  pub method_chosen : (sel : Selection) → SaysSelected (declarations_in t) (to_select u name of) (chosen_in t sel) → (is_method sel ≡ true) ↔ IsMethodOf u (declarations_in t) name of
  method_chosen (selection.Found path (selected.Method method pointer)) says = (λ e. (path, signature_of (types_in t) method, pointer, says), λ m. refl)
  method_chosen (selection.Found path (selected.Field field)) says =
      (λ e. absurd cc, λ m. absurd (none_chosen (chosen_in t (selection.Found path (selected.Field field))) says (λ p part e k b f. absurd cc) m))
  method_chosen (selection.Ambiguous depth) says = (λ e. absurd cc, λ m. absurd (none_chosen (Several depth) says (λ p part e k b f. absurd cc) m))
  method_chosen selection.Absent says = (λ e. absurd cc, λ m. absurd (none_chosen Nothing says (λ p part e k b f. absurd cc) m))

module _ (u : Unit) (marks : Item → Meaning) (f : ℕ) (node : Node) where
  pub selects_owned : (ds : Declarations) (of : GoType) (b : Bool) → owner_of marks f node ≡ Some of → ds ≡ declared_by u marks → is_selector node.kind ≡ true
      → (b ≡ true) ↔ IsMethodOf u ds (last_spelled u f node) of → (b ≡ true) ↔ SelectsMethod u marks f node
  selects_owned ds of b owns same selects what = (
    λ e. record { of = of; selects = selects; owner = owns; method = subst (λ (d : Declarations). IsMethodOf u d (last_spelled u f node) of) same (what.0 e) },
    λ s.
        let one : s.of ≡ of = same_some (owner_of marks f node) s.of of s.owner owns in
        what.1 (subst (λ (d : Declarations). IsMethodOf u d (last_spelled u f node) of) (sym same) (subst (λ (x : GoType). IsMethodOf u (declared_by u marks) (last_spelled u f node) x) one s.method)),
  )

  pub selects_unowned : owner_of marks f node ≡ None → (false ≡ true) ↔ SelectsMethod u marks f node
  selects_unowned none = (λ e. absurd cc, λ s. absurd (differ (owner_of marks f node) s.of none s.owner)) where
    differ : {X : Type 0} (o : Option X) (x : X) → o ≡ None → o ≡ Some x → ⊥
    differ o x p q = cc

  pub selects_other : is_selector node.kind ≡ false → (false ≡ true) ↔ SelectsMethod u marks f node
  selects_other failed = (λ e. absurd cc, λ s. absurd (differ (is_selector node.kind) failed s.selects)) where
    differ : (b : Bool) → b ≡ false → b ≡ true → ⊥
    differ b p q = cc

-- of two ways the first is out
pub second_way : (P : Type 0) (a b : Bool) → a ≡ false → (b ≡ true) ↔ P → (b ≡ true) ↔ ((a ≡ true) ⊎ P)
second_way P a b failed tells = (λ e. inr (tells.0 e), λ h. elim h [ inl first ↦ absurd (differ a failed first) | inr second ↦ tells.1 second ]) where
  differ : (b : Bool) → b ≡ false → b ≡ true → ⊥
  differ b p q = cc
