-- What is selected, by a selection over the table.
use Rattle.std.proofs.Common.{◌≡◌, ℕ, Bool, List, [], Option, Some, None, refl, sym, ap, ◌∙◌, subst}
use Rattle.std.proofs.Math.Path.{fun_ext}
use Rattle.std.specs.Option.{option_or, option_map_or}
use Rattle.std.specs.Prelude.{unwrap_or}
use Rattle.go_tree.specs.declared.tree.NodeRef.{NodeRef}
use Rattle.mark_walk.specs.Asks.{filled}
use Rattle.type_model.specs.declared.table.TypeTable.{TypeTable}
use Rattle.type_model.specs.declared.term.TypeName.{TypeName}
use Rattle.type_model.specs.GoTypes.{GoType, GoSignature, signature_of}
use Rattle.type_model.specs.Declarations.{Declaration, Declarations}
use Rattle.type_model.specs.Tables.{types_in, declarations_in}
use Rattle.method_sets.specs.declared.selection.Selected.TheVariants as selected
use Rattle.method_sets.specs.declared.selection.Selection.{Selection}
use Rattle.method_sets.specs.declared.selection.Selection.TheVariants as selection
use Rattle.method_sets.specs.Levels.{ToSelect, Chosen, One, Several, Nothing, EnoughToSelect, SaysSelected, chosen_in}
use Rattle.method_sets.specs.Members.{selector, AField, AMethod}
use Rattle.type_questions.specs.Over.{declared}
use Rattle.typed_marks.specs.declared.item.Item.{Item}
use Rattle.typed_marks.specs.declared.state.State.{State}
use Rattle.typed_marks.specs.Meanings.{Meaning, Quiet}
use Rattle.typed_marks.specs.States.{so_far}
use Rattle.unit_read.specs.declared.subject.Subject.{Subject}
use Rattle.unit_read.specs.Subjects.{full_of, unit_of}
use Rattle.unit_read.specs.Imports.{bare}
use Rattle.unit_read.specs.Units.{Unit, base_of}
use Rattle.rule_words.specs.Asking.{type_item, declaration_told}
use Rattle.rule_words.specs.Scenes.{IsScene}
use Rattle.selected_methods.specs.Owners.{owner_of, selected_name}
use Rattle.selected_methods.specs.Selected.{method_led, to_select, IsMethodOf, declared_by, IsSelectedMethod}
use Rattle.selected_methods.specs.InCode.{method_chosen, IsWhat}

-- ---- from a type

abbrev path_of : Chosen → List ℕ
path_of (One path part) = path
path_of (Several depth) = []
path_of Nothing = []

module _ (u : Unit) (t : TypeTable) (name : List ℕ) (of : GoType) (once : (ds : Declarations) (q : ToSelect) (a b : Chosen) → SaysSelected ds q a → SaysSelected ds q b → a ≡ b) where
  -- there is nothing where something else is selected
  none_chosen : (x : Chosen) → SaysSelected (declarations_in t) (to_select u name of) x
      → ((path : List ℕ) (method : GoSignature) (pointer : Bool) → x ≡ One path (AMethod method pointer) → ⊥) → IsWhat (IsMethodOf u (declarations_in t) name of) None
  none_chosen x says other = λ w. (
    λ e. absurd cc,
    λ (path, method, pointer, enough, more, e). absurd (other path method pointer (once (declarations_in t) (to_select u name of) x (One path (AMethod method pointer)) says more)),
  )

  one_chosen : (path : List ℕ) (method : GoSignature) (pointer : Bool) → EnoughToSelect (declarations_in t) (to_select u name of) → SaysSelected (declarations_in t) (to_select u name of) (One path (AMethod method pointer))
      → IsWhat (IsMethodOf u (declarations_in t) name of) (method_led u (declarations_in t) name of path)
  one_chosen path method pointer enough says = λ w. (
    λ e. (path, method, pointer, enough, says, e),
    λ (other, signature, by, again, more, e).
        let same : path ≡ other = ap path_of (once (declarations_in t) (to_select u name of) (One path (AMethod method pointer)) (One other (AMethod signature by)) says more) in
        ap (λ (l : List ℕ). method_led u (declarations_in t) name of l) same ∙ e,
  )

  pub what_chosen : (sel : Selection) (o : Option NodeRef) → EnoughToSelect (declarations_in t) (to_select u name of) → SaysSelected (declarations_in t) (to_select u name of) (chosen_in t sel) → o ≡ method_chosen u t name of sel
      → IsWhat (IsMethodOf u (declarations_in t) name of) o
  what_chosen sel o enough says is = subst (IsWhat (IsMethodOf u (declarations_in t) name of)) (sym is) (by sel says)
    where
      by : (x : Selection) → SaysSelected (declarations_in t) (to_select u name of) (chosen_in t x) → IsWhat (IsMethodOf u (declarations_in t) name of) (method_chosen u t name of x)
      by (selection.Found path (selected.Method method pointer)) says = one_chosen path (signature_of (types_in t) method) pointer enough says
      by (selection.Found path (selected.Field field)) says = none_chosen (chosen_in t (selection.Found path (selected.Field field))) says (λ p m b e. absurd cc)
      by (selection.Ambiguous depth) says = none_chosen (Several depth) says (λ p m b e. absurd cc)
      by selection.Absent says = none_chosen Nothing says (λ p m b e. absurd cc)

-- nothing is told where not enough is declared
pub what_waiting : (u : Unit) (ds : Declarations) (name : List ℕ) (of : GoType) → (EnoughToSelect ds (to_select u name of) → ⊥) → IsWhat (IsMethodOf u ds name of) None
what_waiting u ds name of short = λ w. (λ e. absurd cc, λ (path, method, pointer, enough, more, e). absurd (short enough))

-- ---- what is declared

given_mark : (m : Option Meaning) → option_map_or declaration_told m None ≡ declaration_told (unwrap_or m Quiet)
given_mark None = refl
given_mark (Some m) = refl

given_item : (so_far : Item → Option Meaning) (o : Option Item)
    → option_map_or declaration_told (option_map_or so_far o None) None ≡ option_map_or declaration_told (option_map_or (λ i. Some (filled Quiet so_far i)) o None) None
given_item so_far None = refl
given_item so_far (Some i) = given_mark (so_far i)

-- the table declares what the marks declare
pub table_declares : (u : Subject) (s : State) → IsScene u s → declarations_in s.table ≡ declared_by (full_of u) (filled Quiet (so_far s))
table_declares u s scene =
    fun_ext (λ (name : TypeName).
    scene.step name ∙ ap (λ (o : Option Declaration). option_or (base_of (full_of u) name) o) (given_item (so_far s) (type_item (unit_of u) name)))

-- ---- at a node

module _ (u : Unit) (marks : Item → Meaning) (at : NodeRef) where
  pub what_selected : (ds : Declarations) (of : GoType) (o : Option NodeRef) → owner_of (bare u) marks at ≡ Some of → ds ≡ declared_by u marks
      → IsWhat (IsMethodOf (bare u) ds (selected_name (bare u) at) of) o → IsWhat (IsSelectedMethod u marks at) o
  what_selected ds of o owns same what = λ w. (
    λ e. (of, owns, subst (λ (d : Declarations). IsMethodOf (bare u) d (selected_name (bare u) at) of w) same ((what w).0 e)),
    λ (other, owned, is).
        let one : other ≡ of = cc in
        (what w).1 (subst (λ (d : Declarations). IsMethodOf (bare u) d (selected_name (bare u) at) of w) (sym same) (subst (λ (x : GoType). IsMethodOf (bare u) (declared_by u marks) (selected_name (bare u) at) x w) one is)),
  )

  pub what_unselected : owner_of (bare u) marks at ≡ None → IsWhat (IsSelectedMethod u marks at) None
  what_unselected none = λ w. (λ e. absurd cc, λ (of, owns, is). absurd cc)
