-- Defined types and the nodes of their names.
use Rattle.std.proofs.Common.{◌≡◌, ℕ, nat_eq, Bool, true, false, ◌&&◌, not, if◌then◌else◌, List, [], ◌∷◌, Option, Some, None, is_some, option_and_then, option_map, refl, sym, ap, ◌∙◌}
use Rattle.std.specs.Option.{option_map_or}
use Rattle.std.specs.Str.{bytes_eq}
use Rattle.std.proofs.lemmas.Bool.{eqb-true}
use Rattle.std.proofs.lemmas.Slice.Eq.{bytes_eq-Decides}
use Rattle.go_tree.specs.declared.tree.NodeRef.{NodeRef}
use Rattle.mark_walk.specs.Asks.{done, ask}
use Rattle.mark_walk.specs.Telling.{Says, Sight, tell}
use Rattle.type_questions.specs.Questions.{Question, Told}
use Rattle.type_model.specs.declared.term.TypeId.{TypeId}
use Rattle.type_model.specs.declared.term.TypeName.{TypeName}
use Rattle.type_model.specs.GoTypes.{GoType, BasicType, DefinedType, PointerTo, SliceOf, ArrayOf, MapOf, ChanOf, FuncOf, StructOf, InterfaceOf}
use Rattle.type_model.specs.Tables.{is_same_name}
use Rattle.type_questions.specs.Judging.{IsItemOf}
use Rattle.typed_marks.specs.declared.item.Item.{Item}
use Rattle.typed_marks.specs.declared.item.Stage.{Stage}
use Rattle.typed_marks.specs.declared.item.Stage.TheVariants as s
use Rattle.typed_marks.specs.declared.state.State.{State}
use Rattle.typed_marks.specs.Meanings.{Known, Meaning, Quiet}
use Rattle.unit_read.specs.Units.{Unit, type_name, named_by, defined, is_this, type_node}
use Rattle.unit_read.proofs.TypeLemmas.{same_node, own_base}
use Rattle.rule_words.specs.Asking.{Rule, item, stands, mark_ask, under_at, type_item}
use Rattle.rule_words.specs.Scenes.{type_in, IsTypeOf}
use Rattle.rule_words.specs.Good.{known_told}
use Rattle.decl_rules.specs.Under.{is_error, is_of_node, IsTypeAt}

first_of : (a b : Bool) → (a && b) ≡ true → a ≡ true
first_of true b is = refl
first_of false b is = absurd cc

rest_of : (a b : Bool) → (a && b) ≡ true → b ≡ true
rest_of true b is = is
rest_of false b is = absurd cc

-- ---- names

abbrev name_with : List ℕ → List ℕ → ℕ → TypeName
name_with owner name local = record { «package» = owner; name = name; local = local }

one_text : (a b : List ℕ) → bytes_eq a b ≡ true → a ≡ b
one_text a b is = (bytes_eq-Decides a b).0 is

one_name : (a b : TypeName) → is_same_name a b ≡ true → a ≡ b
one_name a b is =
    let rest = rest_of (bytes_eq a.package b.package) (bytes_eq a.name b.name && nat_eq a.local b.local) is in
    let owners : a.package ≡ b.package = one_text a.package b.package (first_of (bytes_eq a.package b.package) (bytes_eq a.name b.name && nat_eq a.local b.local) is) in
    let names : a.name ≡ b.name = one_text a.name b.name (first_of (bytes_eq a.name b.name) (nat_eq a.local b.local) rest) in
    let locals : a.local ≡ b.local = eqb-true a.local b.local (rest_of (bytes_eq a.name b.name) (nat_eq a.local b.local) rest) in
    let same : name_with a.package a.name a.local ≡ name_with b.package b.name b.local = cc in same

-- what is found by a name has it
found_name : (u : Unit) (name : TypeName) (list : List NodeRef) (at : NodeRef) → named_by u name list ≡ Some at → name ≡ type_name u at
found_name u name [] at is = absurd cc
found_name u name (x ∷ list) at is = by (is_same_name (type_name u x) name) refl is (found_name u name list at) where
  by : (b : Bool) → is_same_name (type_name u x) name ≡ b → (if b then Some x else named_by u name list) ≡ Some at → (named_by u name list ≡ Some at → name ≡ type_name u at) → name ≡ type_name u at
  by true same here later = let one : x ≡ at = cc in sym (one_name (type_name u x) name same) ∙ ap (λ (n : NodeRef). type_name u n) one
  by false other here later = later here

-- ---- nodes

this_node : (at : NodeRef) (o : Option NodeRef) → is_this at o ≡ true → o ≡ Some at
this_node at None is = absurd cc
this_node at (Some other) is = ap Some (sym (same_node at other is))

abbrev node_with : ℕ → ℕ → NodeRef
node_with file node = record { file = file; node = node }

-- the node of an item that declares a type
item_node : (u : Unit) (at : NodeRef) (o : Option NodeRef) → option_and_then (under_at u) o ≡ Some (item s.Under at.file at.node) → o ≡ Some at
item_node u at None is = absurd cc
item_node u at (Some other) is = by (stands u other.file other.node) is where
  by : (b : Bool) → (if b then Some (item s.Under other.file other.node) else None) ≡ Some (item s.Under at.file at.node) → Some other ≡ Some at
  by true is =
      let files : other.file ≡ at.file = ap (λ (o : Option Item). option_map_or (λ (i : Item). i.block) o 0) is in
      let nodes : other.node ≡ at.node = ap (λ (o : Option Item). option_map_or (λ (i : Item). i.node) o 0) is in
      ap Some (ap (λ (f : ℕ). node_with f other.node) files ∙ ap (λ (n : ℕ). node_with at.file n) nodes)
  by false is = absurd cc

-- the item of a node declares the type that is found there, and no other
own_item : (u : Unit) (at : NodeRef) (name : TypeName) → stands u at.file at.node ≡ true → type_node u name ≡ Some at → IsItemOf (type_item u) name (item s.Under at.file at.node)
own_item u at name there is = record {
  here = ap (λ (o : Option NodeRef). option_and_then (under_at u) o) is ∙ ap (λ (b : Bool). if b then Some (item s.Under at.file at.node) else None) there;
  alone = λ other its. found_name u other (defined u) at (item_node u at (type_node u other) its) ∙ sym (found_name u name (defined u) at is);
}

-- ---- types

not_true : (b : Bool) → not b ≡ true → b ≡ false
not_true false is = refl
not_true true is = absurd cc

pub own_type : (u : Unit) (state : State) (at : NodeRef) (of : TypeId) → IsTypeOf state of → stands u at.file at.node ≡ true → is_of_node u at (type_in state of) ≡ true → IsTypeAt u state at of
own_type u state at of low there is = by (type_in state of) refl is where
  by : (t : GoType) → type_in state of ≡ t → is_of_node u at t ≡ true → IsTypeAt u state at of
  by (BasicType kind) named is = absurd cc
  by (DefinedType name) named is = record {
    name = name;
    within = low;
    named = named;
    own = own_item u at name there (this_node at (type_node u name) (rest_of (not (is_error name)) (is_this at (type_node u name)) is));
    base = own_base u name at (not_true (is_error name) (first_of (not (is_error name)) (is_this at (type_node u name)) is))
        (this_node at (type_node u name) (rest_of (not (is_error name)) (is_this at (type_node u name)) is));
  }
  by (PointerTo to) named is = absurd cc
  by (SliceOf element) named is = absurd cc
  by (ArrayOf size element) named is = absurd cc
  by (MapOf key element) named is = absurd cc
  by (ChanOf direction element) named is = absurd cc
  by (FuncOf signature) named is = absurd cc
  by (StructOf fields) named is = absurd cc
  by (InterfaceOf methods) named is = absurd cc

-- ---- tests

abbrev ask_if : Bool → Item → Rule
ask_if b i = if b then ask i (λ m. done m) else done Quiet

-- what is good is the mark of a node that stands there
pub standing : (u : Unit) (seen : Sight Item Meaning Question Told) (stage : Stage) (block node : ℕ) (m : Meaning) (x : Known)
    → Says m ≡ tell seen (mark_ask u stage block node) → Some x ≡ known_told m → stands u block node ≡ true
standing u seen stage block node m x told known = by (stands u block node) told where
  by : (b : Bool) → Says m ≡ tell seen (ask_if b (item stage block node)) → b ≡ true
  by true told = refl
  by false told =
      let quiet : m ≡ Quiet = cc in
      let none : Some x ≡ None = known ∙ ap (λ (m : Meaning). known_told m) quiet in
      absurd cc

pub among_test : (b : Bool) (n : TypeName) → is_some (option_map (λ (n : TypeName). n.local) (if b then Some n else None)) ≡ b
among_test true n = refl
among_test false n = refl
