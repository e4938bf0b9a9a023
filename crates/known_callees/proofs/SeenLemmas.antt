-- What is declared is declared in the package or in one of its environment.
use Rattle.std.proofs.Common.{◌≡◌, inl, inr, ℕ, ◌==◌, ◌&&◌, Bool, true, false, if◌then◌else◌, List, [], ◌∷◌, Option, Some, None, option_map, slice_get, refl, sym, ap}
use Rattle.std.specs.Prelude.{option_and_then, nat_eq}
use Rattle.std.specs.Option.{option_map_or, option_or}
use Rattle.std.specs.Str.{bytes_eq}
use Rattle.go_tree.specs.Lexeme.{place_of}
use Rattle.go_tree.specs.declared.tree.NodeRef.{NodeRef}
use Rattle.method_sets.specs.Shown.{is_interface_type}
use Rattle.own_functions.proofs.NameLemmas.{both_true, same_bytes}
use Rattle.package_faces.specs.Declaring.{declared_in}
use Rattle.package_faces.specs.Declaring as out
use Rattle.rule_words.specs.Asking.{under_at, type_item, declaration_told}
use Rattle.selected_methods.specs.Selected.{is_interface, declared_by}
use Rattle.type_model.specs.declared.term.TypeName.{TypeName}
use Rattle.type_model.specs.Declarations.{Declaration, Declarations}
use Rattle.type_model.specs.GoTypes.{DefinedType}
use Rattle.type_model.specs.Tables.{is_same_name}
use Rattle.type_questions.specs.Over.{marked}
use Rattle.typed_marks.specs.declared.item.Item.{Item}
use Rattle.typed_marks.specs.Meanings.{Meaning}
use Rattle.typed_tree.specs.Universe.{error_name}
use Rattle.unit_read.specs.Imports.{bare, paths_of}
use Rattle.unit_read.specs.Units.{Unit, defined, type_name, named_by, type_node, error_declaration, imported_from}
use Rattle.known_callees.specs.Seen.{is_beside, IsSeen}
use Rattle.known_callees.proofs.Words.{bound, differ, no_some, some_there, where_true, where_false}

-- what a package declares itself
named_own : (u : Unit) (name : TypeName) (list : List NodeRef) (at : NodeRef) → named_by u name list ≡ Some at → name.package ≡ u.path
named_own u name [] at e = no_some at e
named_own u name (x ∷ list) at e = by (is_same_name (type_name u x) name) refl (named_own u name list at) e where
  by : (b : Bool) → is_same_name (type_name u x) name ≡ b → (named_by u name list ≡ Some at → name.package ≡ u.path) → (if b then Some x else named_by u name list) ≡ Some at → name.package ≡ u.path
  by true same rest e = sym (same_bytes u.path name.package (both_true (bytes_eq u.path name.package) (bytes_eq (type_name u x).name name.name && nat_eq (type_name u x).local name.local) same).0)
  by false other rest e = rest e

module _ (u : Unit) where
  -- what another package declares
  given_beside : (name : TypeName) (d : Declaration) → out.declared_by u.env name ≡ Some d → is_beside u name.package ≡ true
  given_beside name d e =
      let there = (where_true (name.local == 0) (option_and_then (declared_in name.name) (out.first_named out.path_of u.env name.package)) d e).1 in
      let (f, first, has) = bound (declared_in name.name) (out.first_named out.path_of u.env name.package) d there in
      let (i, at, it) = bound (λ (i : ℕ). slice_get u.env i) (place_of (paths_of u.env) name.package) f first in
      some_there (place_of (paths_of u.env) name.package) i at

  pub imported_beside : (name : TypeName) (d : Declaration) → imported_from u name ≡ Some d → is_beside u name.package ≡ true
  imported_beside name d e = given_beside name d (where_false (bytes_eq u.path name.package) (out.declared_by u.env name) d e).1

  module _ (marks : Item → Meaning) where
    abbrev ds : Declarations
    ds = declared_by u marks

    abbrev by_marks : TypeName → Option Declaration
    by_marks name = marked (type_item (bare u)) declaration_told (λ (i : Item). Some (marks i)) name

    marked_own : (name : TypeName) (d : Declaration) → by_marks name ≡ Some d → name.package ≡ u.path
    marked_own name d e = by (type_node (bare u) name) refl e where
      by : (o : Option NodeRef) → type_node (bare u) name ≡ o
          → option_map_or declaration_told (option_map_or (λ (i : Item). Some (marks i)) (option_and_then (under_at (bare u)) o) None) None ≡ Some d → name.package ≡ u.path
      by None at e = no_some d e
      by (Some node) at e = named_own (bare u) name (defined u) node at

    -- `error` is an interface
    error_is : (name : TypeName) → is_same_name name error_name ≡ true → is_interface ds (DefinedType name) ≡ true
    error_is name same = ap (λ (b : Bool). option_map_or is_interface_type (option_map (λ (d : Declaration). d.under) (option_or (if b then Some error_declaration else imported_from u name) (by_marks name))) false) same

    declared_from : (name : TypeName) (d : Declaration) (o : Option Declaration) → imported_from u name ≡ o → option_or o (by_marks name) ≡ Some d → IsSeen u name.package
    declared_from name d None none e = inl (marked_own name d e)
    declared_from name d (Some other) there e = inr (imported_beside name other there)

    -- a type that is declared, and is no interface, is one of the package or of one of its environment
    pub declared_seen : (name : TypeName) (d : Declaration) → ds name ≡ Some d → is_interface ds (DefinedType name) ≡ false → IsSeen u name.package
    declared_seen name d e no_interface = by (is_same_name name error_name) refl e where
      by : (b : Bool) → is_same_name name error_name ≡ b → option_or (if b then Some error_declaration else imported_from u name) (by_marks name) ≡ Some d → IsSeen u name.package
      by true same e = absurd (differ (is_interface ds (DefinedType name)) (error_is name same) no_interface)
      by false other e = declared_from name d (imported_from u name) refl e
