-- Selectors select the methods that they selected, and no others, where more is seen of other packages.
use Rattle.std.proofs.Common.{◌≡◌, inl, inr, ℕ, Bool, true, false, if◌then◌else◌, Option, Some, None, option_map, option_and_then, List, [], ◌∷◌, refl, sym, ap, ◌∙◌, subst}
use Rattle.std.specs.Option.{option_or, option_map_or}
use Rattle.std.specs.Str.{bytes_eq}
use Rattle.go_tree.specs.declared.tree.NodeRef.{NodeRef}
use Rattle.method_sets.specs.Levels.{Chosen, One, EnoughToSelect, SaysSelected}
use Rattle.method_sets.specs.Members.{AMethod}
use Rattle.method_sets.specs.Paths.{base, Leads}
use Rattle.method_sets.specs.Shown.{is_interface_type}
use Rattle.method_sets.proofs.ChooseLaws.{selecting_lasts}
use Rattle.package_faces.specs.Faces.{Face}
use Rattle.selected_methods.specs.Owners.{owner_of, selected_name}
use Rattle.selected_methods.specs.Selected.{method_at, is_interface, method_of, method_led, to_select, IsMethodOf, declared_by, IsSelectedMethod}
use Rattle.selected_methods.specs.Ways.{field_base, embedded_of, embedded, led}
use Rattle.type_growth.proofs.GrowthLaws.{under_grows}
use Rattle.type_growth.specs.Growth.{Grows as DeclaresMore}
use Rattle.type_model.specs.declared.term.TypeName.{TypeName}
use Rattle.type_model.specs.Declarations.{Declaration, Declarations, under_of}
use Rattle.type_model.specs.GoTypes.{GoType, BasicType, DefinedType, PointerTo, SliceOf, ArrayOf, MapOf, ChanOf, FuncOf, StructOf, InterfaceOf, GoSignature}
use Rattle.typed_marks.specs.declared.item.Item.{Item}
use Rattle.typed_marks.specs.Meanings.{Meaning}
use Rattle.unit_read.specs.Imports.{bare}
use Rattle.unit_read.specs.Units.{Unit, defined, type_node, base_of}
use Rattle.unit_read.proofs.BareLemmas.{over}
use Rattle.unit_read.proofs.TypeLemmas.{foreign}
use Rattle.rule_words.specs.Asking.{type_item, declaration_told}
use Rattle.action_graph.proofs.StayFaces.{bound_some}
use Rattle.action_graph.proofs.StayImports.{Within, bare_is}
use Rattle.action_graph.proofs.StayMarks.{own_item, own_same, base_more}

-- ---- what is declared

-- to which type embedded fields lead that lead there
leads_led : (ds : Declarations) (a : GoType) (path : List ℕ) (b : GoType) → Leads ds a path b → led ds a path ≡ Some b
leads_led ds a [] b h = ap Some h
leads_led ds a (k ∷ path) b (c, (f, at, embeds, is), more) =
    ap (λ (o : Option _). option_and_then (λ t. led ds t path) (option_map field_base o)) at
    ∙ (ap (λ (t : GoType). led ds t path) is ∙ leads_led ds c path b more)

module _ (u : Unit) (world : List Face) (a : Within u world) (marks : Item → Meaning) where
  -- what the marks declare of a name
  abbrev Told : TypeName → Option Declaration
  Told n = option_map_or declaration_told (option_map_or (λ (i : Item). Some (marks i)) (type_item (bare u) n) None) None

  many_is : (n : TypeName) → declared_by (over u world) marks n ≡ option_or (base_of (over u world) n) (Told n)
  many_is n = ap (λ (w : Unit). option_or (base_of (over u world) n) (option_map_or declaration_told (option_map_or (λ (i : Item). Some (marks i)) (type_item w n) None) None)) (bare_is u world a)

  -- marks declare types of the package
  told_own : (n : TypeName) (d : Declaration) → Told n ≡ Some d → bytes_eq u.path n.package ≡ true
  told_own n d = by (type_item (bare u) n) refl where
    by : (o : Option Item) → type_item (bare u) n ≡ o → option_map_or declaration_told (option_map_or (λ (i : Item). Some (marks i)) o None) None ≡ Some d → bytes_eq u.path n.package ≡ true
    by None none told = absurd cc
    by (Some i) own told = own_item (bare u) n i own

  -- of types of the package the same is declared
  pub own_declared : (n : TypeName) → bytes_eq u.path n.package ≡ true → declared_by (over u world) marks n ≡ declared_by u marks n
  own_declared n own = many_is n ∙ ap (λ (o : Option Declaration). option_or o (Told n)) (own_same u world n own)

  -- what is declared stays so
  pub declared_more : DeclaresMore (declared_by u marks) (declared_by (over u world) marks)
  declared_more n d h = many_is n ∙ by (base_of u n) refl h where
    by : (o : Option Declaration) → base_of u n ≡ o → option_or o (Told n) ≡ Some d
        → option_or (base_of (over u world) n) (Told n) ≡ Some d
    by None none told = ap (λ (o : Option Declaration). option_or o (Told n)) (own_same u world n (told_own n d told) ∙ none) ∙ told
    by (Some x) known said = ap (λ (o : Option Declaration). option_or o (Told n)) (base_more u world a n x known) ∙ said

  -- ---- the way to a method

  embedded_more : (t : GoType) (k : ℕ) (x : GoType) → embedded (declared_by u marks) t k ≡ Some x → embedded (declared_by (over u world) marks) t k ≡ Some x
  embedded_more t k x h = by (under_of (declared_by u marks) t) refl h where
    by : (o : Option GoType) → under_of (declared_by u marks) t ≡ o → embedded_of o k ≡ Some x → embedded_of (under_of (declared_by (over u world) marks) t) k ≡ Some x
    by None none e = absurd cc
    by (Some under) known e = ap (λ (o : Option GoType). embedded_of o k) (under_grows (declared_by u marks) (declared_by (over u world) marks) t under declared_more known) ∙ e

  led_more : (t : GoType) (path : List ℕ) (x : GoType) → led (declared_by u marks) t path ≡ Some x → led (declared_by (over u world) marks) t path ≡ Some x
  led_more t [] x h = h
  led_more t (k ∷ path) x h =
      let first = bound_some (λ b. led (declared_by u marks) b path) (embedded (declared_by u marks) t k) x h in
      ap (option_and_then (λ b. led (declared_by (over u world) marks) b path)) (embedded_more t k first.0 first.1) ∙ led_more first.0 path x first.2

  no_method : (b : Bool) (o : Option NodeRef) → o ≡ None → (if b then None else o) ≡ None
  no_method true o none = refl
  no_method false o none = none

  -- the method of a type of the package
  defined_same : (name : List ℕ) (n : TypeName) → method_of (bare u) (declared_by (over u world) marks) name (DefinedType n) ≡ method_of (bare u) (declared_by u marks) name (DefinedType n)
  defined_same name n = by (bytes_eq u.path n.package) refl where
    by : (b : Bool) → bytes_eq u.path n.package ≡ b → method_of (bare u) (declared_by (over u world) marks) name (DefinedType n) ≡ method_of (bare u) (declared_by u marks) name (DefinedType n)
    by true own =
        ap (λ (o : Option Declaration). if option_map_or is_interface_type (option_map (λ (d : Declaration). d.under) o) false then None else option_and_then (method_at (bare u) name) (type_node (bare u) n)) (own_declared n own)
    by false other =
        let none : option_and_then (method_at (bare u) name) (type_node (bare u) n) ≡ None = ap (option_and_then (method_at (bare u) name)) (foreign (bare u) n (defined (bare u)) other) in
        no_method (is_interface (declared_by (over u world) marks) (DefinedType n)) (option_and_then (method_at (bare u) name) (type_node (bare u) n)) none
        ∙ sym (no_method (is_interface (declared_by u marks) (DefinedType n)) (option_and_then (method_at (bare u) name) (type_node (bare u) n)) none)

  method_same : (name : List ℕ) (t : GoType) → method_of (bare u) (declared_by (over u world) marks) name t ≡ method_of (bare u) (declared_by u marks) name t
  method_same name (BasicType kind) = refl
  method_same name (DefinedType n) = defined_same name n
  method_same name (PointerTo of) = refl
  method_same name (SliceOf of) = refl
  method_same name (ArrayOf size of) = refl
  method_same name (MapOf key of) = refl
  method_same name (ChanOf direction of) = refl
  method_same name (FuncOf of) = refl
  method_same name (StructOf fields) = refl
  method_same name (InterfaceOf methods) = refl

  -- where a way leads, the same method is led to
  led_same : (name : List ℕ) (of t : GoType) (path : List ℕ) → led (declared_by u marks) (base of) path ≡ Some t
      → method_led (bare u) (declared_by (over u world) marks) name of path ≡ method_led (bare u) (declared_by u marks) name of path
  led_same name of t path leads =
      ap (option_and_then (method_of (bare u) (declared_by (over u world) marks) name)) (led_more (base of) path t leads)
      ∙ (method_same name t ∙ sym (ap (option_and_then (method_of (bare u) (declared_by u marks) name)) leads))

  -- ---- what is selected

  method_forth : (name : List ℕ) (of : GoType) (w : NodeRef) → IsMethodOf (bare u) (declared_by u marks) name of w → IsMethodOf (bare u) (declared_by (over u world) marks) name of w
  method_forth name of w (path, method, pointer, enough, says, e) =
      let way = bound_some (method_of (bare u) (declared_by u marks) name) (led (declared_by u marks) (base of) path) w e in (
        path,
        method,
        pointer,
        selecting_lasts.enough (declared_by u marks) (declared_by (over u world) marks) (to_select (bare u) name of) declared_more enough,
        selecting_lasts.says (declared_by u marks) (declared_by (over u world) marks) (to_select (bare u) name of) (One path (AMethod method pointer)) declared_more enough says,
        led_same name of way.0 path way.1 ∙ e,
      )

  -- enough is declared to say what the name selects from the type
  abbrev pub IsDecided : List ℕ → GoType → Type 0
  IsDecided name of = EnoughToSelect (declared_by u marks) (to_select (bare u) name of) × ((c : Chosen) × SaysSelected (declared_by u marks) (to_select (bare u) name of) c)

  -- where a method is selected its path leads on
  selected_led : (name : List ℕ) (of : GoType) (path : List ℕ) (method : GoSignature) (pointer : Bool) → SaysSelected (declared_by u marks) (to_select (bare u) name of) (One path (AMethod method pointer))
      → (t : GoType) × (led (declared_by u marks) (base of) path ≡ Some t)
  selected_led name of path method pointer (from, m, begins, selects, is, given) = elim begins [
    | inl plain ↦ (selects.to, ap (λ (t : GoType). led (declared_by u marks) t path) plain.1.0 ∙ leads_led (declared_by u marks) from path selects.to selects.leads)
    | inr pointed ↦ absurd (given pointed.0 pointed.1)
  ]

  method_back : (name : List ℕ) (of : GoType) (w : NodeRef) → IsDecided name of → IsMethodOf (bare u) (declared_by (over u world) marks) name of w → IsMethodOf (bare u) (declared_by u marks) name of w
  method_back name of w (enough, (c, says)) (path, method, pointer, much, more, e) =
      let also = selecting_lasts.says (declared_by u marks) (declared_by (over u world) marks) (to_select (bare u) name of) c declared_more enough says in
      let one : c ≡ One path (AMethod method pointer) = selecting_lasts.once (declared_by (over u world) marks) (to_select (bare u) name of) c (One path (AMethod method pointer)) also more in
      let here = subst (λ (x : Chosen). SaysSelected (declared_by u marks) (to_select (bare u) name of) x) one says in
      let way = selected_led name of path method pointer here in
      (path, method, pointer, enough, here, sym (led_same name of way.0 path way.1) ∙ e)

  -- enough is declared for each selector without a fault
  abbrev pub AllDecided : Type 0
  AllDecided = (at : NodeRef) (of : GoType) → owner_of (bare u) marks at ≡ Some of → IsDecided (selected_name (bare u) at) of

  module _ (decided : AllDecided) where
    abbrev Selected : Unit → Declarations → NodeRef → NodeRef → Type 0
    Selected b ds at w = (of : GoType) × (owner_of b marks at ≡ Some of) × IsMethodOf b ds (selected_name b at) of w

    pub selected_forth : (at w : NodeRef) → IsSelectedMethod u marks at w → IsSelectedMethod (over u world) marks at w
    selected_forth at w (of, owns, is) =
        subst (λ (b : Unit). Selected b (declared_by (over u world) marks) at w) (sym (bare_is u world a)) (of, owns, method_forth (selected_name (bare u) at) of w is)

    selected_here : (at w : NodeRef) → Selected (bare u) (declared_by (over u world) marks) at w → IsSelectedMethod u marks at w
    selected_here at w (of, owns, is) = (of, owns, method_back (selected_name (bare u) at) of w (decided at of owns) is)

    pub selected_back : (at w : NodeRef) → IsSelectedMethod (over u world) marks at w → IsSelectedMethod u marks at w
    selected_back at w is = selected_here at w (subst (λ (b : Unit). Selected b (declared_by (over u world) marks) at w) (bare_is u world a) is)
