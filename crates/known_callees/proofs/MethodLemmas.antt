-- The type that a selected method is declared for is declared.
use Rattle.std.proofs.Common.{◌≡◌, inl, inr, ℕ, ◌++◌, Bool, true, false, if◌then◌else◌, List, [], ◌∷◌, map, Option, Some, None, option_map, slice_get, refl, sym, ap, ◌∙◌, subst}
use Rattle.std.specs.Prelude.{option_and_then}
use Rattle.std.specs.Option.{option_map_or}
use Rattle.std.specs.List.{find}
use Rattle.member_names.specs.Named.{type_called, method_named, named_of, method_of, method_led, IsMethodNamed}
use Rattle.method_sets.specs.Levels.{One, SaysSelected}
use Rattle.method_sets.specs.Members.{fields_from, methods_from, fields_in, AMethod, Member, Name, field_member, method_member, members, member_of, meets}
use Rattle.method_sets.specs.Paths.{base, is_pointer, Leads, Begins, IsDefinedPointer}
use Rattle.selected_methods.specs.Selected.{to_select, is_interface, declared_by}
use Rattle.selected_methods.specs.Ways.{field_base, embedded_of, embedded, led}
use Rattle.type_model.specs.declared.term.TypeName.{TypeName}
use Rattle.type_model.specs.Declarations.{Declaration, Declarations, under_of}
use Rattle.type_model.specs.GoTypes.{GoType, BasicType, DefinedType, PointerTo, SliceOf, ArrayOf, MapOf, ChanOf, FuncOf, StructOf, InterfaceOf, is_defined}
use Rattle.type_model.specs.Parts.{GoField}
use Rattle.typed_marks.specs.declared.item.Item.{Item}
use Rattle.typed_marks.specs.Meanings.{Meaning}
use Rattle.unit_read.specs.Units.{Unit}
use Rattle.known_callees.specs.Seen.{IsSeen}
use Rattle.known_callees.proofs.SeenLemmas.{declared_seen}
use Rattle.known_callees.proofs.Words.{bound, mapped, no_some, same_some, where_false}

-- the type has a declaration
abbrev IsDeclared : Declarations → TypeName → Type 0
IsDeclared ds name = (d : Declaration) × (ds name ≡ Some d)

module _ (ds : Declarations) where
  -- ---- the way

  leads_led : (a : GoType) (path : List ℕ) (b : GoType) → Leads ds a path b → led ds a path ≡ Some b
  leads_led a [] b same = ap (λ (x : GoType). Some x) same
  leads_led a (k ∷ path) b (c, (f, at, embeds, to), rest) =
      ap (λ (o : Option GoType). option_and_then (λ (x : GoType). led ds x path) o) (ap (λ (o : Option GoField). option_map field_base o) at ∙ ap (λ (x : GoType). Some x) to)
      ∙ leads_led c path b rest

  -- a pointer type has no fields
  no_field : (pointer : GoType) (k : ℕ) → is_pointer pointer ≡ true → embedded_of (Some pointer) k ≡ None
  no_field (PointerTo of) k is = refl
  no_field (BasicType kind) k is = absurd (cc)
  no_field (DefinedType name) k is = absurd (cc)
  no_field (SliceOf of) k is = absurd (cc)
  no_field (ArrayOf size of) k is = absurd (cc)
  no_field (MapOf key of) k is = absurd (cc)
  no_field (ChanOf direction of) k is = absurd (cc)
  no_field (FuncOf of) k is = absurd (cc)
  no_field (StructOf fields) k is = absurd (cc)
  no_field (InterfaceOf methods) k is = absurd (cc)

  -- ---- a type with a member is declared

  abbrev members_with : Option Declaration → List Member
  members_with o = map field_member (fields_from (option_map (λ (d : Declaration). d.under) o))
      ++ (map method_member (option_map_or (λ (d : Declaration). d.methods) o []) ++ map method_member (methods_from (option_map (λ (d : Declaration). d.under) o)))

  member_declared : (name : Name) (t : TypeName) (m : Member) → member_of ds name (DefinedType t) ≡ Some m → IsDeclared ds t
  member_declared name t m e = by (ds t) refl e where
    by : (o : Option Declaration) → ds t ≡ o → find (meets name) (members_with o) ≡ Some m → IsDeclared ds t
    by None none e = no_some m e
    by (Some d) there e = (d, there)

  under_declared : (t : TypeName) (under : GoType) → under_of ds (DefinedType t) ≡ Some under → IsDeclared ds t
  under_declared t under e = let (d, there, is) = mapped (λ (d : Declaration). d.under) (ds t) under e in (d, there)

  -- a defined pointer type leads to itself alone
  pointer_declared : (of pointer : GoType) (path : List ℕ) (t : TypeName) → IsDefinedPointer ds of pointer → led ds (base of) path ≡ Some (DefinedType t) → IsDeclared ds t
  pointer_declared (DefinedType n) pointer [] t (defined, under, points) e = let same : n ≡ t = cc in subst (λ (x : TypeName). IsDeclared ds x) same (under_declared n pointer under)
  pointer_declared (DefinedType n) pointer (k ∷ path) t (defined, under, points) e =
      let nowhere : embedded ds (DefinedType n) k ≡ None = ap (λ (o : Option GoType). embedded_of o k) under ∙ no_field pointer k points in
      no_some (DefinedType t) (sym (ap (λ (o : Option GoType). option_and_then (λ (x : GoType). led ds x path) o) nowhere) ∙ e)
  pointer_declared (BasicType kind) pointer path t (defined, under, points) e = absurd (cc)
  pointer_declared (PointerTo of) pointer path t (defined, under, points) e = absurd (cc)
  pointer_declared (SliceOf of) pointer path t (defined, under, points) e = absurd (cc)
  pointer_declared (ArrayOf size of) pointer path t (defined, under, points) e = absurd (cc)
  pointer_declared (MapOf key of) pointer path t (defined, under, points) e = absurd (cc)
  pointer_declared (ChanOf direction of) pointer path t (defined, under, points) e = absurd (cc)
  pointer_declared (FuncOf of) pointer path t (defined, under, points) e = absurd (cc)
  pointer_declared (StructOf fields) pointer path t (defined, under, points) e = absurd (cc)
  pointer_declared (InterfaceOf methods) pointer path t (defined, under, points) e = absurd (cc)

  -- the type to which the path of a selected method leads
  led_declared : (name : Name) (of a : GoType) (path : List ℕ) (to : GoType) (m : Member) (t : TypeName) → Begins ds of a → Leads ds a path to → member_of ds name to ≡ Some m → led ds (base of) path ≡ Some (DefinedType t)
      → IsDeclared ds t
  led_declared name of a path to m t (inl (plain, opens)) leads has e =
      let there : led ds (base of) path ≡ Some to = leads_led (base of) path to (subst (λ (x : GoType). Leads ds x path to) (sym opens.0) leads) in
      let is : to ≡ DefinedType t = same_some to (DefinedType t) (sym there ∙ e) in
      member_declared name t m (subst (λ (x : GoType). member_of ds name x ≡ Some m) is has)
  led_declared name of a path to m t (inr (pointer, is, opens)) leads has e = pointer_declared of pointer path t is e

module _ (u : Unit) (marks : Item → Meaning) where
  abbrev declared : Declarations
  declared = declared_by u marks

  method_seen : (method : List ℕ) (b : GoType) (m : List ℕ × List ℕ) → ((t : TypeName) → b ≡ DefinedType t → IsDeclared declared t) → method_of declared method b ≡ Some m → IsSeen u m.0
  method_seen method b m known e =
      let both = where_false (is_interface declared b) (named_of method b) m e in
      by b refl (mapped (method_named method) (type_called b) m both.1) both.0
    where
      by : (x : GoType) → b ≡ x → (t : TypeName) × (type_called x ≡ Some t) × (method_named method t ≡ m) → is_interface declared b ≡ false → IsSeen u m.0
      by (DefinedType t) is (n, called, named) no_interface =
          let one : n ≡ t = same_some n t (sym called) in
          let (d, there) = known t is in
          let no_type : is_interface declared (DefinedType t) ≡ false = subst (λ (x : GoType). is_interface declared x ≡ false) is no_interface in
          subst (λ (p : List ℕ). IsSeen u p) (ap (λ (x : TypeName). x.package) (sym one) ∙ ap (λ (x : List ℕ × List ℕ). x.0) named) (declared_seen u marks t d there no_type)
      by (BasicType kind) is (n, called, named) no_interface = no_some n called
      by (PointerTo of) is (n, called, named) no_interface = no_some n called
      by (SliceOf of) is (n, called, named) no_interface = no_some n called
      by (ArrayOf size of) is (n, called, named) no_interface = no_some n called
      by (MapOf key of) is (n, called, named) no_interface = no_some n called
      by (ChanOf direction of) is (n, called, named) no_interface = no_some n called
      by (FuncOf of) is (n, called, named) no_interface = no_some n called
      by (StructOf fields) is (n, called, named) no_interface = no_some n called
      by (InterfaceOf methods) is (n, called, named) no_interface = no_some n called

  pub selected_seen : (name : List ℕ) (of : GoType) (m : List ℕ × List ℕ) → IsMethodNamed u declared name of m → IsSeen u m.0
  selected_seen name of m (path, method, pointer, (a, x, begins, selects, is, given), e) =
      let (b, there, called) = bound (method_of declared name) (led declared (base of) path) m e in
      method_seen name b m
      (λ t same. led_declared declared (to_select u name of).name of a path selects.to x t begins selects.leads selects.has (there ∙ ap (λ (g : GoType). Some g) same))
      called
