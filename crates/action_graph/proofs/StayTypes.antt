-- What types of other packages are declared with is the same where more is seen of packages, of all types that stand in what is known of one.
use Rattle.std.proofs.Common.{◌≡◌, ◌⊎◌, inl, inr, ℕ, zero, suc, ◌==◌, ◌&&◌, Bool, true, false, if◌then◌else◌, Option, Some, None, option_map, option_and_then, List, [], ◌∷◌, slice_get, refl, sym, ap, ◌∙◌, subst, arith}
use Rattle.std.proofs.Math.Path.{fun_ext}
use Rattle.std.specs.List.{Contains, flat_map}
use Rattle.std.specs.Option.{option_map_or}
use Rattle.std.specs.Str.{bytes_eq}
use Rattle.std.proofs.lemmas.List.Elements.{Contains-append_left, Contains-append_right}
use Rattle.std.proofs.lemmas.Option.{same_Some}
use Rattle.std.proofs.lemmas.Slice.Eq.{bytes_eq-Decides}
use Rattle.go_tree.specs.declared.bindings.Object.{Object}
use Rattle.go_tree.specs.declared.bindings.Object.TheVariants as o
use Rattle.go_tree.specs.declared.tree.Node.{Node}
use Rattle.go_tree.specs.declared.tree.NodeRef.{NodeRef}
use Rattle.export_text.specs.Mentions.{StandsIn, defined_types, object_types}
use Rattle.package_faces.specs.Declaring.{first_named, path_of, defined_name, declaration_out, declared_in, declared_by}
use Rattle.package_faces.specs.Faces.{Form, ConstantForm, VariableForm, FunctionForm, OwnForm, AliasForm, ObjectOut, DefinedOut, Face}
use Rattle.package_faces.specs.Reaching.{ReachesStart, ReachesNext, own_name}
use Rattle.type_model.specs.declared.term.TypeName.{TypeName}
use Rattle.type_model.specs.Declarations.{Declaration}
use Rattle.type_model.specs.GoTypes.{GoType, BasicType, DefinedType, PointerTo, SliceOf, ArrayOf, MapOf, ChanOf, FuncOf, StructOf, InterfaceOf}
use Rattle.type_model.specs.Tables.{is_same_name}
use Rattle.typed_tree.specs.Universe.{error_name}
use Rattle.typed_tree.specs.Meanings.{Meaning, Known}
use Rattle.unit_read.specs.declared.lead.Lead.{Lead}
use Rattle.unit_read.specs.Imports.{out_mark, object_name, exported_in, exported_by, exported_of, lead_at}
use Rattle.unit_read.specs.Units.{Unit, node_at, last_spelled, base_of, error_declaration}
use Rattle.unit_read.proofs.BareLemmas.{over, bare_exports}
use Rattle.check_pkg.specs.Elsewhere.{is_struct, has_fields, takes_fields, has_field_keys, names_fields, is_struct_use, exports_struct, names_struct, is_selector, is_type_name, owner_at, struct_elsewhere}
use Rattle.action_graph.specs.Closed.{Knows, is_reserved}
use Rattle.action_graph.proofs.StayFaces.{bound_some, mapped_some, contains_at, contains_head, first_is, contained_there}
use Rattle.action_graph.proofs.StayImports.{Within, free_same, known_same, bare_is}

-- ---- lists

flat_in : {X Y : Type 0} (f : X → List Y) (xs : List X) (x : X) (y : Y) → Contains xs x → Contains (f x) y → Contains (flat_map f xs) y
flat_in f [] x y (k, low, e) h = absurd (omega (arith, low))
flat_in f (z ∷ xs) x y (zero, low, e) h = Contains-append_left (f z) (flat_map f xs) y (subst (λ (w : _). Contains (f w) y) (sym e) h)
flat_in f (z ∷ xs) x y (suc k, low, e) h = Contains-append_right (f z) (flat_map f xs) y (flat_in f xs x y (k, omega (arith, low), e) h)

-- ---- what stands in a face

-- the underlying type of a type of it
under_in : (f : Face) (d : DefinedOut) → Contains f.types d → StandsIn f d.under
under_in f d c = ReachesStart d.under (Contains-append_right (flat_map object_types f.objects) (flat_map defined_types f.types) d.under (flat_in defined_types f.types d d.under c (contains_head d.under _)))

object_in : (f : Face) (x : ObjectOut) (t : GoType) → Contains f.objects x → Contains (object_types x) t → StandsIn f t
object_in f x t c h = ReachesStart t (Contains-append_left (flat_map object_types f.objects) (flat_map defined_types f.types) t (flat_in object_types f.objects x t c h))

-- what a pointer points to
pointed_in : (f : Face) (s : GoType) → StandsIn f (PointerTo s) → StandsIn f s
pointed_in f s h = ReachesNext (PointerTo s) s h (contains_head s [])

module _ (u : Unit) (world : List Face) (a : Within u world) where
  -- a name of the universe block, or of a package of which something is known
  abbrev pub Ground : TypeName → Type 0
  Ground n = (n.package ≡ []) ⊎ ((g : Face) × Knows u.env n.package g)

  -- so is each that stands in a face that is known
  pub stands_ground : (f : Face) (n : TypeName) → Contains u.env f → StandsIn f (DefinedType n) → Ground n
  stands_ground f n c stands = by (bytes_eq n.package []) refl (bytes_eq n.package f.path) refl where
    by : (none : Bool) → bytes_eq n.package [] ≡ none → (own : Bool) → bytes_eq n.package f.path ≡ own → Ground n
    by true none own is = inl ((bytes_eq-Decides n.package []).0 none)
    by false some true is = inr (subst (λ (q : List ℕ). (g : Face) × Knows u.env q g) (sym ((bytes_eq-Decides n.package f.path).0 is)) (contained_there u.env f c))
    by false some false is = inr (a.mentions f n.package c (record {
      name = n;
      stands = stands;
      of = refl;
      other = λ same. (let yes_it : bytes_eq n.package f.path ≡ true = (bytes_eq-Decides n.package f.path).1 same in absurd cc);
      some = λ none. (let yes_it : bytes_eq n.package [] ≡ true = (bytes_eq-Decides n.package []).1 none in absurd cc);
    }))

  face_same : (n : TypeName) → Ground n → first_named path_of world n.package ≡ first_named path_of u.env n.package
  face_same n (inl none) = free_same u world a n.package (ap is_reserved none)
  face_same n (inr known) = known_same u world a n.package known

  pub declared_same : (n : TypeName) → Ground n → declared_by world n ≡ declared_by u.env n
  declared_same n ground = ap (λ (r : Option Face). if n.local == 0 then option_and_then (declared_in n.name) r else None) (face_same n ground)

  pub base_same : (n : TypeName) → Ground n → base_of (over u world) n ≡ base_of u n
  base_same n ground = ap (λ (r : Option Declaration). if is_same_name n error_name then Some error_declaration else (if bytes_eq u.path n.package then None else r)) (declared_same n ground)

  -- what a name is declared with stands in a face that is known, or is that of `error`
  abbrev pub FromFace : Declaration → Type 0
  FromFace d = (f : Face) × (e : DefinedOut) × Contains u.env f × Contains f.types e × (declaration_out e ≡ d)

  from_local : (b : Bool) (n : TypeName) (d : Declaration) → (if b then option_and_then (declared_in n.name) (first_named path_of u.env n.package) else None) ≡ Some d → FromFace d
  from_local true n d h =
      let face = bound_some (declared_in n.name) (first_named path_of u.env n.package) d h in
      let out = mapped_some declaration_out (first_named defined_name face.0.types n.name) d face.2 in
      (face.0, out.0, (first_is path_of u.env n.package face.0 face.1).0, (first_is defined_name face.0.types n.name out.0 out.1).0, out.2)
  from_local false n d h = absurd cc

  pub from_base : (n : TypeName) (d : Declaration) → base_of u n ≡ Some d → (d ≡ error_declaration) ⊎ FromFace d
  from_base n d = by (is_same_name n error_name) (bytes_eq u.path n.package) where
    by : (e own : Bool) → (if e then Some error_declaration else (if own then None else declared_by u.env n)) ≡ Some d → (d ≡ error_declaration) ⊎ FromFace d
    by true own h = inl (sym (same_Some error_declaration d h))
    by false true h = absurd cc
    by false false h = inr (from_local (n.local == 0) n d h)

  -- ---- types whose literals have fields for keys

  -- a name that the type is
  abbrev Near : GoType → Type 0
  Near t = (n : TypeName) → t ≡ DefinedType n → Ground n

  near_in : (f : Face) (t : GoType) → Contains u.env f → StandsIn f t → Near t
  near_in f t c stands n is = stands_ground f n c (subst (StandsIn f) is stands)

  -- a type that it points to
  abbrev Points : GoType → Type 0
  Points t = (s : GoType) → t ≡ PointerTo s → Near s

  points_in : (f : Face) (t : GoType) → Contains u.env f → StandsIn f t → Points t
  points_in f t c stands s is = near_in f s c (pointed_in f s (subst (StandsIn f) is stands))

  error_points : Points error_declaration.under
  error_points s is = absurd cc

  base_points : (n : TypeName) (d : Declaration) → base_of u n ≡ Some d → Points d.under
  base_points n d is = elim (from_base n d is) [
    | inl e ↦ subst (λ (x : Declaration). Points x.under) (sym e) error_points
    | inr h ↦ subst (λ (x : Declaration). Points x.under) h.4 (points_in h.0 h.1.under h.2 (under_in h.0 h.1 h.3))
  ]

  fields_same : (t : GoType) → Near t → has_fields (base_of (over u world)) t ≡ has_fields (base_of u) t
  fields_same (BasicType kind) near = refl
  fields_same (DefinedType n) near = ap (λ (r : Option Declaration). option_map_or is_struct (option_map (λ (d : Declaration). d.under) r) false) (base_same n (near n refl))
  fields_same (PointerTo of) near = refl
  fields_same (SliceOf of) near = refl
  fields_same (ArrayOf size of) near = refl
  fields_same (MapOf key of) near = refl
  fields_same (ChanOf direction of) near = refl
  fields_same (FuncOf of) near = refl
  fields_same (StructOf fields) near = refl
  fields_same (InterfaceOf methods) near = refl

  takes_same : (t : GoType) → Points t → takes_fields (base_of (over u world)) t ≡ takes_fields (base_of u) t
  takes_same (BasicType kind) points = refl
  takes_same (DefinedType n) points = refl
  takes_same (PointerTo of) points = fields_same of (points of refl)
  takes_same (SliceOf of) points = refl
  takes_same (ArrayOf size of) points = refl
  takes_same (MapOf key of) points = refl
  takes_same (ChanOf direction of) points = refl
  takes_same (FuncOf of) points = refl
  takes_same (StructOf fields) points = refl
  takes_same (InterfaceOf methods) points = refl

  taken_same : (r : Option Declaration) → ((d : Declaration) → r ≡ Some d → Points d.under)
      → option_map_or (takes_fields (base_of (over u world))) (option_map (λ (d : Declaration). d.under) r) false ≡ option_map_or (takes_fields (base_of u)) (option_map (λ (d : Declaration). d.under) r) false
  taken_same None points = refl
  taken_same (Some d) points = takes_same d.under (points d refl)

  keys_same : (t : GoType) → Near t → Points t → has_field_keys (base_of (over u world)) t ≡ has_field_keys (base_of u) t
  keys_same (BasicType kind) near points = refl
  keys_same (DefinedType n) near points =
      ap (λ (r : Option Declaration). option_map_or (takes_fields (base_of (over u world))) (option_map (λ (d : Declaration). d.under) r) false) (base_same n (near n refl))
      ∙ taken_same (base_of u n) (λ d is. base_points n d is)
  keys_same (PointerTo of) near points = fields_same of (points of refl)
  keys_same (SliceOf of) near points = refl
  keys_same (ArrayOf size of) near points = refl
  keys_same (MapOf key of) near points = refl
  keys_same (ChanOf direction of) near points = refl
  keys_same (FuncOf of) near points = refl
  keys_same (StructOf fields) near points = refl
  keys_same (InterfaceOf methods) near points = refl

  -- ---- what packages export

  known_keys : (x : Known) → Near x.of → Points x.of → names_fields (base_of (over u world)) x ≡ names_fields (base_of u) x
  known_keys x near points = ap (λ (b : Bool). is_type_name x.mode && b) (keys_same x.of near points)

  form_keys : (f : Face) (x : ObjectOut) (form : Form) → Contains u.env f → Contains f.objects x → x.form ≡ form
      → is_struct_use (base_of (over u world)) (out_mark f.path (record { name = x.name; form = form })) ≡ is_struct_use (base_of u) (out_mark f.path (record { name = x.name; form = form }))
  form_keys f x (ConstantForm t c) c_f c_x is = refl
  form_keys f x (VariableForm t) c_f c_x is = refl
  form_keys f x (FunctionForm t) c_f c_x is = refl
  form_keys f x OwnForm c_f c_x is = keys_same (DefinedType own) near (λ s e. absurd cc) where
    own : TypeName
    own = own_name f.path x.name

    name_is : (n : TypeName) → DefinedType (own_name f.path x.name) ≡ DefinedType n → own_name f.path x.name ≡ n
    name_is n e = cc

    near : Near (DefinedType (own_name f.path x.name))
    near n e = subst Ground (name_is n e) (inr (contained_there u.env f c_f))
  form_keys f x (AliasForm t) c_f c_x is = keys_same t (near_in f t c_f stands) (points_in f t c_f stands) where
    stands : StandsIn f t
    stands = object_in f x t c_x (subst (λ (g : Form). Contains (object_types (record { name = x.name; form = g })) t) (sym is) (contains_head t []))

  use_same : (name : List ℕ) (l : Lead) (m : Meaning) → exported_by u.env name l ≡ Some m → is_struct_use (base_of (over u world)) m ≡ is_struct_use (base_of u) m
  use_same name l m h =
      let place = bound_some (λ i. option_and_then (exported_in name) (slice_get u.env i)) l.interface m h in
      let face = bound_some (exported_in name) (slice_get u.env place.0) m place.2 in
      let out = mapped_some (out_mark face.0.path) (first_named object_name face.0.objects name) m face.2 in
      let c_x = (first_is object_name face.0.objects name out.0 out.1).0 in
      subst (λ (y : Meaning). is_struct_use (base_of (over u world)) y ≡ is_struct_use (base_of u) y) out.2 (form_keys face.0 out.0 out.0.form (contains_at u.env place.0 face.0 face.1) c_x refl)

  object_same : (name : List ℕ) (object : Option Object) → option_map_or (is_struct_use (base_of (over u world))) (exported_of u name object) false ≡ option_map_or (is_struct_use (base_of u)) (exported_of u name object) false
  object_same name None = refl
  object_same name (Some (o.Import at)) = by (option_and_then (exported_by u.env name) (lead_at u at)) refl where
    by : (r : Option Meaning) → option_and_then (exported_by u.env name) (lead_at u at) ≡ r → option_map_or (is_struct_use (base_of (over u world))) r false ≡ option_map_or (is_struct_use (base_of u)) r false
    by None h = refl
    by (Some m) h = let lead = bound_some (exported_by u.env name) (lead_at u at) m h in use_same name lead.0 m lead.2
  object_same name (Some (o.Universe i)) = refl
  object_same name (Some (o.Local at)) = refl
  object_same name (Some (o.Package at)) = refl

  -- an import's package has the same for a name
  pub exported_same : (name : List ℕ) (object : Option Object) → exported_of (over u world) name object ≡ exported_of u name object
  exported_same name object = sym (bare_exports (over u world) name object) ∙ (ap (λ (w : Unit). exported_of w name object) (bare_is u world a) ∙ bare_exports u name object)

  exports_same : (name : List ℕ) (object : Option Object) → exports_struct (over u world) name object ≡ exports_struct u name object
  exports_same name object = ap (λ (r : Option Meaning). option_map_or (is_struct_use (base_of (over u world))) r false) (exported_same name object) ∙ object_same name object

  names_same : (at : NodeRef) (r : Option Node) → option_map_or (names_struct (over u world) at) r false ≡ option_map_or (names_struct u at) r false
  names_same at None = refl
  names_same at (Some node) = ap (λ (b : Bool). if is_selector node.kind then b else false) (exports_same (last_spelled u at.file node) (owner_at u at node))

  -- the same nodes name struct types of other packages
  pub struct_same : struct_elsewhere (over u world) ≡ struct_elsewhere u
  struct_same = fun_ext (λ at. names_same at (node_at u at))
