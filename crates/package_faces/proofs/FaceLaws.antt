-- A package over a table is seen the same where the table has grown.
use Rattle.std.proofs.Common.{◌≡◌, ℕ, ◌<◌, List, [], ◌∷◌, length, map, refl, ap, ◌∙◌}
use Rattle.std.specs.Prelude.{All}
use Rattle.std.proofs.lemmas.List.Elements.{All-head, All-tail, All-weaker}
use Rattle.type_model.specs.declared.term.Method.{Method}
use Rattle.type_model.specs.declared.term.Term.{Term}
use Rattle.type_model.specs.GoTypes.{GoType, GoSignature, type_at, types_of, SignatureBelow, MethodsBelow}
use Rattle.type_model.specs.Parts.{GoMethod, method_of}
use Rattle.type_model.specs.Tables.{Extends}
use Rattle.type_model.proofs.TypeLaws.{AgreeBelow, signature_same, methods_more, extends-more}
use Rattle.package_faces.specs.declared.interface.Interface.{Interface}
use Rattle.package_faces.specs.declared.interface.Exported.{Exported}
use Rattle.package_faces.specs.declared.interface.ExportedType.{ExportedType}
use Rattle.package_faces.specs.declared.interface.ExportForm.{ExportForm}
use Rattle.package_faces.specs.declared.interface.ExportForm.TheVariants as form
use Rattle.package_faces.specs.Faces.{Form, ConstantForm, VariableForm, FunctionForm, AliasForm, ObjectOut, DefinedOut, Face}
use Rattle.package_faces.specs.Interfaces.{form_in, object_in, defined_in, face_of, faces_of, id_of, IsOwn, IsObjectIn, IsDefinedIn, AreObjectsIn, AreDefinedIn, IsInterfaceIn, AreInterfacesIn}

module _ (old new : List Term) (grown : Extends old new) where
  agree : AgreeBelow (length old) (types_of new) (types_of old)
  agree i low = (grown i low).1

  -- ---- methods

  pub methods_stay : (methods : List Method) → MethodsBelow (length old) methods → map (λ m. method_of (types_of new) m) methods ≡ map (λ m. method_of (types_of old) m) methods
  methods_stay [] below = refl
  methods_stay (m ∷ methods) below =
      let first : method_of (types_of new) m ≡ method_of (types_of old) m =
      ap (λ (s : GoSignature). record { name = m.name; owner = m.package; pointer = m.pointer; of = s }) (signature_same (types_of new) (types_of old) (length old) agree m.of (All-head (λ (x : Method). SignatureBelow (length old) x.of) m methods below)) in
      let rest = methods_stay methods (All-tail (λ (x : Method). SignatureBelow (length old) x.of) m methods below) in
      ap (λ (x : GoMethod). x ∷ map (λ m. method_of (types_of new) m) methods) first ∙ ap (λ (xs : List GoMethod). method_of (types_of old) m ∷ xs) rest

  pub methods_grow : (methods : List Method) → MethodsBelow (length old) methods → MethodsBelow (length new) methods
  methods_grow methods below = methods_more (length old) (length new) (extends-more old new grown) methods below

  -- ---- objects

  form_stays : (f : ExportForm) → (id_of f).0 < length old → form_in (types_of new) f ≡ form_in (types_of old) f
  form_stays (form.Constant id c) below = ap (λ (t : GoType). ConstantForm t c) (agree id.0 below)
  form_stays (form.Variable id) below = ap VariableForm (agree id.0 below)
  form_stays (form.Function id) below = ap FunctionForm (agree id.0 below)
  form_stays (form.Own id) below = refl
  form_stays (form.Alias id) below = ap AliasForm (agree id.0 below)

  own_stays : (path name : List ℕ) (f : ExportForm) → (id_of f).0 < length old → IsOwn path (types_of old) name f → IsOwn path (types_of new) name f
  own_stays path name (form.Constant id c) below own = tt
  own_stays path name (form.Variable id) below own = tt
  own_stays path name (form.Function id) below own = tt
  own_stays path name (form.Own id) below own = agree id.0 below ∙ own
  own_stays path name (form.Alias id) below own = tt

  pub object_grows : (path : List ℕ) (o : Exported) → IsObjectIn path (length old) (types_of old) o → IsObjectIn path (length new) (types_of new) o
  object_grows path o h = ((grown (id_of o.form).0 h.0).0, own_stays path o.name o.form h.0 h.1)

  pub object_stays : (path : List ℕ) (o : Exported) → IsObjectIn path (length old) (types_of old) o → object_in (types_of new) o ≡ object_in (types_of old) o
  object_stays path o h = ap (λ (f : Form). record { name = o.name; form = f }) (form_stays o.form h.0)

  objects_stay : (path : List ℕ) (objects : List Exported) → All (IsObjectIn path (length old) (types_of old)) objects → map (λ o. object_in (types_of new) o) objects ≡ map (λ o. object_in (types_of old) o) objects
  objects_stay path [] h = refl
  objects_stay path (o ∷ objects) h =
      let first = object_stays path o (All-head (IsObjectIn path (length old) (types_of old)) o objects h) in
      let rest = objects_stay path objects (All-tail (IsObjectIn path (length old) (types_of old)) o objects h) in
      ap (λ (x : ObjectOut). x ∷ map (λ o. object_in (types_of new) o) objects) first ∙ ap (λ (xs : List ObjectOut). object_in (types_of old) o ∷ xs) rest

  -- ---- defined types

  pub defined_grows : (d : ExportedType) → IsDefinedIn (length old) d → IsDefinedIn (length new) d
  defined_grows d h = ((grown d.under.0 h.0).0, methods_grow d.methods h.1)

  pub defined_stays : (d : ExportedType) → IsDefinedIn (length old) d → defined_in (types_of new) d ≡ defined_in (types_of old) d
  defined_stays d h =
      ap (λ (t : GoType). record { name = d.name; under = t; methods = map (λ m. method_of (types_of new) m) d.methods }) (agree d.under.0 h.0)
      ∙ ap (λ (ms : List GoMethod). record { name = d.name; under = type_at (types_of old) d.under; methods = ms }) (methods_stay d.methods h.1)

  defineds_stay : (types : List ExportedType) → All (IsDefinedIn (length old)) types → map (λ d. defined_in (types_of new) d) types ≡ map (λ d. defined_in (types_of old) d) types
  defineds_stay [] h = refl
  defineds_stay (d ∷ types) h =
      let first = defined_stays d (All-head (IsDefinedIn (length old)) d types h) in
      let rest = defineds_stay types (All-tail (IsDefinedIn (length old)) d types h) in
      ap (λ (x : DefinedOut). x ∷ map (λ d. defined_in (types_of new) d) types) first ∙ ap (λ (xs : List DefinedOut). defined_in (types_of old) d ∷ xs) rest

  -- ---- packages

  pub interface_grows : (i : Interface) → IsInterfaceIn (length old) (types_of old) i → IsInterfaceIn (length new) (types_of new) i
  interface_grows i h = record {
    objects = record { each = All-weaker (IsObjectIn i.path (length old) (types_of old)) (IsObjectIn i.path (length new) (types_of new)) (object_grows i.path) i.objects h.objects.each };
    defined = record { each = All-weaker (IsDefinedIn (length old)) (IsDefinedIn (length new)) defined_grows i.types h.defined.each };
  }

  pub face_stays : (i : Interface) → IsInterfaceIn (length old) (types_of old) i → face_of (types_of new) i ≡ face_of (types_of old) i
  face_stays i h =
      ap (λ (objects : List ObjectOut). record { path = i.path; name = i.name; objects = objects; types = map (λ d. defined_in (types_of new) d) i.types }) (objects_stay i.path i.objects h.objects.each)
      ∙ ap (λ (types : List DefinedOut). record { path = i.path; name = i.name; objects = map (λ o. object_in (types_of old) o) i.objects; types = types }) (defineds_stay i.types h.defined.each)

  all_stay : (list : List Interface) → All (IsInterfaceIn (length old) (types_of old)) list → faces_of (types_of new) list ≡ faces_of (types_of old) list
  all_stay [] h = refl
  all_stay (i ∷ list) h =
      let first = face_stays i (All-head (IsInterfaceIn (length old) (types_of old)) i list h) in
      let rest = all_stay list (All-tail (IsInterfaceIn (length old) (types_of old)) i list h) in
      ap (λ (x : Face). x ∷ faces_of (types_of new) list) first ∙ ap (λ (xs : List Face). face_of (types_of old) i ∷ xs) rest

  pub interfaces_grow : (list : List Interface) → AreInterfacesIn (length old) (types_of old) list → AreInterfacesIn (length new) (types_of new) list
  interfaces_grow list h = record { each = All-weaker (IsInterfaceIn (length old) (types_of old)) (IsInterfaceIn (length new) (types_of new)) interface_grows list h.each }

  -- where the table has grown, the packages are seen the same
  pub faces_stay : (list : List Interface) → AreInterfacesIn (length old) (types_of old) list → faces_of (types_of new) list ≡ faces_of (types_of old) list
  faces_stay list h = all_stay list h.each
