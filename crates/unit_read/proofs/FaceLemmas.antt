-- What is seen of packages, by the interfaces over the types of the environment.
use Rattle.std.proofs.Common.{◌≡◌, ℕ, ◌<◌, ◌++◌, List, [], ◌∷◌, length, map, slice_get, option_and_then, option_map, Option, Some, None, IfSome, refl, sym, ap, ◌∙◌, subst}
use Rattle.std.specs.Prelude.{All}
use Rattle.std.proofs.lemmas.Option.{slice_get-map, slice_get_within, get_or_from_slice_get}
use Rattle.go_tree.specs.Lexeme.{place_of}
use Rattle.go_tree.specs.declared.bindings.Object.{Object}
use Rattle.go_tree.specs.declared.bindings.Object.TheVariants as o
use Rattle.package_faces.specs.declared.interface.Interface.{Interface}
use Rattle.package_faces.specs.declared.interface.Exported.{Exported}
use Rattle.package_faces.specs.declared.interface.ExportForm.{ExportForm}
use Rattle.package_faces.specs.declared.interface.ExportForm.TheVariants as form
use Rattle.package_faces.specs.Faces.{ObjectOut, Face}
use Rattle.package_faces.specs.Interfaces.{object_in as out_in, face_of, faces_of, id_of, IsOwn, IsObjectIn, IsInterfaceIn, AreInterfacesIn}
use Rattle.type_model.specs.declared.term.TypeName.{TypeName}
use Rattle.type_model.specs.GoTypes.{GoType, DefinedType, type_at, types_of}
use Rattle.typed_tree.specs.declared.mark.Mode.TheVariants as mode
use Rattle.typed_tree.specs.Meanings.{Meaning}
use Rattle.unit_read.specs.declared.environment.Environment.{Environment}
use Rattle.unit_read.specs.declared.lead.Lead.{Lead}
use Rattle.unit_read.specs.declared.subject.Subject.{Subject}
use Rattle.unit_read.specs.Environments.{interface_paths, names_of, object_in, faces_in, IsEnvironment}
use Rattle.unit_read.specs.Exports.{mark_in, use_in, uses_in, IsUseIn, object_at, object_by, object_from, object_of}
use Rattle.unit_read.specs.Imports.{paths_of, object_name, out_mark, plain_mark, exported_in, exported_by, exported_of, lead_at}
use Rattle.unit_read.specs.Subjects.{full_of, IsRead}

all_at : {X : Type 0} (P : X → Type 0) (xs : List X) (k : ℕ) (x : X) → All P xs → slice_get xs k ≡ Some x → P x
all_at P xs k x all at = subst P (get_or_from_slice_get xs k x x at) (all k x (slice_get_within xs k x at))

-- the paths are those of the interfaces
pub paths_are : (types : List GoType) (list : List Interface) → paths_of (faces_of types list) ≡ interface_paths list
paths_are types [] = refl
paths_are types (i ∷ list) = ap (λ (rest : List (List ℕ)). i.path ∷ rest) (paths_are types list)

pub paths_here : (env : Environment) → interface_paths env.interfaces.now ≡ paths_of (faces_in env)
unfolding faces_in
paths_here env = sym (paths_are (types_of env.types.now) env.interfaces.now)

module _ (types : List GoType) (n : ℕ) where
  names_are : (list : List Exported) → map object_name (map (λ e. out_in types e) list) ≡ names_of list
  names_are [] = refl
  names_are (e ∷ list) = ap (λ (rest : List (List ℕ)). e.name ∷ rest) (names_are list)

  own_mark : (path name : List ℕ) (f : ExportForm) → IsOwn path types name f → out_mark path (out_in types (record { name = name; form = f })) ≡ mark_in types f
  own_mark path name (form.Constant id c) own = refl
  own_mark path name (form.Variable id) own = refl
  own_mark path name (form.Function id) own = refl
  own_mark path name (form.Own id) own = ap (plain_mark mode.TypeName) (sym own)
  own_mark path name (form.Alias id) own = refl

  -- ---- one interface

  module _ (i : Interface) (within : IsInterfaceIn n types i) where
    at_place : (o : Option Exported) → ((e : Exported) → o ≡ Some e → IsObjectIn i.path n types e)
        → option_map (out_mark i.path) (option_map (λ e. out_in types e) o) ≡ uses_in types o
    at_place None each = refl
    at_place (Some e) each = ap Some (own_mark i.path e.name e.form (each e refl).1)

    in_it : (k : ℕ) (e : Exported) → slice_get i.objects k ≡ Some e → IsObjectIn i.path n types e
    in_it k e at = all_at (IsObjectIn i.path n types) i.objects k e within.objects.each at

    placed : (o : Option ℕ) → option_map (out_mark i.path) (option_and_then (slice_get (map (λ e. out_in types e) i.objects)) o) ≡ uses_in types (option_and_then (slice_get i.objects) o)
    placed None = refl
    placed (Some k) = ap (option_map (out_mark i.path)) (slice_get-map (λ e. out_in types e) i.objects k) ∙ at_place (slice_get i.objects k) (λ e at. in_it k e at)

    one_face : (name : List ℕ) → exported_in name (face_of types i) ≡ uses_in types (object_in name i)
    one_face name =
        ap (λ (names : List (List ℕ)). option_map (out_mark i.path) (option_and_then (slice_get (map (λ e. out_in types e) i.objects)) (place_of names name))) (names_are i.objects)
        ∙ placed (place_of (names_of i.objects) name)

    within_at : (o : Option ℕ) → IfSome (option_and_then (slice_get i.objects) o) (IsUseIn n)
    within_at None = tt
    within_at (Some k) = by (slice_get i.objects k) refl where
      by : (x : Option Exported) → slice_get i.objects k ≡ x → IfSome x (IsUseIn n)
      by None at = tt
      by (Some e) at = (in_it k e at).0

  -- ---- all interfaces

  module _ (list : List Interface) (within : AreInterfacesIn n types list) where
    each : (k : ℕ) (i : Interface) → slice_get list k ≡ Some i → IsInterfaceIn n types i
    each k i at = all_at (IsInterfaceIn n types) list k i within.each at

    exported_at : (name : List ℕ) (k : ℕ) → option_and_then (exported_in name) (slice_get (faces_of types list) k) ≡ uses_in types (object_at list name k)
    exported_at name k = ap (option_and_then (exported_in name)) (slice_get-map (λ i. face_of types i) list k) ∙ by (slice_get list k) refl where
      by : (o : Option Interface) → slice_get list k ≡ o → option_and_then (exported_in name) (option_map (λ i. face_of types i) o) ≡ uses_in types (option_and_then (object_in name) o)
      by None at = refl
      by (Some i) at = one_face i (each k i at) name

    numbered : (name : List ℕ) (o : Option ℕ) → option_and_then (λ k. option_and_then (exported_in name) (slice_get (faces_of types list) k)) o ≡ uses_in types (object_by list name o)
    numbered name None = refl
    numbered name (Some k) = exported_at name k

    led : (name : List ℕ) (o : Option Lead) → option_and_then (exported_by (faces_of types list) name) o ≡ uses_in types (object_from list name o)
    led name None = refl
    led name (Some l) = numbered name l.interface

    within_object : (name : List ℕ) (k : ℕ) → IfSome (object_at list name k) (IsUseIn n)
    within_object name k = by (slice_get list k) refl where
      by : (o : Option Interface) → slice_get list k ≡ o → IfSome (option_and_then (object_in name) o) (IsUseIn n)
      by None at = tt
      by (Some i) at = within_at i (each k i at) (place_of (names_of i.objects) name)

    within_number : (name : List ℕ) (o : Option ℕ) → IfSome (object_by list name o) (IsUseIn n)
    within_number name None = tt
    within_number name (Some k) = within_object name k

    within_lead : (name : List ℕ) (o : Option Lead) → IfSome (object_from list name o) (IsUseIn n)
    within_lead name None = tt
    within_lead name (Some l) = within_number name l.interface

-- what the package that an object is has for a name
module _ (s : Subject) (read : IsRead s) (name : List ℕ) where
  pub uses_are : (object : Option Object) → uses_in (types_of s.env.now.types.now) (object_of s name object) ≡ exported_of (full_of s) name object
  unfolding faces_in
  uses_are None = refl
  uses_are (Some (o.Import at)) =
      sym (led (types_of s.env.now.types.now) (length s.env.now.types.now) s.env.now.interfaces.now read.env.within name (lead_at (full_of s) at))
  uses_are (Some (o.Universe i)) = refl
  uses_are (Some (o.Local at)) = refl
  uses_are (Some (o.Package at)) = refl

  pub uses_within : (object : Option Object) → IfSome (object_of s name object) (IsUseIn (length s.env.now.types.now))
  uses_within None = tt
  uses_within (Some (o.Import at)) =
      within_lead (types_of s.env.now.types.now) (length s.env.now.types.now) s.env.now.interfaces.now read.env.within name (lead_at (full_of s) at)
  uses_within (Some (o.Universe i)) = tt
  uses_within (Some (o.Local at)) = tt
  uses_within (Some (o.Package at)) = tt
