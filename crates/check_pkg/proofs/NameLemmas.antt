-- The names that imports declare.
use Rattle.std.proofs.Common.{◌≡◌, ℕ, suc, ◌+◌, Bool, true, false, cond, List, [], ◌∷◌, ◌++◌, slice_get, Option, Some, None, option_map, option_and_then, refl, sym, ap, ◌∙◌, arith}
use Rattle.std.specs.Str.{bytes_eq}
use Rattle.std.specs.List.{position_from}
use Rattle.std.proofs.lemmas.List.{append-nil}
use Rattle.go_tree.specs.Lexeme.{place_of}
use Rattle.go_tree.specs.declared.tree.NodeRef.{NodeRef}
use Rattle.std.proofs.lemmas.Option.{slice_get-map}
use Rattle.package_faces.specs.declared.interface.Interface.{Interface}
use Rattle.package_faces.specs.Faces.{Face}
use Rattle.package_faces.specs.Interfaces.{face_of, faces_of}
use Rattle.type_model.specs.GoTypes.{GoType, types_of}
use Rattle.unit_read.specs.declared.environment.Environment.{Environment}
use Rattle.unit_read.specs.Environments.{faces_in}
use Rattle.bind.specs.Imports.{package_of}
use Rattle.bind.specs.Package.{listed}
use Rattle.bind.proofs.ImportLemmas.{map_join}
use Rattle.unit_read.specs.Imports.{paths_of}
use Rattle.check_pkg.specs.Packages.{known_of}
use Rattle.check_pkg.specs.ImportLists.{pairs, named_in}
use Rattle.check_pkg.specs.declared.import_names.Declared.{Declared}

pub push_listed : (old new : List Declared) (x : Declared) (o : Option (List ℕ)) (at : NodeRef) → new ≡ old ++ x ∷ [] → o ≡ Some x.name.now → x.at ≡ at → pairs new ≡ pairs old ++ listed o at
push_listed old new x o at is named place =
    ap pairs is ∙ (map_join (λ (d : Declared). (d.name.now, d.at)) old (x ∷ [])
    ∙ (ap (λ a. pairs old ++ (x.name.now, a) ∷ []) place ∙ ap (λ n. pairs old ++ listed n at) (sym named)))

pub none_listed : (old : List Declared) (o : Option (List ℕ)) (at : NodeRef) → o ≡ None → pairs old ≡ pairs old ++ listed o at
none_listed old o at is = sym (append-nil (pairs old)) ∙ ap (λ n. pairs old ++ listed n at) (sym is)

-- ---- the name of the package to which a path leads

seen_name : (types : List GoType) (o : Option Interface) → option_map (λ (i : Interface). i.name) o ≡ option_map (λ (f : Face). f.name) (option_map (λ i. face_of types i) o)
seen_name types None = refl
seen_name types (Some i) = refl

-- the name at a place is that of what is seen there
pub name_there : (env : Environment) (place : ℕ) → option_map (λ (i : Interface). i.name) (slice_get env.interfaces.now place) ≡ option_map (λ (f : Face). f.name) (slice_get (faces_in env) place)
unfolding faces_in
name_there env place =
    seen_name (types_of env.types.now) (slice_get env.interfaces.now place)
    ∙ ap (option_map (λ (f : Face). f.name)) (sym (slice_get-map (λ i. face_of (types_of env.types.now) i) env.interfaces.now place))

-- the paths and the names of packages are those of their faces
pub named_are : (types : List GoType) (list : List Interface) → named_in list ≡ known_of (faces_of types list)
named_are types [] = refl
named_are types (i ∷ list) = ap (λ (rest : List (List ℕ × List ℕ)). (i.path, i.name) ∷ rest) (named_are types list)

abbrev name_after : List Face → ℕ → ℕ → Option (List ℕ)
name_after env i k = option_map (λ (x : Face). x.name) (slice_get env k)

-- the name of the interface at a place that is counted from another on
leads : (env : List Face) (path : List ℕ) (i : ℕ) (whole : List Face)
    → ((k : ℕ) → slice_get whole (i + k) ≡ slice_get env k)
    → option_and_then (λ k. option_map (λ (x : Face). x.name) (slice_get whole k)) (position_from (λ spelling. bytes_eq spelling path) i (paths_of env)) ≡ package_of (known_of env) path
leads [] path i whole same = refl
leads (e ∷ env) path i whole same =
    by (bytes_eq e.path path) (leads env path (i + 1) whole (λ k. let up : i + 1 + k ≡ i + suc k = omega arith in ap (slice_get whole) up ∙ same (suc k))) where
      first : slice_get whole i ≡ Some e
      first = let zero_more : i ≡ i + 0 = omega arith in ap (slice_get whole) zero_more ∙ same 0

      by : (b : Bool) → option_and_then (λ k. option_map (λ (x : Face). x.name) (slice_get whole k)) (position_from (λ spelling. bytes_eq spelling path) (i + 1) (paths_of env)) ≡ package_of (known_of env) path
          → option_and_then (λ k. option_map (λ (x : Face). x.name) (slice_get whole k)) (cond b (Some i) (position_from (λ spelling. bytes_eq spelling path) (i + 1) (paths_of env)))
          ≡ cond b (Some e.name) (package_of (known_of env) path)
      by true rest = ap (option_map (λ (x : Face). x.name)) first
      by false rest = rest

pub package_is : (env : List Face) (path : List ℕ) → option_and_then (λ k. option_map (λ (x : Face). x.name) (slice_get env k)) (place_of (paths_of env) path) ≡ package_of (known_of env) path
package_is env path = leads env path 0 env (λ k. let same : 0 + k ≡ k = omega arith in ap (slice_get env) same)

pub leads_some : (env : List Face) (path : List ℕ) (result : Option ℕ) (place : ℕ) (name : Option (List ℕ)) → result ≡ place_of (paths_of env) path → result ≡ Some place
    → name ≡ option_map (λ (x : Face). x.name) (slice_get env place) → name ≡ package_of (known_of env) path
leads_some env path result place name is there name_is =
    name_is ∙ (ap (option_and_then (λ k. option_map (λ (x : Face). x.name) (slice_get env k))) (sym there ∙ is) ∙ package_is env path)

pub leads_none : (env : List Face) (path : List ℕ) (result : Option ℕ) → result ≡ place_of (paths_of env) path → result ≡ None → None ≡ package_of (known_of env) path
leads_none env path result is there = ap (option_and_then (λ k. option_map (λ (x : Face). x.name) (slice_get env k))) (sym there ∙ is) ∙ package_is env path
