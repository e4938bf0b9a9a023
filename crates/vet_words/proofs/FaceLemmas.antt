-- Paths of packages that are seen.
use Rattle.std.proofs.Common.{◌≡◌, ℕ, zero, suc, List, [], ◌∷◌, slice_get, Option, Some, None, option_map, refl, ap, ◌∙◌}
use Rattle.package_faces.specs.declared.interface.Interface.{Interface}
use Rattle.package_faces.specs.Faces.{Face}
use Rattle.package_faces.specs.Interfaces.{faces_of, face_of}
use Rattle.type_model.specs.GoTypes.{GoType, types_of}
use Rattle.unit_read.specs.declared.environment.Environment.{Environment}
use Rattle.unit_read.specs.Environments.{faces_in}

abbrev pub path_of : Face → List ℕ
path_of f = f.path

face_at : (types : List GoType) (list : List Interface) (i : ℕ) → option_map path_of (slice_get (faces_of types list) i) ≡ option_map (λ (x : Interface). x.path) (slice_get list i)
face_at types [] i = refl
face_at types (x ∷ list) zero = refl
face_at types (x ∷ list) (suc i) = face_at types list i

-- the path of a package is that of its interface
pub path_seen : (env : Environment) (i : ℕ) → option_map path_of (slice_get (faces_in env) i) ≡ option_map (λ (x : Interface). x.path) (slice_get env.interfaces.now i)
unfolding faces_in
path_seen env i = face_at (types_of env.types.now) env.interfaces.now i
