-- What comes of the packages of a tree where each is judged over what is seen of all packages below it.
use Rattle.std.specs.Prelude.{◌≡◌, ℕ, true, Some, List, slice_get}
use Rattle.package_faces.specs.Faces.{Face}
use Rattle.action_graph.specs.Closed.{Knows}
use Rattle.action_graph.specs.Judging.{Judged, Env, Judges}
use Rattle.action_graph.specs.Judging.Judged.{Accepts}
use Rattle.gv_driver.specs.declared.tree.PackageTexts.{PackageTexts}
use Rattle.gv_driver.specs.Trees.{Imports}

-- q is below p: p imports it, or a package that it is below
pub data Below (tree : List PackageTexts) (q : ℕ) : ℕ → Type 0 where
  directly : (p : ℕ) → Imports tree p q → Below tree q p
  through : (p r : ℕ) → Imports tree p r → Below tree q r → Below tree q p

-- A sound package is judged over what is seen of all packages below it, which are accepted; what is seen of these comes of the tree in the same way.
pub data Typed (tree : List PackageTexts) : ℕ → Judged → Type 0 where
  typed : (p : ℕ) (pack : PackageTexts) (world : Env) (judged : Judged)
      → slice_get tree p ≡ Some pack
      → pack.sound ≡ true
      → ((q : ℕ) (other : PackageTexts) → Below tree q p → slice_get tree q ≡ Some other → (f : Face) × Knows world other.path f)
      → ((path : List ℕ) (f : Face) → Knows world path f → (q : ℕ) × (other : PackageTexts) × Below tree q p × (slice_get tree q ≡ Some other) × (other.path ≡ path))
      → ((q : ℕ) (other : PackageTexts) (f : Face) → slice_get tree q ≡ Some other → Knows world other.path f → Typed tree q (Accepts f))
      → Judges pack.path pack.files world judged
      → Typed tree p judged
