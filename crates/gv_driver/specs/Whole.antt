-- What comes of the packages of a whole tree, from their sources. This knows neither cache nor export texts.
use Rattle.std.specs.Prelude.{◌≡◌, ℕ, ◌<◌, true, Some, List, length, slice_get}
use Rattle.std.specs.List.{Contains}
use Rattle.export_text.specs.Mentions.{IsMentioned}
use Rattle.package_faces.specs.Faces.{Face}
use Rattle.action_graph.specs.Judging.{Judged, Env, IsStuckOver, Judges}
use Rattle.action_graph.specs.Judging.Judged.{Accepts}
use Rattle.gv_driver.specs.declared.tree.PackageTexts.{PackageTexts}
use Rattle.gv_driver.specs.Trees.{Imports}

-- of these packages and what is seen of each, in turn, q is one and f is what is seen of it
abbrev pub Shows : List ℕ → Env → ℕ → Face → Type 0
Shows numbers env q f = (k : ℕ) × (slice_get numbers k ≡ Some q) × (slice_get env k ≡ Some f)

-- p imports it, or what is seen of one that is near p mentions it
pub data IsNear (tree : List PackageTexts) (numbers : List ℕ) (env : Env) (p : ℕ) : ℕ → Type 0 where
  imported : (q : ℕ) → Imports tree p q → IsNear tree numbers env p q
  mentioned : (q r : ℕ) (f : Face) (other : PackageTexts) → IsNear tree numbers env p q → Shows numbers env q f → IsMentioned f other.path → slice_get tree r ≡ Some other → IsNear tree numbers env p r

-- each is above those before it
abbrev pub AreRising : List ℕ → Type 0
AreRising numbers = (j k q r : ℕ) → j < k → slice_get numbers j ≡ Some q → slice_get numbers k ≡ Some r → q < r

-- The environment of p by mentions: exactly the packages that p imports and those that what is seen of one of these mentions, in the
-- order of their numbers, each with what is seen of it.
pub record IsAround (tree : List PackageTexts) (p : ℕ) (numbers : List ℕ) (env : Env) : Type 0 where
  pub size : length env ≡ length numbers
  pub near : (q : ℕ) → Contains numbers q → IsNear tree numbers env p q
  pub imports : (q : ℕ) → Imports tree p q → Contains numbers q
  pub mentions : (q r : ℕ) (f : Face) (other : PackageTexts) → Shows numbers env q f → IsMentioned f other.path → slice_get tree r ≡ Some other → Contains numbers r
  pub rising : AreRising numbers

-- A sound package is judged over what is seen of the packages of its environment, all of which are accepted; what is seen of these
-- comes of the tree in the same way.
pub data Checked (tree : List PackageTexts) : ℕ → Judged → Type 0 where
  checked : (p : ℕ) (pack : PackageTexts) (numbers : List ℕ) (env : Env) (judged : Judged)
      → slice_get tree p ≡ Some pack
      → pack.sound ≡ true
      → IsAround tree p numbers env
      → ((q : ℕ) (f : Face) → Shows numbers env q f → Checked tree q (Accepts f))
      → Judges pack.path pack.files env judged
      → Checked tree p judged

-- the packages of p's environment, and what is seen of each, as it comes of the tree
pub record IsEnv (tree : List PackageTexts) (p : ℕ) (numbers : List ℕ) (env : Env) : Type 0 where
  pub around : IsAround tree p numbers env
  pub good : (q : ℕ) (f : Face) → Shows numbers env q f → Checked tree q (Accepts f)

-- what is seen of the packages of p's environment
abbrev pub HasEnv : List PackageTexts → ℕ → Env → Type 0
HasEnv tree p env = (numbers : List ℕ) × IsEnv tree p numbers env

-- Nothing comes of a sound package, all of whose environment is accepted: over what is seen of this it is stuck.
pub record IsStuckAt (tree : List PackageTexts) (p : ℕ) : Type 0 where
  pub pack : PackageTexts
  pub env : Env
  pub at : slice_get tree p ≡ Some pack
  pub sound : pack.sound ≡ true
  pub faces : HasEnv tree p env
  pub stuck : IsStuckOver pack.path pack.files env

-- some package is stuck
abbrev pub HasStuck : List PackageTexts → Type 0
HasStuck tree = (p : ℕ) × IsStuckAt tree p

-- what is reached from what is seen of a package: a package that it mentions, or what is reached from there
pub data Reaches (tree : List PackageTexts) (r : ℕ) : Face → Type 0 where
  at_once : (f : Face) (other : PackageTexts) → IsMentioned f other.path → slice_get tree r ≡ Some other → Reaches tree r f
  onward : (f : Face) (s : ℕ) (other : PackageTexts) (g : Face) → IsMentioned f other.path → slice_get tree s ≡ Some other → Checked tree s (Accepts g) → Reaches tree r g → Reaches tree r f
