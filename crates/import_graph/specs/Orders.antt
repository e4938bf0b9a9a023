-- The order in which packages are loaded (Go 1.17, "Program initialization": imported packages come first).
use Rattle.std.specs.Prelude.{◌≡◌, ℕ, ◌<◌, Bool, true, false, cond, Option, Some, None, List, [], ◌∷◌, ◌++◌, length, slice_get}
use Rattle.std.specs.List.{All, Contains, filter}
use Rattle.import_graph.specs.declared.pack.PackState.{PackState}
use Rattle.import_graph.specs.declared.pack.PackState.TheVariants.{Broken, NameClash, MissingImport, ImportCycle, Sound}
use Rattle.import_graph.specs.declared.pack.Package.{Package}

abbrev pub is_sound : PackState → Bool
is_sound Broken = false
is_sound (NameClash places) = false
is_sound (MissingImport places) = false
is_sound ImportCycle = false
is_sound Sound = true

abbrev pub sound_one : Option Package → Bool
sound_one None = false
sound_one (Some p) = is_sound p.state

-- the package of this number is sound
abbrev pub is_sound_at : List Package → ℕ → Bool
is_sound_at packages n = sound_one (slice_get packages n)

-- each import number stands in the list
abbrev pub AreNumbered : List Package → Type 0
AreNumbered packages = (a b : ℕ) (p : Package) → slice_get packages a ≡ Some p → Contains p.imports b → b < length packages

-- a sound package imports a sound one
abbrev pub SoundImports : List Package → ℕ → ℕ → Type 0
SoundImports packages a b = (p : Package) × (slice_get packages a ≡ Some p) × (is_sound p.state ≡ true) × Contains p.imports b × (is_sound_at packages b ≡ true)

-- what a package needs to be loaded: the sound ones among its imports, if it is sound
abbrev pub needs_of : List Package → Package → List ℕ
needs_of packages p = cond (is_sound p.state) (filter (is_sound_at packages) p.imports) []

-- the sound packages, each once, after the sound ones that it imports
pub record IsLoadOrder (packages : List Package) (order : List ℕ) : Type 0 where
  pub sound : All (λ n. is_sound_at packages n ≡ true) order
  pub each : (n : ℕ) → is_sound_at packages n ≡ true → Contains order n
  pub once : (front behind : List ℕ) (n : ℕ) → order ≡ front ++ n ∷ behind → ¬ Contains front n
  pub after : (front behind : List ℕ) (n m : ℕ) → order ≡ front ++ n ∷ behind → SoundImports packages n m → Contains front m
