-- What a text of facts tells of a package, where sets of functions, each with a kind, are closed under an admission.
use Rattle.std.specs.Prelude.{◌≡◌, ◌↔◌, ℕ, Bool, true, List}
use Rattle.std.specs.List.{Contains}
use Rattle.fact_codec.specs.Texts.{AreFacts}
use Rattle.handed_facts.specs.Handed.{Named, Facts, AreHanded, entry, entries_of}
use Rattle.least.specs.Least.{IsClosed}
use Rattle.least.specs.Staged.{IsLeastIn}
use Rattle.least.specs.Tables.{Member, member, home, Entry}

-- Of the package's functions the text names those of the least set, each with its kinds: each that it names is in every closed set, and some closed
-- set has no others of the package.
pub record TellsLeast {F : Type 0} (spelling kinds : F → List ℕ) (admits : (Member → Bool) → Member → Type 0) (path text : List ℕ) : Type 0 where
  pub table : Facts F
  pub spelled : AreFacts spelling table text
  pub within : (N : Member → Bool) → IsClosed admits N → (e : Entry) → Contains (entries_of kinds table) e → N (member path e.name e.kind) ≡ true
  pub set : Member → Bool
  pub closed : IsClosed admits set
  pub only : (m : Member) → m.path ≡ path → set m ≡ true → Contains (entries_of kinds table) (entry m.name m.kind)

-- The text of the least set of a package, over the facts of other packages that are handed in.
pub record IsLeastText {F : Type 0} (spelling kinds : F → List ℕ) (admits : (Member → Bool) → Member → Type 0) (path : List ℕ) (given : List Named) (text : List ℕ) : Type 0 where
  pub handed : Member → Bool
  pub are_handed : AreHanded spelling kinds given handed
  pub set : Member → Bool
  pub least : IsLeastIn home admits path handed set
  pub table : Facts F
  pub spelled : AreFacts spelling table text
  pub each : (e : Entry) → Contains (entries_of kinds table) e ↔ (set (member path e.name e.kind) ≡ true)
