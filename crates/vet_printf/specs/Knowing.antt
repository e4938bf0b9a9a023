-- What is known of a package's functions by name and by number, and of those of other packages, in code.
use Rattle.std.specs.Prelude.{◌≡◌, ◌<◌, ◌^◌, ◌==◌, ℕ, Bool, false, List, length, map, bytes_eq, Option, None, if◌then◌else◌}
use Rattle.std.specs.Global.{Vec}
use Rattle.std.specs.List.{list_any}
use Rattle.std.specs.Option.{option_map_or}
use Rattle.fact_codec.specs.declared.wraps.Wraps.{Wraps}
use Rattle.go_tree.specs.Lexeme.{place_of}
use Rattle.go_tree.specs.declared.tree.NodeRef.{NodeRef}
use Rattle.handed_facts.specs.Handed.{Named as Given, Facts, path_in, fact_in}
use Rattle.least.specs.Tables.{Member}
use Rattle.own_functions.specs.Functions.{functions, names, first_of}
use Rattle.own_functions.specs.InCode.{named_in}
use Rattle.typed_marks.specs.declared.item.Item.{Item}
use Rattle.typed_marks.specs.Meanings.{Meaning}
use Rattle.unit_read.specs.Index.{found}
use Rattle.unit_read.specs.Units.{Unit}
use Rattle.vet_printf.specs.declared.known.Known.{Known}
use Rattle.vet_printf.specs.Handing.{named_cell, AreCellRows}
use Rattle.vet_printf.specs.Wraps.{kinds_of}

-- ---- what is handed in, as a test

abbrev pub is_kind : ℕ → ℕ → Bool
is_kind kind j = j == kind

-- the fact has the kind
abbrev pub has_number : ℕ → Wraps → Bool
has_number kind fact = list_any (is_kind kind) (kinds_of fact)

-- a name of a package has a fact of the kind
abbrev pub given_as : List Given → List (Facts Wraps) → ℕ → List ℕ → List ℕ → Bool
given_as given tables kind path name = option_map_or (has_number kind) (fact_in given tables path name) false

abbrev pub given_by : List Given → List (Facts Wraps) → Member → Bool
given_by given tables m = given_as given tables m.kind m.path m.name

-- the number of a function of the package
abbrev pub own_place : Unit → List ℕ → List ℕ → Option ℕ
own_place u path name = if bytes_eq path u.path then first_of u name else None

-- ---- what is known

-- the members that are handed in
abbrev pub handed_in : Known → Member → Bool
handed_in k = given_by k.handed.now.given.now k.handed.now.tables.items

-- what a call with `...` calls
abbrev pub called_at : Known → NodeRef → Option (List ℕ × List ℕ)
called_at k = named_cell k.cells.now

-- of which package it is known
pub record IsKnown (u : Unit) (marks : Item → Meaning) (k : Known) : Type 0 where
  pub by_path : (q : List ℕ) → found k.handed.now.places q ≡ place_of (map path_in k.handed.now.given.now) q
  pub numbers : (q : List ℕ) → found k.numbers.now q ≡ place_of (names u) q
  pub list : map named_in k.list.now ≡ functions u
  pub few : length (functions u) < 2 ^ 32
  pub cells : AreCellRows u marks k.cells.now
