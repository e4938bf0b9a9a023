-- What statements call, and the functions of a package, in code.
use Rattle.std.specs.Prelude.{◌≡◌, ℕ, ◌&&◌, ◌==◌, Bool, List, map, length, Option, Some, is_some, slice_get}
use Rattle.object_order.specs.Spots.{place}
use Rattle.typed_marks.specs.declared.item.Item.{Item}
use Rattle.typed_marks.specs.Meanings.{Meaning}
use Rattle.unit_read.specs.Units.{Unit}
use Rattle.fact_codec.specs.declared.units.Never.{Never}
use Rattle.flow.specs.declared.point.Call.{Call}
use Rattle.handed_facts.specs.Handed.{Facts, fact_in}
use Rattle.handed_facts.specs.Handed as handed
use Rattle.least.specs.Tables.{Member}
use Rattle.member_names.specs.declared.named.Named.{Named as Name}
use Rattle.member_names.specs.InCode.{named_in}
use Rattle.own_functions.specs.Functions.{number}
use Rattle.never_returns.specs.Admits.{Callee, Other, Panic, Named}
use Rattle.never_returns.specs.Bodies.{call_of}
use Rattle.vet_never.specs.declared.told.Told.{Told}
use Rattle.vet_never.specs.declared.told.Told.TheVariants as told
use Rattle.vet_never.specs.Callees.{member_of, IsCallee}

-- ---- names

abbrev pub member_in : Name → Member
member_in m = member_of (named_in m)

abbrev pub callee_in : Told → Callee
callee_in told.Other = Other
callee_in told.Panic = Panic
callee_in (told.Named m) = Named (member_in m)

-- ---- calls

-- what is handed in, as a test
abbrev pub handed_by : List handed.Named → List (Facts Never) → Member → Bool
handed_by given tables m = (m.kind == 0) && is_some (fact_in given tables m.path m.name)

-- what the statements of a file's first few nodes call
pub record AreCallees (u : Unit) (marks : Item → Meaning) (f n : ℕ) (row : List Told) : Type 0 where
  pub size : length row ≡ n
  pub each : (i : ℕ) (t : Told) → slice_get row i ≡ Some t → IsCallee u marks (place f i) (callee_in t)

-- by number
abbrev pub AreCalls : (Member → Bool) → (Member → Option ℕ) → List Told → List Call → Type 0
AreCalls given number row calls = calls ≡ map (λ t. call_of given number (callee_in t)) row

-- the number of what a node calls
abbrev pub IsCallAt : Unit → (Item → Meaning) → (Member → Bool) → ℕ → ℕ → Call → Type 0
IsCallAt u marks given f n call = (t : Told) × IsCallee u marks (place f n) (callee_in t) × (call ≡ call_of given (number 0 u) (callee_in t))

-- those of what a file's first few nodes call
abbrev pub AreCallsOf : Unit → (Item → Meaning) → (Member → Bool) → ℕ → ℕ → List Call → Type 0
AreCallsOf u marks given f n calls = (row : List Told) × AreCallees u marks f n row × AreCalls given (number 0 u) row calls
