-- The walk over the calls of a package that fills the buckets of one kind, call by call.
use Rattle.std.specs.Prelude.{◌≡◌, ℕ, zero, suc, ◌==◌, Bool, false, if◌then◌else◌, List, [], ◌∷◌, length, Option, Some, None, slice_get, option_and_then}
use Rattle.std.specs.Option.{option_map_or}
use Rattle.go_tree.specs.declared.tree.Node.{Node}
use Rattle.go_tree.specs.declared.tree.NodeRef.{NodeRef}
use Rattle.object_order.specs.Spots.{place}
use Rattle.typed_marks.specs.declared.item.Item.{Item}
use Rattle.typed_marks.specs.Meanings.{Meaning}
use Rattle.unit_read.specs.Units.{Unit, nodes_at}
use Rattle.least.specs.Tables.{Member, member}
use Rattle.own_functions.specs.Functions.{Named, functions, first_of, name_by, number}
use Rattle.vet_printf.specs.Forwards.{is_spread_call, declaration_of, hands}
use Rattle.vet_printf.specs.declared.buckets.Buckets.{Buckets}
use Rattle.vet_printf.specs.declared.known.Known.{Known}
use Rattle.vet_printf.specs.Handing.{is_place, with_one, AreBuckets}
use Rattle.vet_printf.specs.Knowing.{handed_in}

-- ---- the function that a node declares

abbrev pub name_of : Unit → ℕ → ℕ → Node → Option (List ℕ)
name_of u f d node = name_by u f d node node.kind

abbrev pub declared_name : Unit → ℕ → ℕ → Option (List ℕ)
declared_name u f d = option_and_then (name_of u f d) (slice_get (nodes_at u f) d)

abbrev pub stands_at : ℕ → ℕ → Named → Bool
stands_at f d x = is_place f d x.1

abbrev pub number_if : Unit → ℕ → ℕ → ℕ → Option ℕ
number_if u f d i = if option_map_or (stands_at f d) (slice_get (functions u) i) false then Some i else None

abbrev pub number_named : Unit → ℕ → ℕ → List ℕ → Option ℕ
number_named u f d name = option_and_then (number_if u f d) (first_of u name)

-- its number, if it is the first of its name
abbrev pub owner_number : Unit → ℕ → ℕ → Option ℕ
owner_number u f d = option_and_then (number_named u f d) (declared_name u f d)

-- ---- what a call gives: a function by its number, and to whom it hands on

abbrev pub Given : Type 0
Given = ℕ × Member

abbrev pub given_of : ℕ → ℕ → List ℕ × List ℕ → Given
given_of kind i x = (i, member x.0 x.1 kind)

abbrev pub both_of : ℕ → Option ℕ → Option (List ℕ × List ℕ) → Option Given
both_of kind (Some i) (Some x) = Some (given_of kind i x)
both_of kind (Some i) None = None
both_of kind None o = None

-- the number of the function in which a call stands, if the call hands its arguments on
abbrev pub giver_in : Unit → (Item → Meaning) → ℕ → ℕ → Node → ℕ → Node → Option ℕ
giver_in u marks kind f call d node = if hands u marks f call node kind then owner_number u f d else None

abbrev pub giver_of : Unit → (Item → Meaning) → ℕ → ℕ → Node → ℕ → Option ℕ
giver_of u marks kind f call d = option_and_then (giver_in u marks kind f call d) (slice_get (nodes_at u f) d)

abbrev pub giver_around : Unit → (Item → Meaning) → ℕ → ℕ → ℕ → Node → Option ℕ
giver_around u marks kind f n call = option_and_then (giver_of u marks kind f call) (declaration_of u f n)

abbrev pub giver_from : Unit → (Item → Meaning) → ℕ → ℕ → ℕ → Node → Option ℕ
giver_from u marks kind f n call = if is_spread_call call.kind then giver_around u marks kind f n call else None

abbrev pub giver : Unit → (Item → Meaning) → ℕ → ℕ → ℕ → Option ℕ
giver u marks kind f n = option_and_then (giver_from u marks kind f n) (slice_get (nodes_at u f) n)

abbrev pub contribution : (NodeRef → Option (List ℕ × List ℕ)) → Unit → (Item → Meaning) → ℕ → ℕ → ℕ → Option Given
contribution named u marks kind f n = both_of kind (giver u marks kind f n) (named (place f n))

-- ---- the walk

abbrev pub after : (ℕ → List Member) → Option Given → ℕ → List Member
after lists None = lists
after lists (Some x) = with_one lists x.0 x.1

abbrev pub walk_nodes : (NodeRef → Option (List ℕ × List ℕ)) → Unit → (Item → Meaning) → ℕ → (ℕ → List Member) → ℕ → ℕ → ℕ → List Member
walk_nodes named u marks kind lists f zero = lists
walk_nodes named u marks kind lists f (suc n) = after (walk_nodes named u marks kind lists f n) (contribution named u marks kind f n)

abbrev pub no_lists : ℕ → List Member
no_lists i = []

abbrev pub walk_files : (NodeRef → Option (List ℕ × List ℕ)) → Unit → (Item → Meaning) → ℕ → ℕ → ℕ → List Member
walk_files named u marks kind zero = no_lists
walk_files named u marks kind (suc f) = walk_nodes named u marks kind (walk_files named u marks kind f) f (length (nodes_at u f))

-- what the code keeps at each call, for all lists
abbrev pub Fills : ℕ → (Member → Bool) → (Member → Option ℕ) → Option Given → Buckets → Buckets → Type 0
Fills count given number x old new =
    (lists : ℕ → List Member) → AreBuckets count lists given number old.settled.items old.parts.items → AreBuckets count (after lists x) given number new.settled.items new.parts.items

-- a bucket for each of the functions
pub record IsSized (count : ℕ) (b : Buckets) : Type 0 where
  pub flags : length b.settled.items ≡ count
  pub rows : length b.parts.items ≡ count

-- the buckets have what the walk has so far
abbrev pub AreFilled : Known → Unit → ℕ → (ℕ → List Member) → Buckets → Type 0
AreFilled k u kind lists b = AreBuckets (length (functions u)) lists (handed_in k) (number kind u) b.settled.items b.parts.items
