-- To whom functions hand on, as lists: given what the callee of each call with `...` is.
use Rattle.std.specs.Prelude.{◌≡◌, ◌<◌, ◌↔◌, ◌++◌, ℕ, ◌==◌, ◌&&◌, ◌||◌, not, Bool, true, false, if◌then◌else◌, List, [], ◌∷◌, bytes_eq, length, Option, Some, None, slice_get, option_and_then}
use Rattle.std.specs.Global.{Vec}
use Rattle.std.specs.List.{list_any}
use Rattle.std.specs.Option.{option_map_or}
use Rattle.go_tree.specs.declared.tree.Node.{Node}
use Rattle.go_tree.specs.declared.tree.NodeRef.{NodeRef}
use Rattle.object_order.specs.Spots.{place}
use Rattle.package_objects.specs.Declares.{part, gather}
use Rattle.typed_marks.specs.declared.item.Item.{Item}
use Rattle.typed_marks.specs.Meanings.{Meaning}
use Rattle.unit_read.specs.Units.{Unit, nodes_at}
use Rattle.findings.specs.Gains.{OfSome}
use Rattle.least.specs.Tables.{Member, member}
use Rattle.selected_methods.specs.InCode.{IsWhat}
use Rattle.member_names.specs.declared.named.Named.{Named}
use Rattle.member_names.specs.Named.{IsNamed}
use Rattle.member_names.specs.InCode.{found_named}
use Rattle.vet_words.specs.Forms.{bare}
use Rattle.vet_printf.specs.declared.shapes.Shape.{Shape}
use Rattle.vet_printf.specs.InTable.{AreEach, flag_at, row_of}
use Rattle.vet_printf.specs.Forwards.{is_spread_call, declaration_of, hands}

-- ---- callees

-- what is called is this function or method
abbrev pub IsCalleeNamed : Unit → (Item → Meaning) → ℕ → ℕ → List ℕ × List ℕ → Type 0
IsCalleeNamed u marks f callee x = IsNamed u marks f (bare (nodes_at u f) callee) x

abbrev pub IsSpreadCall : Unit → (Item → Meaning) → ℕ → Node → List ℕ × List ℕ → Type 0
IsSpreadCall u marks f call x = (is_spread_call call.kind ≡ true) × OfSome (part call 0) (IsCalleeNamed u marks f) x

-- the node is a call with `...`, of this function or method
abbrev pub IsSpreadCallee : Unit → (Item → Meaning) → ℕ → ℕ → List ℕ × List ℕ → Type 0
IsSpreadCallee u marks f n x = OfSome (slice_get (nodes_at u f) n) (IsSpreadCall u marks f) x

-- what the callee of each is, or nothing
abbrev pub AreNamed : Unit → (Item → Meaning) → (NodeRef → Option (List ℕ × List ℕ)) → Type 0
AreNamed u marks named = (f n : ℕ) (x : List ℕ × List ℕ) → (named (place f n) ≡ Some x) ↔ IsSpreadCallee u marks f n x

-- ---- calls

abbrev pub is_place : ℕ → ℕ → NodeRef → Bool
is_place f n at = (at.file == f) && (at.node == n)

-- the function m is declared at the node d
abbrev pub declares_at : (List ℕ → Option NodeRef) → ℕ → ℕ → Member → Bool
declares_at declared f d m = option_map_or (is_place f d) (declared m.name) false

abbrev pub hands_node : Unit → (Item → Meaning) → ℕ → Node → ℕ → Node → Bool
hands_node u marks f call kind node = hands u marks f call node kind

abbrev pub hands_in : (List ℕ → Option NodeRef) → Unit → (Item → Meaning) → ℕ → Node → Member → ℕ → Bool
hands_in declared u marks f call m d = bytes_eq m.path u.path && (declares_at declared f d m && option_map_or (hands_node u marks f call m.kind) (slice_get (nodes_at u f) d) false)

abbrev pub hands_from : (List ℕ → Option NodeRef) → Unit → (Item → Meaning) → ℕ → ℕ → Member → Node → Bool
hands_from declared u marks f n m call = is_spread_call call.kind && option_map_or (hands_in declared u marks f call m) (declaration_of u f n) false

-- the node is a call in the function m that hands its arguments on
abbrev pub hands_at : (List ℕ → Option NodeRef) → Unit → (Item → Meaning) → ℕ → ℕ → Member → Bool
hands_at declared u marks f n m = option_map_or (hands_from declared u marks f n m) (slice_get (nodes_at u f) n) false

abbrev pub of_kind : ℕ → List ℕ × List ℕ → List Member
of_kind kind x = member x.0 x.1 kind ∷ []

abbrev pub forward_at : (NodeRef → Option (List ℕ × List ℕ)) → (List ℕ → Option NodeRef) → Unit → (Item → Meaning) → Member → ℕ → ℕ → List Member
forward_at named declared u marks m f n = if hands_at declared u marks f n m then option_map_or (of_kind m.kind) (named (place f n)) [] else []

abbrev pub forwards_in : (NodeRef → Option (List ℕ × List ℕ)) → (List ℕ → Option NodeRef) → Unit → (Item → Meaning) → Member → ℕ → List Member
forwards_in named declared u marks m f = gather (forward_at named declared u marks m f) (length (nodes_at u f))

-- to whom a function hands on, call by call
abbrev pub forwards_by : (NodeRef → Option (List ℕ × List ℕ)) → (List ℕ → Option NodeRef) → Unit → (Item → Meaning) → Member → List Member
forwards_by named declared u marks m = gather (forwards_in named declared u marks m) (length u.trees)

-- ---- items

abbrev pub with_number : Option ℕ → List ℕ → List ℕ
with_number None rest = rest
with_number (Some j) rest = j ∷ rest

abbrev pub numbers_in : (Member → Option ℕ) → List Member → List ℕ
numbers_in number [] = []
numbers_in number (g ∷ list) = with_number (number g) (numbers_in number list)

-- the item of a function that hands on to these
abbrev pub item_of : (Member → Bool) → (Member → Option ℕ) → Bool → List Member → Shape
item_of given number listed list = record { parted = not (listed || list_any given list); parts = numbers_in number list }

-- ---- in code

-- what a row of callees has for a node
abbrev pub cell_in : List (Option Named) → ℕ → Option (List ℕ × List ℕ)
cell_in row n = option_and_then found_named (slice_get row n)

abbrev pub named_cell : List (Vec (Option Named)) → NodeRef → Option (List ℕ × List ℕ)
named_cell rows at = option_and_then (λ (row : Vec (Option Named)). cell_in row.items at.node) (slice_get rows at.file)

-- a cell for each of the first few nodes of a file
abbrev pub IsCell : Unit → (Item → Meaning) → ℕ → ℕ → Option Named → Type 0
IsCell u marks f n o = IsWhat (IsSpreadCallee u marks f n) (found_named o)

abbrev pub AreCells : Unit → (Item → Meaning) → ℕ → ℕ → List (Option Named) → Type 0
AreCells u marks f count row = AreEach (IsCell u marks f) count row

-- a row for each file
abbrev pub AreCellRow : Unit → (Item → Meaning) → ℕ → Vec (Option Named) → Type 0
AreCellRow u marks f row = AreCells u marks f (length (nodes_at u f)) row.items

abbrev pub AreCellRows : Unit → (Item → Meaning) → List (Vec (Option Named)) → Type 0
AreCellRows u marks rows = AreEach (AreCellRow u marks) (length u.trees) rows

-- ---- buckets: for each function by number, whether one to whom it hands on is handed in, and the numbers of the others

abbrev pub listed_number : Option ℕ → List ℕ
listed_number None = []
listed_number (Some j) = j ∷ []

-- the lists, with one more in one of them
abbrev pub with_one : (ℕ → List Member) → ℕ → Member → ℕ → List Member
with_one lists i g k = if k == i then lists k ++ g ∷ [] else lists k

pub record AreBuckets (count : ℕ) (lists : ℕ → List Member) (given : Member → Bool) (number : Member → Option ℕ) (settled : List Bool) (parts : List (List ℕ)) : Type 0 where
  pub flags : length settled ≡ count
  pub rows : length parts ≡ count
  pub settles : (i : ℕ) → i < count → flag_at settled i ≡ list_any given (lists i)
  pub numbers : (i : ℕ) → i < count → row_of parts i ≡ numbers_in number (lists i)
