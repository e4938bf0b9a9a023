-- The functions of a package as items of a least set, and what is found of them.
use Rattle.std.specs.Prelude.{if◌then◌else◌, ◌≡◌, ◌↔◌, ℕ, ◌||◌, Bool, true, false, List, length, take, bytes_eq, Option, Some, None, slice_get}
use Rattle.std.specs.Global.{Vec}
use Rattle.std.specs.List.{list_any}
use Rattle.std.specs.Option.{option_map_or}
use Rattle.go_tree.specs.declared.bindings.Object.{Object}
use Rattle.go_tree.specs.declared.bindings.Object.TheVariants as object
use Rattle.go_tree.specs.declared.tree.Node.{Node}
use Rattle.go_tree.specs.declared.tree.NodeKind.{NodeKind}
use Rattle.go_tree.specs.declared.tree.NodeKind.TheVariants as form
use Rattle.least.specs.Numbered.{is_marked, by_number}
use Rattle.least.specs.Staged.{IsLeastIn}
use Rattle.least.specs.Tables.{Member, member, home}
use Rattle.least.specs.Work.{set_of}
use Rattle.object_order.specs.Spots.{place}
use Rattle.own_functions.specs.Functions.{functions, names, first_of, number, member_at, declared_at}
use Rattle.typed_marks.specs.declared.item.Item.{Item}
use Rattle.typed_marks.specs.Meanings.{Meaning}
use Rattle.unit_read.specs.Units.{Unit, nodes_at, object_at}
use Rattle.fact_codec.specs.declared.wraps.WrapKind.{WrapKind}
use Rattle.fact_codec.specs.declared.wraps.WrapKind.TheVariants as wrap
use Rattle.fact_codec.specs.declared.wraps.Wraps.{Wraps}
use Rattle.fact_codec.specs.Kinds.{wraps_numbered}
use Rattle.fact_codec.specs.Tables.{fact_of}
use Rattle.vet_printf.specs.declared.known.Known.{Known}
use Rattle.vet_printf.specs.declared.printing.Printing.{Printing}
use Rattle.vet_printf.specs.declared.shapes.Shape.{Shape}
use Rattle.vet_printf.specs.Forwards.{listed_in}
use Rattle.vet_printf.specs.Handing.{item_of, forwards_by}
use Rattle.vet_printf.specs.InTable.{AreEach}
use Rattle.vet_printf.specs.Kinds.{kinds_number}
use Rattle.vet_printf.specs.Knowing.{handed_in, called_at, own_place}
use Rattle.vet_printf.specs.Verbs.{has_flag}
use Rattle.vet_printf.specs.Wraps.{number_of, AdmitsAs, NamesPrinting}

-- to whom the functions of the package hand on
abbrev pub forwards_in : Known → Unit → (Item → Meaning) → Member → List Member
forwards_in k u marks m = forwards_by (called_at k) (declared_at u) u marks m

-- the item of a function, as one of a kind
abbrev pub item_as : Known → Unit → (Item → Meaning) → ℕ → ℕ → Shape
item_as k u marks kind i = item_of (handed_in k) (number kind u) (listed_in (declared_at u) u marks (member_at kind u i)) (forwards_in k u marks (member_at kind u i))

abbrev pub IsItemAs : Known → Unit → (Item → Meaning) → ℕ → ℕ → Shape → Type 0
IsItemAs k u marks kind i x = x ≡ item_as k u marks kind i

-- those of all functions
abbrev pub AreItemsAs : Known → Unit → (Item → Meaning) → ℕ → List Shape → Type 0
AreItemsAs k u marks kind items = AreEach (IsItemAs k u marks kind) (length (functions u)) items

-- the functions of the package that are flagged
abbrev pub flagged : Unit → ℕ → List Bool → Member → Bool
flagged u kind flags = by_number (number kind u) (set_of flags)

-- The flags are those of the functions that print in this way.
pub record ArePrintingFlags (k : Known) (u : Unit) (marks : Item → Meaning) (kind : WrapKind) (flags : List Bool) : Type 0 where
  pub least : IsLeastIn home (AdmitsAs kind u marks (forwards_in k u marks)) u.path (handed_in k) (flagged u (number_of kind) flags)

-- ---- the three sets

abbrev pub flags_as : Printing → WrapKind → List Bool
flags_as x wrap.Print = x.print.items
flags_as x wrap.Printf = x.printf.items
flags_as x wrap.Errorf = x.errorf.items

abbrev pub sets_of : Unit → Printing → WrapKind → Member → Bool
sets_of u x kind m = flagged u (number_of kind) (flags_as x kind) m

pub record ArePrintingSets (k : Known) (u : Unit) (marks : Item → Meaning) (x : Printing) : Type 0 where
  pub each : (kind : WrapKind) → ArePrintingFlags k u marks kind (flags_as x kind)

-- the first function of the name prints in this way
abbrev pub is_flagged : Unit → List Bool → List ℕ → Bool
is_flagged u flags name = is_marked (set_of flags) (first_of u name)

-- ---- facts

-- the kinds of the first function of the name
abbrev pub kinds_named : Unit → Printing → List ℕ → ℕ
kinds_named u x name = kinds_number (is_flagged u x.print.items name) (is_flagged u x.printf.items name) (is_flagged u x.errorf.items name)

abbrev pub fact_named : Unit → Printing → List ℕ → Option Wraps
fact_named u x name = wraps_numbered (kinds_named u x name)

-- the name has this fact too, if it has none
abbrev pub or_else : Option Wraps → Option Wraps → Option Wraps
or_else (Some fact) o = Some fact
or_else None o = o

pub record IsAdded (name : List ℕ) (o : Option Wraps) (old new : List (List ℕ × Wraps)) : Type 0 where
  pub each : (q : List ℕ) → fact_of new q ≡ (if bytes_eq name q then or_else (fact_of old q) o else fact_of old q)

-- one of these names
abbrev pub is_among : List (List ℕ) → List ℕ → Bool
is_among list name = list_any (λ x. bytes_eq x name) list

-- the table has the facts of the names of the first few functions
pub record AreFactsTo (u : Unit) (x : Printing) (n : ℕ) (table : List (List ℕ × Wraps)) : Type 0 where
  pub each : (q : List ℕ) → fact_of table q ≡ (if is_among (take n (names u)) q then fact_named u x q else None)

-- those of all
pub record AreFactsOf (u : Unit) (x : Printing) (table : List (List ℕ × Wraps)) : Type 0 where
  pub each : (q : List ℕ) → fact_of table q ≡ fact_named u x q

-- ---- kinds of what nodes name

-- a function or method prints in this way, of another package or of this one
abbrev pub prints : Known → Unit → WrapKind → List Bool → List ℕ → List ℕ → Bool
prints k u kind flags path name = handed_in k (member path name (number_of kind)) || is_marked (set_of flags) (own_place u path name)

abbrev pub kinds_of_member : Known → Unit → Printing → List ℕ → List ℕ → ℕ
kinds_of_member k u x path name = kinds_number (prints k u wrap.Print x.print.items path name) (prints k u wrap.Printf x.printf.items path name) (prints k u wrap.Errorf x.errorf.items path name)

-- it is declared in the package, outside of functions
abbrev pub is_declared : Object → Bool
is_declared (object.Package at) = true
is_declared (object.Universe i) = false
is_declared (object.Import at) = false
is_declared (object.Local at) = false

-- a node of such a kind may name a function or method: a name that denotes what the package declares, or a selector
abbrev pub may_name_by : Unit → ℕ → ℕ → NodeKind → Bool
may_name_by u f n form.Name = option_map_or is_declared (object_at u (place f n)) false
may_name_by u f n form.Selector = true
may_name_by u f n _ = false

abbrev pub may_name : Unit → ℕ → ℕ → Bool
may_name u f n = option_map_or (λ (x : Node). may_name_by u f n x.kind) (slice_get (nodes_at u f) n) false

-- the number says in which ways what a node names prints
pub record IsKindsCell (k : Known) (u : Unit) (marks : Item → Meaning) (x : Printing) (f n c : ℕ) : Type 0 where
  pub each : (kind : WrapKind) → (has_flag c (number_of kind) ≡ true) ↔ NamesPrinting u marks (handed_in k) (sets_of u x) (place f n) kind

abbrev pub AreKindsCells : Known → Unit → (Item → Meaning) → Printing → ℕ → ℕ → List ℕ → Type 0
AreKindsCells k u marks x f count row = AreEach (IsKindsCell k u marks x f) count row

abbrev pub AreKindsRow : Known → Unit → (Item → Meaning) → Printing → ℕ → Vec ℕ → Type 0
AreKindsRow k u marks x f row = AreKindsCells k u marks x f (length (nodes_at u f)) row.items

abbrev pub AreKindsRows : Known → Unit → (Item → Meaning) → Printing → List (Vec ℕ) → Type 0
AreKindsRows k u marks x rows = AreEach (AreKindsRow k u marks x) (length u.trees) rows
