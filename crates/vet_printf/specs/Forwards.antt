-- To whom a function hands its arguments on: calls that end in its last parameter, with `...`, and for formats in the string before it and that.
use Rattle.std.specs.Prelude.{◌≡◌, ◌<◌, ◌↔◌, ℕ, zero, suc, ◌-◌, ◌==◌, nat_le, ◌&&◌, ◌||◌, not, Bool, true, false, if◌then◌else◌, List, [], ◌∷◌, codes, bytes_eq, length, Option, Some, None, slice_get, option_and_then}
use Rattle.std.specs.List.{Contains, list_any}
use Rattle.std.specs.Option.{option_map_or}
use Rattle.gv_base.specs.declared.constant.Kind.{Kind}
use Rattle.gv_base.specs.declared.constant.Kind.TheVariants as kind
use Rattle.go_tree.specs.declared.bindings.Object.{Object}
use Rattle.go_tree.specs.declared.bindings.Object.TheVariants as o
use Rattle.go_tree.specs.declared.tree.Node.{Node}
use Rattle.go_tree.specs.declared.tree.NodeKind.{NodeKind}
use Rattle.go_tree.specs.declared.tree.NodeKind.TheVariants as k
use Rattle.go_tree.specs.declared.tree.NodeRef.{NodeRef}
use Rattle.object_order.specs.Spots.{place}
use Rattle.package_objects.specs.Declares.{part, items, kind_at}
use Rattle.type_model.specs.GoTypes.{GoType, GoMethods, BasicType, DefinedType, PointerTo, SliceOf, ArrayOf, MapOf, ChanOf, FuncOf, StructOf, InterfaceOf, NoMethod, AndMethod}
use Rattle.typed_tree.specs.Places.{is_type}
use Rattle.typed_marks.specs.declared.item.Item.{Item}
use Rattle.typed_marks.specs.Meanings.{Known, Meaning}
use Rattle.unit_read.specs.declared.place.Place.{Place}
use Rattle.unit_read.specs.Units.{Unit, nodes_at, node_at, place_at, object_at, first_spelled}
use Rattle.least.specs.Tables.{Member}
use Rattle.vet_words.specs.Forms.{bare}
use Rattle.vet_words.specs.Marked.{known_at}
use Rattle.member_names.specs.Named.{IsNamed}
use Rattle.vet_printf.specs.declared.touching.Touch.{Touch}
use Rattle.vet_printf.specs.declared.touching.Touch.TheVariants as t
use Rattle.vet_printf.specs.Fitting.{is_text}
use Rattle.vet_printf.specs.InTable.{flag_at}

-- ---- parameters of a declaration

abbrev pub params_slot : NodeKind → Option ℕ
params_slot k.FuncDecl = Some 1
params_slot k.MethodDecl = Some 2
params_slot _ = None

-- the list of its parameters
abbrev pub params_part : Node → Option ℕ
params_part node = option_and_then (part node) (params_slot node.kind)

-- an item, counted from the end of a list: 1 is the last
abbrev pub nth_back : List ℕ → ℕ → Option ℕ
nth_back list back = if nat_le back (length list) then slice_get list (length list - back) else None

abbrev pub entry_back : List Node → Node → ℕ → Option ℕ
entry_back nodes node back = option_and_then (λ (params : Node). nth_back params.parts back) (option_and_then (slice_get nodes) (params_part node))

abbrev pub is_spread_param : NodeKind → Bool
is_spread_param k.SpreadParam = true
is_spread_param _ = false

abbrev pub is_param : NodeKind → Bool
is_param k.Param = true
is_param _ = false

abbrev pub has_none : GoMethods → Bool
has_none NoMethod = true
has_none (AndMethod name owner pointer of methods) = false

-- `interface{}` itself
abbrev pub is_any : GoType → Bool
is_any (InterfaceOf methods) = has_none methods
is_any (BasicType kind) = false
is_any (DefinedType name) = false
is_any (PointerTo of) = false
is_any (SliceOf of) = false
is_any (ArrayOf size of) = false
is_any (MapOf key of) = false
is_any (ChanOf direction of) = false
is_any (FuncOf of) = false
is_any (StructOf fields) = false

abbrev pub known_type : (GoType → Bool) → Known → Bool
known_type test x = is_type x.mode && test x.of

-- the node stands for a type that passes the test
abbrev pub type_passes : (GoType → Bool) → (Item → Meaning) → ℕ → ℕ → Bool
type_passes test marks f n = option_map_or (known_type test) (known_at marks f n) false

abbrev pub part_passes : (GoType → Bool) → (Item → Meaning) → ℕ → Node → Bool
part_passes test marks f entry = option_map_or (type_passes test marks f) (part entry 1) false

-- the name of `a ...interface{}`
abbrev pub variadic_in : (Item → Meaning) → ℕ → Node → Option ℕ
variadic_in marks f entry = if is_spread_param entry.kind && part_passes is_any marks f entry then part entry 0 else None

-- the last name of `f string`
abbrev pub format_in : (Item → Meaning) → ℕ → List Node → Node → Option ℕ
format_in marks f nodes entry = if is_param entry.kind && part_passes is_text marks f entry then nth_back (items nodes (part entry 0)) 1 else None

abbrev pub variadic_of : Unit → (Item → Meaning) → ℕ → Node → Option ℕ
variadic_of u marks f node = option_and_then (variadic_in marks f) (option_and_then (slice_get (nodes_at u f)) (entry_back (nodes_at u f) node 1))

abbrev pub format_of : Unit → (Item → Meaning) → ℕ → Node → Option ℕ
format_of u marks f node = option_and_then (format_in marks f (nodes_at u f)) (option_and_then (slice_get (nodes_at u f)) (entry_back (nodes_at u f) node 2))

-- ---- names that denote a parameter

abbrev pub local_in : ℕ → Object → Option ℕ
local_in f (o.Local at) = if at.file == f then Some at.node else None
local_in f (o.Universe i) = None
local_in f (o.Import at) = None
local_in f (o.Package at) = None

-- what is declared within a function of the file that the node, parentheses dropped, denotes
abbrev pub denoted : Unit → ℕ → ℕ → Option ℕ
denoted u f n = option_and_then (local_in f) (object_at u (place f (bare (nodes_at u f) n)))

abbrev pub is_number : ℕ → ℕ → Bool
is_number p q = q == p

-- it is what is declared at p
abbrev pub denotes : Unit → ℕ → ℕ → ℕ → Bool
denotes u f p n = option_map_or (is_number p) (denoted u f n) false

-- ---- what touches it

abbrev pub any_denotes : Unit → ℕ → ℕ → List ℕ → Bool
any_denotes u f p list = list_any (denotes u f p) list

-- the node takes an address
abbrev pub is_address : Unit → ℕ → Node → Bool
is_address u f node = bytes_eq (first_spelled u f node) (codes "&")

abbrev pub left_touches : Unit → ℕ → ℕ → Node → Bool
left_touches u f p node = any_denotes u f p (items (nodes_at u f) (part node 0))

abbrev pub address_touches : Unit → ℕ → ℕ → Node → Bool
address_touches u f p node = is_address u f node && option_map_or (denotes u f p) (part node 0) false

-- assignments touch what stands on their left, as `:=` does where it assigns, and `&` its operand
abbrev pub touch_of : NodeKind → Touch
touch_of k.Assign = t.Left
touch_of k.OpAssign = t.Left
touch_of k.Define = t.Left
touch_of k.ForRangeAssign = t.Left
touch_of k.Unary = t.Address
touch_of _ = t.Never

abbrev pub touches_as : Unit → ℕ → ℕ → Node → Touch → Bool
touches_as u f p node t.Left = left_touches u f p node
touches_as u f p node t.Address = address_touches u f p node
touches_as u f p node t.Never = false

abbrev pub touches : Unit → ℕ → ℕ → Node → Bool
touches u f p node = touches_as u f p node (touch_of node.kind)

-- some node does, within nested literals too
abbrev pub is_touched : Unit → ℕ → ℕ → Bool
is_touched u f p = list_any (touches u f p) (nodes_at u f)

-- ---- where a call stands

abbrev pub is_declaration : NodeKind → Bool
is_declaration k.FuncDecl = true
is_declaration k.MethodDecl = true
is_declaration _ = false

abbrev pub is_literal : NodeKind → Bool
is_literal k.FuncLit = true
is_literal _ = false

abbrev pub above_by : (ℕ → Option ℕ) → ℕ → NodeKind → Option ℕ
above_by further n kind = if is_declaration kind then Some n else (if is_literal kind then None else further n)

abbrev pub above_at : (ℕ → Option ℕ) → List Node → Place → Option ℕ
above_at further nodes p = above_by further p.around (kind_at nodes p.around)

-- the declaration around a node, with no literal between them, at most so many nodes up
abbrev pub above_from : Unit → ℕ → ℕ → ℕ → Option ℕ
above_from u f zero n = None
above_from u f (suc most) n = option_and_then (above_at (above_from u f most) (nodes_at u f)) (place_at u (place f n))

abbrev pub declaration_of : Unit → ℕ → ℕ → Option ℕ
declaration_of u f n = above_from u f (length (nodes_at u f)) n

-- ---- what is handed on

abbrev pub is_spread_call : NodeKind → Bool
is_spread_call k.CallSpread = true
is_spread_call _ = false

-- the part, counted from the end, denotes the parameter, and nothing touches that
abbrev pub hands_part : Unit → ℕ → Node → ℕ → ℕ → Bool
hands_part u f call back p = not (is_touched u f p) && option_map_or (denotes u f p) (nth_back call.parts back) false

abbrev pub hands_some : Unit → ℕ → Node → ℕ → Option ℕ → Bool
hands_some u f call back o = option_map_or (hands_part u f call back) o false

-- `a...`
abbrev pub hands_rest : Unit → (Item → Meaning) → ℕ → Node → Node → Bool
hands_rest u marks f call node = hands_some u f call 1 (variadic_of u marks f node)

-- `f, a...`
abbrev pub hands_format : Unit → (Item → Meaning) → ℕ → Node → Node → Bool
hands_format u marks f call node = hands_some u f call 2 (format_of u marks f node) && hands_rest u marks f call node

-- kinds are 1 for print, 2 for printf and 4 for errorf
abbrev pub hands : Unit → (Item → Meaning) → ℕ → Node → Node → ℕ → Bool
hands u marks f call node kind = if kind == 1 then hands_rest u marks f call node else (((kind == 2) || (kind == 4)) && hands_format u marks f call node)

-- The call hands the arguments of the function m on to g; `declared` tells where a function or method of a name is declared.
pub record HandsOn (declared : List ℕ → Option NodeRef) (u : Unit) (marks : Item → Meaning) (f n : ℕ) (m g : Member) : Type 0 where
  pub call : Node
  pub there : slice_get (nodes_at u f) n ≡ Some call
  pub spread : is_spread_call call.kind ≡ true
  pub declaration : ℕ
  pub inside : declaration_of u f n ≡ Some declaration
  pub node : Node
  pub at : slice_get (nodes_at u f) declaration ≡ Some node
  pub own : m.path ≡ u.path
  pub declares : declared m.name ≡ Some (place f declaration)
  pub callee : ℕ
  pub calls : part call 0 ≡ Some callee
  pub named : IsNamed u marks f (bare (nodes_at u f) callee) (g.path, g.name)
  pub kind : g.kind ≡ m.kind
  pub hands_on : hands u marks f call node m.kind ≡ true

-- to whom a function hands on, in all files
abbrev pub Forwards : (List ℕ → Option NodeRef) → Unit → (Item → Meaning) → Member → Member → Type 0
Forwards declared u marks m g = (f : ℕ) × (n : ℕ) × HandsOn declared u marks f n m g

-- ---- listed functions

abbrev pub is_fmt_print : List ℕ → Bool
is_fmt_print name =
    bytes_eq name (codes "Print") || (bytes_eq name (codes "Println") || (bytes_eq name (codes "Sprint") || (bytes_eq name (codes "Sprintln") || (bytes_eq name (codes "Fprint") || bytes_eq name (codes "Fprintln")))))

abbrev pub is_fmt_printf : List ℕ → Bool
is_fmt_printf name = bytes_eq name (codes "Printf") || (bytes_eq name (codes "Sprintf") || bytes_eq name (codes "Fprintf"))

abbrev pub is_log_print : List ℕ → Bool
is_log_print name =
    bytes_eq name (codes "Print") || (bytes_eq name (codes "Println") || (bytes_eq name (codes "Fatal") || (bytes_eq name (codes "Fatalln") || (bytes_eq name (codes "Panic") || bytes_eq name (codes "Panicln")))))

abbrev pub is_log_printf : List ℕ → Bool
is_log_printf name = bytes_eq name (codes "Printf") || (bytes_eq name (codes "Fatalf") || bytes_eq name (codes "Panicf"))

abbrev pub is_fmt_name : ℕ → List ℕ → Bool
is_fmt_name kind name = if kind == 1 then is_fmt_print name else (if kind == 2 then is_fmt_printf name else (if kind == 4 then bytes_eq name (codes "Errorf") else false))

abbrev pub is_log_name : ℕ → List ℕ → Bool
is_log_name kind name = if kind == 1 then is_log_print name else (if kind == 2 then is_log_printf name else false)

-- functions of Go's own packages that print, by the path of their package, their kind and their name
abbrev pub is_listed_name : List ℕ → ℕ → List ℕ → Bool
is_listed_name path kind name = if bytes_eq path (codes "fmt") then is_fmt_name kind name else (if bytes_eq path (codes "log") then is_log_name kind name else false)

abbrev pub is_spread_type : NodeKind → Bool
is_spread_type k.Variadic = true
is_spread_type _ = false

abbrev pub first_passes : (GoType → Bool) → (Item → Meaning) → ℕ → Node → Bool
first_passes test marks f entry = option_map_or (type_passes test marks f) (part entry 0) false

-- the entry is `...interface{}`, with a name or without
abbrev pub is_rest : (Item → Meaning) → ℕ → Node → Bool
is_rest marks f entry = (is_spread_param entry.kind && part_passes is_any marks f entry) || (is_spread_type entry.kind && first_passes is_any marks f entry)

abbrev pub ends_in_rest : Unit → (Item → Meaning) → ℕ → Node → Bool
ends_in_rest u marks f node = option_map_or (is_rest marks f) (option_and_then (slice_get (nodes_at u f)) (entry_back (nodes_at u f) node 1)) false

abbrev pub is_text_group : (Item → Meaning) → ℕ → Node → Bool
is_text_group marks f entry = is_param entry.kind && part_passes is_text marks f entry

-- the entry is a string, with names or without
abbrev pub is_text_entry : (Item → Meaning) → ℕ → List Node → ℕ → Bool
is_text_entry marks f nodes n = type_passes is_text marks f n || option_map_or (is_text_group marks f) (slice_get nodes n) false

abbrev pub has_text_before : Unit → (Item → Meaning) → ℕ → Node → Bool
has_text_before u marks f node = option_map_or (is_text_entry marks f (nodes_at u f)) (entry_back (nodes_at u f) node 2) false

-- its last parameter is `...interface{}`, with a string before it where it has a format
abbrev pub takes_kind : Unit → (Item → Meaning) → ℕ → Node → ℕ → Bool
takes_kind u marks f node kind = ends_in_rest u marks f node && ((kind == 1) || has_text_before u marks f node)

abbrev pub declared_takes : Unit → (Item → Meaning) → ℕ → NodeRef → Bool
declared_takes u marks kind at = option_map_or (λ (node : Node). takes_kind u marks at.file node kind) (node_at u at) false

-- a function of the name that takes what its kind asks for
abbrev pub takes_named : (List ℕ → Option NodeRef) → Unit → (Item → Meaning) → ℕ → List ℕ → Bool
takes_named declared u marks kind name = option_map_or (declared_takes u marks kind) (declared name) false

abbrev pub is_listed : (List ℕ → Option NodeRef) → Unit → (Item → Meaning) → ℕ → List ℕ → Bool
is_listed declared u marks kind name = is_listed_name u.path kind name && takes_named declared u marks kind name

-- A listed function that the package declares.
abbrev pub listed_in : (List ℕ → Option NodeRef) → Unit → (Item → Meaning) → Member → Bool
listed_in declared u marks m = bytes_eq m.path u.path && is_listed declared u marks m.kind m.name

-- ---- in code

-- a row of flags has those that it had, and where the test holds
pub record IsMore (test : ℕ → Bool) (old new : List Bool) : Type 0 where
  pub size : length new ≡ length old
  pub each : (m : ℕ) → m < length old → flag_at new m ≡ (flag_at old m || test m)

-- a flag for each of the first few numbers: whether some of these nodes touch it
pub record AreTouched (u : Unit) (f count : ℕ) (nodes : List Node) (row : List Bool) : Type 0 where
  pub size : length row ≡ count
  pub each : (m : ℕ) → m < count → flag_at row m ≡ list_any (touches u f m) nodes
