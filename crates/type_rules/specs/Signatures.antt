-- Signatures (Go 1.17, "Function types").
use Rattle.std.specs.Prelude.{ℕ, zero, suc, ◌+◌, ◌-◌, ◌&&◌, Bool, true, false, if◌then◌else◌, List, [], ◌∷◌, length, Option, Some, None, option_and_then, slice_get}
use Rattle.std.specs.Option.{option_map_or}
use Rattle.go_tree.specs.declared.tree.Node.{Node}
use Rattle.go_tree.specs.declared.tree.NodeKind.{NodeKind}
use Rattle.go_tree.specs.declared.tree.NodeKind.TheVariants as k
use Rattle.gv_base.specs.declared.constant.Kind.TheVariants as kind
use Rattle.package_objects.specs.Declares.{gather, items, part, kind_at, is_params, is_block}
use Rattle.type_model.specs.GoTypes.{GoType, GoTypes, GoSignature, BasicType, DefinedType, PointerTo, SliceOf, ArrayOf, MapOf, ChanOf, FuncOf, StructOf, InterfaceOf, From, NoType, AndType}
use Rattle.mark_walk.specs.Asks.{done, bind}
use Rattle.typed_marks.specs.declared.item.Stage.TheVariants as s
use Rattle.typed_marks.specs.Meanings.{Known, Meaning, Quiet}
use Rattle.unit_read.specs.Units.{Unit}
use Rattle.rule_words.specs.Parts.{Part, part_at}
use Rattle.rule_words.specs.Asking.{Rule, mark_ask}
use Rattle.rule_words.specs.Good.{known_told, given}
use Rattle.type_rules.specs.Types.{gives_type}

-- ---- lists of parameters
-- The mark of a list is that of a function type with these parameters and without results.

abbrev pub types_from : List GoType → GoTypes
types_from [] = NoType
types_from (of ∷ list) = AndType of (types_from list)

abbrev pub is_good : Part → Bool
is_good p = option_map_or (λ (x : Known). true) (known_told p.mark) false

-- whether the first n are good
abbrev pub are_good : List Part → ℕ → Bool
are_good ps zero = true
are_good ps (suc n) = are_good ps n && is_good (part_at ps n)

-- the type of a good part
abbrev pub type_of_part : Part → GoType
type_of_part p = option_map_or (λ (x : Known). x.of) (known_told p.mark) (BasicType kind.Bool)

abbrev pub is_named_entry : NodeKind → Bool
is_named_entry k.Param = true
is_named_entry _ = false

-- how many parameters an entry declares: the names of one type, or one
abbrev pub entry_count : List Node → Node → ℕ
entry_count nodes node = if is_named_entry node.kind then length (items nodes (part node 0)) else 1

abbrev pub entry_count_at : List Node → Option ℕ → ℕ
entry_count_at nodes o = option_map_or (entry_count nodes) (option_and_then (λ n. slice_get nodes n) o) 1

abbrev pub repeated_type : GoType → ℕ → List GoType
repeated_type of n = gather (λ i. of ∷ []) n

abbrev pub nth_types : List Node → Node → List Part → ℕ → List GoType
nth_types nodes node ps i = repeated_type (type_of_part (part_at ps i)) (entry_count_at nodes (part node i))

abbrev pub param_types : List Node → Node → List Part → List GoType
param_types nodes node ps = gather (nth_types nodes node ps) (length node.parts)

abbrev pub is_spread : NodeKind → Bool
is_spread k.SpreadParam = true
is_spread k.Variadic = true
is_spread _ = false

-- "the final incoming parameter may have a type prefixed with `...`"
abbrev pub is_variadic : List Node → Node → Bool
is_variadic nodes node = option_map_or (λ n. is_spread (kind_at nodes n)) (part node (length node.parts - 1)) false

abbrev pub list_type : List Node → Node → List Part → GoType
list_type nodes node ps = FuncOf (From (types_from (param_types nodes node ps)) NoType (is_variadic nodes node))

abbrev pub params_rule : List Node → Node → List Part → Rule
params_rule nodes node ps = if are_good ps (length node.parts) then gives_type (list_type nodes node ps) else done Quiet

-- ---- parameters and results

pub record Params : Type 0 where
  pub types : GoTypes
  pub variadic : Bool

abbrev pub params_from : GoSignature → Params
params_from (From params results variadic) = record { types = params; variadic = variadic }

-- the parameters that the mark of a list has
abbrev pub params_told : GoType → Option Params
params_told (BasicType kind) = None
params_told (DefinedType name) = None
params_told (PointerTo of) = None
params_told (SliceOf of) = None
params_told (ArrayOf size of) = None
params_told (MapOf key of) = None
params_told (ChanOf direction of) = None
params_told (FuncOf of) = Some (params_from of)
params_told (StructOf fields) = None
params_told (InterfaceOf methods) = None

abbrev pub signature_type : Params → GoTypes → GoType
signature_type ps results = FuncOf (From ps.types results ps.variadic)

-- the results: those of a list, or one type
abbrev pub results_of : NodeKind → GoType → GoTypes
results_of kind of = if is_params kind then option_map_or (λ (ps : Params). ps.types) (params_told of) NoType else AndType of NoType

abbrev pub joined_rule : NodeKind → Params → Known → Rule
joined_rule kind ps y = gives_type (signature_type ps (results_of kind y.of))

abbrev pub resulting_rule : NodeKind → Params → Meaning → Rule
resulting_rule kind ps m = given m (λ y. joined_rule kind ps y)

-- the node of the results, if there are any: what follows the parameters and is no body
abbrev pub unless_block : List Node → ℕ → Option ℕ
unless_block nodes n = if is_block (kind_at nodes n) then None else Some n

abbrev pub results_node : List Node → Node → ℕ → Option ℕ
results_node nodes node i = option_and_then (unless_block nodes) (part node i)

abbrev pub results_rule : Unit → ℕ → List Node → Option ℕ → Params → Rule
results_rule u block nodes None ps = gives_type (signature_type ps NoType)
results_rule u block nodes (Some n) ps = bind (mark_ask u s.Placed block n) (λ m. resulting_rule (kind_at nodes n) ps m)

abbrev pub taking_rule : Unit → ℕ → List Node → Option ℕ → Known → Rule
taking_rule u block nodes results x = option_map_or (results_rule u block nodes results) (params_told x.of) (done Quiet)

abbrev pub from_params : Unit → ℕ → List Node → Option ℕ → Meaning → Rule
from_params u block nodes results m = given m (λ x. taking_rule u block nodes results x)

abbrev pub params_ask : Unit → ℕ → List Node → Option ℕ → ℕ → Rule
params_ask u block nodes results n = bind (mark_ask u s.Placed block n) (λ m. from_params u block nodes results m)

-- The type of a function whose parameters are the part of this number, and whose results come next. A body is no part of it.
abbrev pub signature_rule : Unit → ℕ → List Node → Node → ℕ → Rule
signature_rule u block nodes node i = option_map_or (params_ask u block nodes (results_node nodes node (i + 1))) (part node i) (done Quiet)
