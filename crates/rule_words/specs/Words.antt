-- Words of rules.
use Rattle.std.specs.Prelude.{Bool, true, false, if◌then◌else◌, Option, Some, None}
use Rattle.gv_base.specs.declared.constant.Const.{Const}
use Rattle.gv_base.specs.declared.constant.Kind.{Kind}
use Rattle.gv_base.specs.declared.constant.Kind.TheVariants as k
use Rattle.type_model.specs.GoTypes.{GoType, BasicType, DefinedType, PointerTo, SliceOf, ArrayOf, MapOf, ChanOf, FuncOf, StructOf, InterfaceOf}
use Rattle.mark_walk.specs.Asks.{done}
use Rattle.typed_tree.specs.declared.mark.Mode.{Mode}
use Rattle.typed_tree.specs.declared.mark.Mode.TheVariants as mode
use Rattle.typed_tree.specs.declared.place.Want.{Want as Demand}
use Rattle.typed_tree.specs.declared.place.Want.TheVariants as demand
use Rattle.typed_tree.specs.declared.rule.Rule.{Rule as RuleNumber}
use Rattle.typed_marks.specs.Meanings.{Known, Wish, Free, Takes, Fits, Assigned, Meaning, Right, Wrong, Beyond, Quiet, Wishes, Declares}
use Rattle.rule_words.specs.Asking.{Rule}

-- what a rule makes of a part; nothing is said where the part isn't good
abbrev pub need : Meaning → (Known → Rule) → Rule
need (Right x) rest = rest x
need (Wrong rule) rest = done Quiet
need (Beyond limit) rest = done Quiet
need Quiet rest = done Quiet
need (Wishes demand wish) rest = done Quiet
need (Declares d) rest = done Quiet

-- what it makes of an underlying type
abbrev pub need_type : Option GoType → (GoType → Rule) → Rule
need_type None rest = done Quiet
need_type (Some of) rest = rest of

-- the first test that fails gives its rule
abbrev pub test : Bool → RuleNumber → Rule → Rule
test true rule rest = rest
test false rule rest = done (Wrong rule)

-- a node that has no value
abbrev pub nothing : Meaning
nothing = Right (record { mode = mode.NoValue; of = BasicType k.UntypedNil; value = None; last = BasicType k.UntypedNil })

-- ---- what is wanted

pub record Wanted : Type 0 where
  pub demand : Demand
  pub wish : Wish

-- what the mark of a place says; where it says nothing, nothing is wanted
abbrev pub wanted_in : Meaning → Wanted
wanted_in (Wishes demand wish) = record { demand = demand; wish = wish }
wanted_in (Right x) = record { demand = demand.Nothing; wish = Free }
wanted_in (Wrong rule) = record { demand = demand.Nothing; wish = Free }
wanted_in (Beyond limit) = record { demand = demand.Nothing; wish = Free }
wanted_in Quiet = record { demand = demand.Nothing; wish = Free }
wanted_in (Declares d) = record { demand = demand.Nothing; wish = Free }

-- ---- final types

-- "Constants", "Variable declarations": the default type of an untyped operand
abbrev pub default_kind : Kind → Kind
default_kind k.UntypedBool = k.Bool
default_kind k.UntypedInt = k.Int
default_kind k.UntypedRune = k.Int32
default_kind k.UntypedText = k.Text
default_kind kind = kind

abbrev pub is_untyped_kind : Kind → Bool
is_untyped_kind k.UntypedBool = true
is_untyped_kind k.UntypedInt = true
is_untyped_kind k.UntypedRune = true
is_untyped_kind k.UntypedText = true
is_untyped_kind k.UntypedNil = true
is_untyped_kind _ = false

abbrev pub taken : Kind → Wish → GoType
taken kind Free = BasicType (default_kind kind)
taken kind (Takes to) = to
taken kind (Fits to) = to
taken kind (Assigned to) = to

-- an untyped operand takes the type that is wanted, or its default; a typed one has its own
abbrev pub last_of : GoType → Wish → GoType
last_of (BasicType kind) wish = if is_untyped_kind kind then taken kind wish else BasicType kind
last_of (DefinedType name) wish = DefinedType name
last_of (PointerTo of) wish = PointerTo of
last_of (SliceOf of) wish = SliceOf of
last_of (ArrayOf size of) wish = ArrayOf size of
last_of (MapOf key of) wish = MapOf key of
last_of (ChanOf direction of) wish = ChanOf direction of
last_of (FuncOf of) wish = FuncOf of
last_of (StructOf fields) wish = StructOf fields
last_of (InterfaceOf methods) wish = InterfaceOf methods

-- an operand whose place wants this
abbrev pub operand : Mode → GoType → Option Const → Wish → Meaning
operand mode of value wish = Right (record { mode = mode; of = of; value = value; last = last_of of wish })
