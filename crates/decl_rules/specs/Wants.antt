-- What the places in type expressions and declarations want (Go 1.17, "Types", "Declarations and scope").
use Rattle.std.specs.Prelude.{ℕ, ◌==◌, nat_le, not, Bool, true, false, if◌then◌else◌, Option, Some, None}
use Rattle.std.specs.Option.{option_map_or}
use Rattle.gv_base.specs.declared.constant.Kind.TheVariants as kind
use Rattle.go_tree.specs.declared.tree.Node.{Node}
use Rattle.go_tree.specs.declared.tree.NodeKind.{NodeKind}
use Rattle.go_tree.specs.declared.tree.NodeKind.TheVariants as k
use Rattle.package_objects.specs.Declares.{part}
use Rattle.type_model.specs.GoTypes.{BasicType}
use Rattle.mark_walk.specs.Asks.{bind}
use Rattle.typed_tree.specs.Places.{is_type}
use Rattle.typed_tree.specs.declared.place.Want.{Want as Demand}
use Rattle.typed_tree.specs.declared.place.Want.TheVariants as demand
use Rattle.typed_marks.specs.declared.item.Stage.TheVariants as s
use Rattle.typed_marks.specs.Meanings.{Known, Wish, Free, Takes, Assigned, Meaning}
use Rattle.unit_read.specs.declared.passage.Passage.{Passage}
use Rattle.unit_read.specs.declared.place.Place.{Place}
use Rattle.unit_read.specs.Units.{Unit, passage_at}
use Rattle.rule_words.specs.Asking.{Rule, mark_ask}
use Rattle.decl_rules.specs.declared.forms.Valuing.{Valuing}
use Rattle.decl_rules.specs.declared.forms.Valuing.TheVariants as valuing
use Rattle.decl_rules.specs.Forms.{valuing_form}
use Rattle.rule_words.specs.Good.{known_told}
use Rattle.rule_words.specs.Wishes.{wants}

-- whether the parts in a slot are types
abbrev pub is_type_slot : NodeKind → ℕ → Bool
is_type_slot k.SliceType slot = true
is_type_slot k.MapType slot = true
is_type_slot k.ChanType slot = true
is_type_slot k.SendChan slot = true
is_type_slot k.RecvChan slot = true
is_type_slot k.FuncType slot = true
is_type_slot k.Params slot = true
is_type_slot k.Variadic slot = true
is_type_slot k.Embedded slot = true
is_type_slot k.EmbeddedPointer slot = true
is_type_slot k.InterfaceType slot = true
is_type_slot k.ArrayType slot = slot == 1
is_type_slot k.Param slot = slot == 1
is_type_slot k.SpreadParam slot = slot == 1
is_type_slot k.Field slot = slot == 1
is_type_slot k.Defined slot = slot == 1
is_type_slot k.Alias slot = slot == 1
is_type_slot k.ConstTyped slot = slot == 1
is_type_slot k.VarTyped slot = slot == 1
is_type_slot k.Method slot = nat_le 1 slot
is_type_slot k.FuncDecl slot = nat_le 1 slot
is_type_slot k.MethodDecl slot = not (slot == 1)
is_type_slot _ slot = false

-- the type that is written for values
abbrev pub assigned_to : Known → Wish
assigned_to x = if is_type x.mode then Assigned x.of else Free

abbrev pub wish_by : Meaning → Wish
wish_by m = option_map_or assigned_to (known_told m) Free

-- a type is read where it is written, also for a list that is repeated
abbrev pub file_of : Unit → ℕ → ℕ
file_of u block = option_map_or (λ (p : Passage). p.file) (passage_at u block) block

abbrev pub written_wants : Unit → ℕ → Demand → Option ℕ → Rule
written_wants u block demand None = wants demand Free
written_wants u block demand (Some n) = bind (mark_ask u s.Placed (file_of u block) n) (λ m. wants demand (wish_by m))

-- the wish of a value: a length takes `int`, whose range the array type tests
abbrev pub value_wants : Unit → ℕ → Place → Node → Valuing → Rule
value_wants u block p around valuing.Array = wants demand.Operand (Takes (BasicType kind.Int))
value_wants u block p around valuing.Constants = if p.slot == 1 then wants demand.Constant Free else wants demand.Nothing Free
value_wants u block p around valuing.TypedConstants =
    if p.slot == 2 then written_wants u block demand.Constant (part around 1) else wants demand.Nothing Free

abbrev pub or_value : Unit → ℕ → Place → Node → Rule
or_value u block p around = option_map_or (value_wants u block p around) (valuing_form around.kind) (wants demand.Nothing Free)

-- What the node around wants of what stands at a place in it.
abbrev pub decl_wants : Unit → ℕ → Place → Node → Rule
decl_wants u block p around =
    if is_type_slot around.kind p.slot then wants demand.Type Free else or_value u block p around

-- ---- names that are declared

-- whether the names in a slot are declared there: they are no uses
abbrev pub declares_names : NodeKind → ℕ → Bool
declares_names k.Package slot = true
declares_names k.ImportNamed slot = true
declares_names k.ConstNames slot = true
declares_names k.ConstValues slot = slot == 0
declares_names k.ConstTyped slot = slot == 0
declares_names k.VarValues slot = slot == 0
declares_names k.VarTyped slot = slot == 0
declares_names k.VarTypedValues slot = slot == 0
declares_names k.Defined slot = slot == 0
declares_names k.Alias slot = slot == 0
declares_names k.FuncDecl slot = slot == 0
declares_names k.MethodDecl slot = slot == 1
declares_names k.Method slot = slot == 0
declares_names k.Param slot = slot == 0
declares_names k.SpreadParam slot = slot == 0
declares_names k.Field slot = slot == 0
declares_names _ slot = false
