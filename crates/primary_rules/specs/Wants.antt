-- What the places in primary expressions want (Go 1.17, "Selectors", "Index expressions", "Slice expressions", "Type assertions", "Address operators",
-- "Receive operator").
use Rattle.std.specs.Prelude.{ℕ, ◌==◌, Bool, true, false, if◌then◌else◌, List, Option, Some, None}
use Rattle.std.specs.Option.{option_map_or}
use Rattle.gv_base.specs.declared.constant.Kind.TheVariants as kind
use Rattle.go_tree.specs.declared.tree.Node.{Node}
use Rattle.go_tree.specs.declared.tree.NodeKind.{NodeKind}
use Rattle.go_tree.specs.declared.tree.NodeKind.TheVariants as k
use Rattle.const_eval.specs.declared.operator.Operator.{Operator}
use Rattle.const_tree.specs.Operators.{unary_operator}
use Rattle.mark_walk.specs.Asks.{done, bind}
use Rattle.package_objects.specs.Declares.{part}
use Rattle.type_model.specs.GoTypes.{GoType, BasicType}
use Rattle.typed_tree.specs.Places.{is_type}
use Rattle.typed_tree.specs.declared.place.Want.{Want as Demand}
use Rattle.typed_tree.specs.declared.place.Want.TheVariants as demand
use Rattle.typed_marks.specs.declared.item.Stage.TheVariants as s
use Rattle.typed_marks.specs.Meanings.{Wish, Free, Takes, Assigned, Meaning, Right, Wrong, Beyond, Quiet, Wishes, Declares}
use Rattle.unit_read.specs.declared.place.Place.{Place}
use Rattle.unit_read.specs.Units.{Unit, nodes_at}
use Rattle.rule_words.specs.Asking.{Rule, mark_ask, mark_under}
use Rattle.rule_words.specs.Words.{wanted_in}
use Rattle.rule_words.specs.Files.{file_of}
use Rattle.rule_words.specs.Wishes.{wants}
use Rattle.op_rules.specs.Forms.{operator_in}
use Rattle.op_rules.specs.Unary.{takes_address}
use Rattle.op_rules.specs.Wants.{op_wants}
use Rattle.primary_rules.specs.declared.forms.Form.{Form}
use Rattle.primary_rules.specs.declared.forms.Form.TheVariants as f
use Rattle.primary_rules.specs.Addresses.{passes}
use Rattle.primary_rules.specs.Forms.{form_of}
use Rattle.primary_rules.specs.Shapes.{Shape, Texts, Slices, Arrays, Maps, Pointers, Channels, Interfaces, Others, shape_of}

-- ---- indexes

-- an untyped constant index takes int, and is tested by the expression around it
abbrev pub int_wish : Wish
int_wish = Takes (BasicType kind.Int)

-- a key is assigned to the key type of its map
abbrev pub shape_wants : Shape → Meaning
shape_wants (Maps key of) = Wishes demand.Operand (Assigned key)
shape_wants Texts = Wishes demand.Count int_wish
shape_wants (Slices of) = Wishes demand.Count int_wish
shape_wants (Arrays size of) = Wishes demand.Count int_wish
shape_wants (Pointers of) = Wishes demand.Count int_wish
shape_wants (Channels direction of) = Wishes demand.Count int_wish
shape_wants Interfaces = Wishes demand.Count int_wish
shape_wants Others = Wishes demand.Count int_wish

-- Where it isn't known what is indexed, nil isn't refused.
abbrev pub index_wanted : Option GoType → Rule
index_wanted None = done (Wishes demand.Operand int_wish)
index_wanted (Some under) = done (shape_wants (shape_of under))

abbrev pub index_beside : Unit → Meaning → Rule
index_beside u own = bind (mark_under u own) index_wanted

-- a part before anything is wanted of it
abbrev pub before_part : Unit → ℕ → Option ℕ → Rule
before_part u block None = done Quiet
before_part u block (Some n) = mark_ask u s.Before block n

abbrev pub key_wants : Unit → ℕ → Node → Rule
key_wants u block around = bind (before_part u block (part around 0)) (index_beside u)

unfoldable pub index_wants : Unit → ℕ → ℕ → Node → Rule
index_wants u block slot around = if slot == 0 then wants demand.Operand Free else key_wants u block around

abbrev pub slice_wants : ℕ → Rule
slice_wants slot = if slot == 0 then wants demand.Operand Free else wants demand.Count int_wish

abbrev pub assert_wants : ℕ → Rule
assert_wants slot = if slot == 0 then wants demand.Operand Free else wants demand.Type Free

-- ---- `*`

abbrev pub wants_type : Demand → Bool
wants_type demand.Type = true
wants_type demand.Case = true
wants_type demand.Nothing = false
wants_type demand.Inside = false
wants_type demand.Owner = false
wants_type demand.Operand = false
wants_type demand.Count = false
wants_type demand.Constant = false

abbrev pub stands_for_type : Meaning → Bool
stands_for_type (Right x) = is_type x.mode
stands_for_type (Wrong rule) = false
stands_for_type (Beyond limit) = false
stands_for_type Quiet = false
stands_for_type (Wishes demand wish) = false
stands_for_type (Declares d) = false

-- before a type it makes a type, of which the place of the whole says what is wanted; of anything else it wants a single value
abbrev pub star_demand : Meaning → Demand
star_demand own = if stands_for_type own then demand.Inside else demand.Operand

abbrev pub star_beside : Meaning → Rule
star_beside own = wants (star_demand own) Free

abbrev pub star_own : Unit → ℕ → Node → Rule
star_own u block around = bind (before_part u block (part around 0)) star_beside

-- what stands behind `*` is a type where the whole has to be one
abbrev pub star_asked : Unit → ℕ → Node → Demand → Rule
star_asked u block around whole = if wants_type whole then wants demand.Type Free else star_own u block around

abbrev pub star_wanted : Unit → ℕ → Node → Meaning → Rule
star_wanted u block around m = star_asked u block around (wanted_in m).demand

unfoldable pub star_wants : Unit → ℕ → ℕ → Node → Rule
star_wants u block whole around = bind (mark_ask u s.Wanted block whole) (star_wanted u block around)

-- ---- `&` and `<-`

abbrev pub is_channel_type : NodeKind → Bool
is_channel_type k.ChanType = true
is_channel_type k.SendChan = true
is_channel_type k.RecvChan = true
is_channel_type _ = false

-- `<-` before a channel type makes a type
abbrev pub arrow_demand : List Node → Option ℕ → Demand
arrow_demand nodes None = demand.Operand
arrow_demand nodes (Some n) = if passes is_channel_type nodes n then demand.Type else demand.Operand

abbrev pub operator_wants : Unit → ℕ → Place → Node → Operator → Rule
operator_wants u block p around op = if takes_address op then wants demand.Operand Free else op_wants u block p around

abbrev pub unary_asked : Unit → ℕ → Place → Node → Option Operator → Rule
unary_asked u block p around None = wants (arrow_demand (nodes_at u (file_of u block)) (part around 0)) Free
unary_asked u block p around (Some op) = operator_wants u block p around op

unfoldable pub unary_wants : Unit → ℕ → Place → Node → Rule
unary_wants u block p around = unary_asked u block p around (operator_in unary_operator u (file_of u block) around)

-- ---- parentheses

-- where a type is wanted of the whole, in a case nil too, it is wanted of what stands between them, before that is looked at
abbrev pub paren_asked : Unit → ℕ → Place → Node → Demand → Rule
paren_asked u block p around whole = if wants_type whole then wants whole Free else op_wants u block p around

abbrev pub paren_wanted : Unit → ℕ → Place → Node → Meaning → Rule
paren_wanted u block p around m = paren_asked u block p around (wanted_in m).demand

unfoldable pub paren_wants : Unit → ℕ → Place → Node → Rule
paren_wants u block p around = bind (mark_ask u s.Wanted block p.around) (paren_wanted u block p around)

-- ---- forms

unfoldable pub form_wants : Unit → ℕ → Place → Node → Form → Rule
form_wants u block p around f.Selector = wants demand.Owner Free
form_wants u block p around f.Index = index_wants u block p.slot around
form_wants u block p around (f.Slice bounds) = slice_wants p.slot
form_wants u block p around f.Assert = assert_wants p.slot
form_wants u block p around f.Star = star_wants u block p.around around
form_wants u block p around f.Unary = unary_wants u block p around
form_wants u block p around f.Paren = paren_wants u block p around
form_wants u block p around f.Other = wants demand.Nothing Free

-- What the place of a part wants, by the form of the node around it.
abbrev pub primary_wants : Unit → ℕ → Place → Node → Rule
primary_wants u block p around = form_wants u block p around (form_of around.kind)
