-- Whether an operand has receives, or calls that are no constants (Go 1.17, "Length and capacity"): its length is then no constant. A conversion is no
-- call. What stands in a function literal isn't looked at.
use Rattle.std.specs.Prelude.{ℕ, zero, suc, Bool, true, false, if◌then◌else◌, List, [], ◌∷◌, length, Option, Some, None}
use Rattle.std.specs.Option.{option_map_or}
use Rattle.go_tree.specs.declared.tree.Node.{Node}
use Rattle.go_tree.specs.declared.tree.NodeKind.{NodeKind}
use Rattle.go_tree.specs.declared.tree.NodeKind.TheVariants as k
use Rattle.const_eval.specs.declared.operator.Operator.{Operator}
use Rattle.go_tree.specs.declared.tree.FileTree.{FileTree}
use Rattle.const_tree.specs.Operators.{unary_operator}
use Rattle.object_order.specs.Spots.{place}
use Rattle.package_objects.specs.Declares.{part}
use Rattle.mark_walk.specs.Asks.{done, bind}
use Rattle.typed_tree.specs.declared.mark.Mode.{Mode}
use Rattle.typed_tree.specs.Places.{is_type, is_constant}
use Rattle.typed_marks.specs.declared.item.Stage.TheVariants as s
use Rattle.typed_marks.specs.Meanings.{Meaning, Right, Wrong, Beyond, Quiet, Wishes, Declares}
use Rattle.unit_read.specs.Units.{Unit, node_at, nodes_at, tree_at}
use Rattle.rule_words.specs.Asking.{Asks, mark_ask}
use Rattle.builtin_rules.specs.declared.quiet.Noise.{Noise}
use Rattle.builtin_rules.specs.declared.quiet.Noise.TheVariants as noise

-- ---- what a mark says

-- a good one of a mode that passes a test
abbrev pub is_good_as : (Mode → Bool) → Meaning → Bool
is_good_as passes (Right x) = passes x.mode
is_good_as passes (Wrong rule) = false
is_good_as passes (Beyond limit) = false
is_good_as passes Quiet = false
is_good_as passes (Wishes demand wish) = false
is_good_as passes (Declares d) = false

-- ---- what a node is

-- of the operators before an operand the arrow alone is none of those that compute
abbrev pub has_operator : Node → FileTree → Bool
has_operator node tree = option_map_or (λ (op : Operator). true) (unary_operator tree node) false

abbrev pub computes : Unit → ℕ → Node → Bool
computes u file node = option_map_or (has_operator node) (tree_at u file) false

abbrev pub unary_noise : Bool → Noise
unary_noise computes = if computes then noise.Plain else noise.Receive

abbrev pub noise_by : Bool → NodeKind → Noise
noise_by computes k.Call = noise.Call
noise_by computes k.CallSpread = noise.Call
noise_by computes k.FuncLit = noise.Body
noise_by computes k.Unary = unary_noise computes
noise_by computes _ = noise.Plain

unfoldable pub noise_of : Unit → ℕ → Node → Noise
noise_of u file node = noise_by (computes u file node) node.kind

-- ---- asking

abbrev pub mark_before : Unit → ℕ → Option ℕ → Asks Meaning
mark_before u block o = option_map_or (mark_ask u s.Before block) o (done Quiet)

abbrev pub told_type : Meaning → Asks Bool
told_type m = done (is_good_as is_type m)

-- what a node calls is a type
abbrev pub converts_ask : Unit → ℕ → Node → Asks Bool
converts_ask u block node = bind (mark_before u block (part node 0)) told_type

abbrev pub unless_constant : Unit → ℕ → Node → Meaning → Asks Bool
unless_constant u block node m = if is_good_as is_constant m then done true else converts_ask u block node

-- a call that is a constant or a conversion
unfoldable pub is_no_call_ask : Unit → ℕ → ℕ → Node → Asks Bool
is_no_call_ask u block n node = bind (mark_ask u s.Before block n) (unless_constant u block node)

-- `<-` before a channel type is no receive
unfoldable pub is_no_receive_ask : Unit → ℕ → ℕ → Asks Bool
is_no_receive_ask u block n = bind (mark_ask u s.Before block n) told_type

-- all of a list pass, one after the other until one doesn't
abbrev pub every_ask : (ℕ → Asks Bool) → List ℕ → Asks Bool
every_ask f [] = done true
every_ask f (x ∷ list) = bind (f x) (λ b. if b then every_ask f list else done false)

-- what is known of a node without its parts: whether it is quiet; None where its parts say so
abbrev pub unless_loud : Bool → Asks (Option Bool)
unless_loud b = done (if b then None else Some false)

abbrev pub heard_whole : Bool → Asks (Option Bool)
heard_whole b = done (Some b)

unfoldable pub heard_by : Unit → ℕ → ℕ → Node → Noise → Asks (Option Bool)
heard_by u block n node noise.Plain = done None
heard_by u block n node noise.Body = done (Some true)
heard_by u block n node noise.Call = bind (is_no_call_ask u block n node) unless_loud
heard_by u block n node noise.Receive = bind (is_no_receive_ask u block n) heard_whole

abbrev pub heard_node : Unit → ℕ → ℕ → ℕ → Node → Asks (Option Bool)
heard_node u block file n node = heard_by u block n node (noise_of u file node)

unfoldable pub heard_ask : Unit → ℕ → ℕ → ℕ → Asks (Option Bool)
heard_ask u block file n = option_map_or (heard_node u block file n) (node_at u (place file n)) (done (Some true))

abbrev pub parts_at : Unit → ℕ → ℕ → List ℕ
parts_at u file n = option_map_or (λ (node : Node). node.parts) (node_at u (place file n)) []

abbrev pub then_parts : (ℕ → Asks Bool) → List ℕ → Option Bool → Asks Bool
then_parts rest parts None = every_ask rest parts
then_parts rest parts (Some b) = done b

-- the node and what stands in it, down to so many levels
abbrev pub quiet_within : Unit → ℕ → ℕ → ℕ → ℕ → Asks Bool
quiet_within u block file zero n = done false
quiet_within u block file (suc levels) n = bind (heard_ask u block file n) (then_parts (quiet_within u block file levels) (parts_at u file n))

-- The operand has no receives, and no calls but constants and conversions.
unfoldable pub quiet_ask : Unit → ℕ → ℕ → ℕ → Asks Bool
quiet_ask u block file n = quiet_within u block file (length (nodes_at u file)) n
