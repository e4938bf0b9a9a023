-- Of which nodes late rules are asked: of the others none has a fault.
use Rattle.std.specs.Prelude.{ℕ, ◌||◌, Bool, false, List, slice_get}
use Rattle.std.specs.Option.{option_map_or}
use Rattle.go_tree.specs.declared.tree.Node.{Node}
use Rattle.body_rules.specs.Endings.{flag_of}
use Rattle.body_rules.specs.Files.{returns_by}
use Rattle.body_rules.specs.Given.{Given}
use Rattle.body_rules.specs.Kinds.{is_jump, is_fall}

-- a function with results and a body, a jump or a `fallthrough`
abbrev pub acts : List Node → Node → Bool
acts nodes node = returns_by nodes node.kind node.parts || (is_jump node.kind || is_fall node.kind)

abbrev pub acts_at : Given → ℕ → Bool
acts_at f n = option_map_or (acts f.nodes) (slice_get f.nodes n) false

-- a node of which something is given
abbrev pub is_marked : Given → ℕ → Bool
is_marked f n = flag_of f.repeated n || (flag_of f.unused n || (flag_of f.shadowed n || flag_of f.variables n))

abbrev pub is_asked : Given → ℕ → Bool
is_asked f n = is_marked f n || acts_at f n
