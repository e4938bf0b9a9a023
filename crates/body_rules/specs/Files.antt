-- The late rules of bodies, each as what is a fault of a node and where.
use Rattle.std.specs.Prelude.{ℕ, ◌<◌, ◌≤◌, ◌^◌, ◌≡◌, ◌&&◌, nat_lt, not, cond, if◌then◌else◌, Bool, true, false, List, [], ◌∷◌, length, Option, Some, None, get_or, slice_get, option_and_then}
use Rattle.std.specs.Option.{option_map_or}
use Rattle.gv_base.specs.declared.place.Place.{Place}
use Rattle.go_tree.specs.declared.token.Token.{Token}
use Rattle.go_tree.specs.declared.tree.Node.{Node}
use Rattle.go_tree.specs.declared.tree.NodeKind.{NodeKind}
use Rattle.go_tree.specs.Kinds.{is_function}
use Rattle.node_values.specs.Flagged.{AreFlagged}
use Rattle.node_values.specs.Parents.{AreParents}
use Rattle.node_values.specs.Ranges.{starts, IsTiled}
use Rattle.node_values.specs.Trees.{IsTree, AreInnermost}
use Rattle.late_list.specs.declared.late.LateRule.{LateRule}
use Rattle.late_list.specs.declared.late.LateRule.TheVariants as r
use Rattle.body_rules.specs.declared.branches.Branch.{Branch}
use Rattle.body_rules.specs.declared.branches.Branch.TheVariants as w
use Rattle.body_rules.specs.declared.endings.Ending.{Ending}
use Rattle.body_rules.specs.declared.endings.Ending.TheVariants as e
use Rattle.body_rules.specs.Branches.{branch_of, stops, Leaves, AreLeft}
use Rattle.body_rules.specs.Endings.{kind_of, flag_of, from_last, is_closed, endings}
use Rattle.body_rules.specs.Given.{Given}
use Rattle.body_rules.specs.Hands.{AreClauseEnds, AreAlone}
use Rattle.body_rules.specs.Jumps.{label_of, JumpsOver, JumpsInto}
use Rattle.body_rules.specs.Kinds.{is_declaration, is_method, is_body, is_params, is_goto, is_jump, is_fall}

-- ---- what is known of a file

-- its nodes are those of trees, and what is a label is a node
pub record IsFile (f : Given) : Type 0 where
  pub few : length f.nodes ≤ 2 ^ 32
  pub tree : IsTree f.nodes
  pub tiled : IsTiled f.nodes
  pub labels : (m l : ℕ) → get_or f.labels m None ≡ Some l → l < length f.nodes

abbrev pub place_at : Given → ℕ → Place
place_at f token = record { file = f.number; offset = option_map_or (λ (t : Token). t.start) (slice_get f.tokens token) 0 }

-- the first token of a node
abbrev pub place_of : Given → ℕ → Place
place_of f n = place_at f (option_map_or (λ (node : Node). node.first) (slice_get f.nodes n) 0)

-- the last
abbrev pub end_of : Given → ℕ → Place
end_of f n = place_at f (option_map_or (λ (node : Node). node.last) (slice_get f.nodes n) 0)

abbrev pub is_nil : List ℕ → Bool
is_nil [] = true
is_nil (x ∷ xs) = false

-- ---- `goto`

-- the label that a `goto` denotes
abbrev pub goto_label : Given → ℕ → Option ℕ
goto_label f n = option_and_then (λ (node : Node). cond (is_goto node.kind) (label_of f.labels node) None) (slice_get f.nodes n)

abbrev pub GoesOver : Given → ℕ → Type 0
GoesOver f n = (l : ℕ) × (goto_label f n ≡ Some l) × JumpsOver f.nodes n l

abbrev pub GoesInto : Given → ℕ → Type 0
GoesInto f n = (l : ℕ) × (goto_label f n ≡ Some l) × (JumpsOver f.nodes n l → ⊥) × JumpsInto f.nodes n l

-- ---- labels

abbrev pub is_none : Option ℕ → Bool
is_none None = true
is_none (Some l) = false

-- a jump with a name that denotes no label
abbrev pub lacks_label : List (Option ℕ) → Node → Bool
lacks_label labels node = is_jump node.kind && (not (is_nil node.parts) && is_none (label_of labels node))

abbrev pub is_undefined : Given → ℕ → Bool
is_undefined f n = option_map_or (lacks_label f.labels) (slice_get f.nodes n) false

-- the name behind a jump
abbrev pub name_of : Given → ℕ → Place
name_of f n = place_of f (option_map_or (λ (node : Node). get_or node.parts 0 0) (slice_get f.nodes n) 0)

-- ---- `break` and `continue`

abbrev pub branch_at : Given → ℕ → Option Branch
branch_at f n = option_and_then (λ (node : Node). branch_of node.kind) (slice_get f.nodes n)

-- nothing round it to leave or to go on with, or a label that stands on no such thing round it
pub record IsStray (f : Given) (n : ℕ) : Type 0 where
  pub which : Branch
  pub branch : branch_at f n ≡ Some which
  pub denoted : is_undefined f n ≡ false
  pub stray : (t : ℕ) → Leaves which f.nodes f.labels n t → ⊥

-- ---- terminating statements

-- With so many parts or fewer there are no results, or no body.
abbrev pub bare_parts : NodeKind → ℕ
bare_parts kind = if is_method kind then 4 else (if is_declaration kind then 3 else 2)

-- `()` in the place of results
abbrev pub has_none : List Node → ℕ → Bool
has_none nodes n = option_map_or (λ (node : Node). is_params node.kind && is_nil node.parts) (slice_get nodes n) false

-- a function with results and a body
abbrev pub returns_by : List Node → NodeKind → List ℕ → Bool
returns_by nodes kind parts = is_function kind && (nat_lt (bare_parts kind) (length parts) && (is_body (kind_of nodes (from_last parts 1)) && not (has_none nodes (from_last parts 2))))

abbrev pub body_of : Given → ℕ → Option ℕ
body_of f n = option_and_then (λ (node : Node). cond (returns_by f.nodes node.kind node.parts) (Some (from_last node.parts 1)) None) (slice_get f.nodes n)

-- a body with results that doesn't end in a terminating statement
pub record IsUnfinished (f : Given) (n : ℕ) : Type 0 where
  pub b : ℕ
  pub body : body_of f n ≡ Some b
  pub left : List Bool
  pub are_left : AreLeft f.nodes f.labels left
  pub ends : is_closed (get_or (endings (flag_of left) (flag_of f.panics) f.nodes) b e.Open) ≡ false

-- the closing brace of the body
abbrev pub brace_of : Given → ℕ → Place
brace_of f n = end_of f (option_map_or (λ (b : ℕ). b) (body_of f n) 0)

-- ---- `fallthrough`

abbrev pub falls_at : Given → ℕ → Bool
falls_at f n = option_map_or (λ (node : Node). is_fall node.kind) (slice_get f.nodes n) false

-- not the end of a clause that isn't the last of an expression switch
pub record IsMisplacedFall (f : Given) (n : ℕ) : Type 0 where
  pub falls : falls_at f n ≡ true
  pub found : List Bool
  pub ends : AreClauseEnds f.nodes found
  pub misplaced : flag_of found n ≡ false

-- ---- uses of variables

-- n denotes d, and isn't an operand alone on the left of `=` or `:=`
abbrev pub Reads : Given → List Bool → ℕ → ℕ → Type 0
Reads f alone n d = (flag_of alone n ≡ false) × (get_or f.meant n None ≡ Some d)

-- the variables that are read
pub record AreRead (f : Given) (found : List Bool) : Type 0 where
  pub alone : List Bool
  pub are_alone : AreAlone f.nodes alone
  pub flags : AreFlagged (Reads f alone) (length f.nodes) (length f.nodes) found

-- a variable that no node reads
pub record IsUnused (f : Given) (d : ℕ) : Type 0 where
  pub within : d < length f.nodes
  pub variable : flag_of f.variables d ≡ true
  pub alone : List Bool
  pub are_alone : AreAlone f.nodes alone
  pub unread : (n : ℕ) → n < length f.nodes → Reads f alone n d → ⊥

-- ---- all of them

abbrev pub IsFaultIn : Given → LateRule → ℕ → Place → Type 0
IsFaultIn f r.RedeclaredLabel n p = (flag_of f.repeated n ≡ true) × (p ≡ place_of f n)
IsFaultIn f r.UnusedVariable n p = IsUnused f n × (p ≡ place_of f n)
IsFaultIn f r.ShadowedResult n p = (flag_of f.shadowed n ≡ true) × (p ≡ place_of f n)
IsFaultIn f r.MissingReturn n p = IsUnfinished f n × (p ≡ brace_of f n)
IsFaultIn f r.UndefinedLabel n p = (is_undefined f n ≡ true) × (p ≡ name_of f n)
IsFaultIn f r.UnusedLabel n p = (flag_of f.unused n ≡ true) × (p ≡ place_of f n)
IsFaultIn f r.OverVariable n p = GoesOver f n × (p ≡ place_of f n)
IsFaultIn f r.IntoBlock n p = GoesInto f n × (p ≡ place_of f n)
IsFaultIn f r.MisplacedBranch n p = IsStray f n × (p ≡ place_of f n)
IsFaultIn f r.MisplacedFallthrough n p = IsMisplacedFall f n × (p ≡ place_of f n)

abbrev pub node_count : Given → ℕ
node_count f = length f.nodes
