-- Where a statement lets control pass, among its own points and those of its parts (Go 1.17, "If statements", "For statements",
-- "Switch statements", "Select statements", "Labeled statements"). Conditions are never evaluated.
use Rattle.std.specs.Prelude.{ℕ, suc, ◌+◌, ◌*◌, Bool, true, false, ◌&&◌, ◌==◌, not, nat_lt, List, [], ◌∷◌, ◌++◌, length, Option, Some, None, slice_get, if◌then◌else◌, cond}
use Rattle.go_tree.specs.declared.token.Token.{Token}
use Rattle.go_tree.specs.declared.token.TokenKind.{TokenKind}
use Rattle.go_tree.specs.declared.token.TokenKind.TheVariants as t
use Rattle.go_tree.specs.declared.tree.FileTree.{FileTree}
use Rattle.go_tree.specs.declared.tree.Node.{Node}
use Rattle.go_tree.specs.declared.tree.NodeKind.{NodeKind}
use Rattle.go_tree.specs.declared.tree.NodeKind.TheVariants as k
use Rattle.flow.specs.declared.point.Edge.{Edge}
use Rattle.flow.specs.declared.point.Role.{Role}
use Rattle.flow.specs.declared.point.Role.TheVariants as r
use Rattle.flow.specs.Kinds.{is_sequence, is_branching, is_loop, is_ending, is_arm, is_inner, is_list, is_block, is_post, is_default, is_condition, step_role, steps_of}

-- the points of a statement
abbrev pub before : ℕ → ℕ
before n = 2 * n

abbrev pub after : ℕ → ℕ
after n = 2 * n + 1

abbrev pub edge : ℕ → ℕ → Edge
edge p q = record { from = p; to = q }

abbrev pub is_semicolon : Option Token → Bool
is_semicolon (Some token) = is_semi token.kind
  where
    is_semi : TokenKind → Bool
    is_semi t.Semi = true
    is_semi _ = false
is_semicolon None = false

-- a node of this kind has the role, where it is told whether a semicolon follows
abbrev pub fits : Role → NodeKind → Bool → Bool
fits r.Any of semicolon = true
fits r.List of semicolon = is_list of
fits r.Opening of semicolon = not (is_inner of) && semicolon
fits r.Arm of semicolon = is_arm of
fits r.Body of semicolon = is_block of
fits r.Post of semicolon = is_post of
fits r.Default of semicolon = is_default of
fits r.Condition of semicolon = is_condition of

abbrev pub plays : Role → List Token → Option Node → Bool
plays role tokens None = false
plays role tokens (Some node) = fits role node.kind (is_semicolon (slice_get tokens (suc node.last)))

-- the node of this number has the role
abbrev pub has_role : FileTree → Role → ℕ → Bool
has_role tree role x = plays role tree.tokens (slice_get tree.nodes x)

-- through the parts of a role in turn, up to the last
abbrev pub chain : FileTree → Role → ℕ → List ℕ → List Edge
chain tree role p [] = []
chain tree role p (x ∷ xs) = if has_role tree role x then edge p (before x) ∷ chain tree role (after x) xs else chain tree role p xs

-- where that ends
abbrev pub end_of : FileTree → Role → ℕ → List ℕ → ℕ
end_of tree role p [] = p
end_of tree role p (x ∷ xs) = if has_role tree role x then end_of tree role (after x) xs else end_of tree role p xs

-- through one of the parts of a role
abbrev pub through : FileTree → Role → ℕ → ℕ → List ℕ → List Edge
through tree role p end [] = []
through tree role p end (x ∷ xs) = if has_role tree role x then edge p (before x) ∷ edge (after x) end ∷ through tree role p end xs else through tree role p end xs

-- from behind the parts of a role
abbrev pub back : FileTree → Role → ℕ → List ℕ → List Edge
back tree role end [] = []
back tree role end (x ∷ xs) = if has_role tree role x then edge (after x) end ∷ back tree role end xs else back tree role end xs

-- how many parts have the role
abbrev pub count : FileTree → Role → List ℕ → ℕ
count tree role [] = 0
count tree role (x ∷ xs) = if has_role tree role x then suc (count tree role xs) else count tree role xs

-- before the first part that is done between two turns of a loop, or else at h
abbrev pub again_in : FileTree → ℕ → List ℕ → ℕ
again_in tree h [] = h
again_in tree h (x ∷ xs) = if has_role tree r.Post x then before x else again_in tree h xs

-- An `if` without `else` may pass both; a `switch` without `default` may pass all; a `select` enters one of its clauses.
abbrev pub may_pass : FileTree → NodeKind → List ℕ → Bool
may_pass tree k.If parts = nat_lt (count tree r.Arm parts) 2
may_pass tree k.Select parts = false
may_pass tree _ parts = count tree r.Default parts == 0

-- A `for` without condition is left by `break` alone.
abbrev pub may_end : FileTree → NodeKind → List ℕ → Bool
may_end tree k.For parts = nat_lt 1 (length parts)
may_end tree k.ForClause parts = nat_lt 0 (count tree r.Condition parts)
may_end tree _ parts = true

abbrev pub if_so : Bool → ℕ → ℕ → List Edge
if_so b p q = if b then (edge p q ∷ []) else []

-- the point at which arms are chosen, or a condition is tested: behind the statement that opens, if there is one
abbrev pub choice_point : FileTree → ℕ → List ℕ → ℕ
choice_point tree n parts = end_of tree r.Opening (before n) parts

-- where the next turn of a loop begins
abbrev pub turn_point : FileTree → ℕ → List ℕ → ℕ
turn_point tree n parts = again_in tree (choice_point tree n parts) parts

abbrev pub sequence : FileTree → ℕ → Role → List ℕ → List Edge
sequence tree n role parts = chain tree role (before n) parts ++ edge (end_of tree role (before n) parts) (after n) ∷ []

abbrev pub branching : FileTree → ℕ → NodeKind → List ℕ → List Edge
branching tree n kind parts =
    chain tree r.Opening (before n) parts
    ++ (through tree r.Arm (choice_point tree n parts) (after n) parts
    ++ if_so (may_pass tree kind parts) (choice_point tree n parts) (after n))

abbrev pub looping : FileTree → ℕ → NodeKind → List ℕ → List Edge
looping tree n kind parts =
    chain tree r.Opening (before n) parts
    ++ (through tree r.Body (choice_point tree n parts) (turn_point tree n parts) parts
    ++ (back tree r.Post (choice_point tree n parts) parts
    ++ if_so (may_end tree kind parts) (choice_point tree n parts) (after n)))

-- the edges of a node among its points and those of its parts
abbrev pub edges_of : FileTree → ℕ → NodeKind → List ℕ → List Edge
edges_of tree n kind parts =
    cond (is_sequence kind) (sequence tree n (step_role kind) (steps_of kind parts))
    (cond (is_branching kind) (branching tree n kind parts)
    (cond (is_loop kind) (looping tree n kind parts)
    (cond (is_ending kind) []
    (edge (before n) (after n) ∷ []))))

-- the edge of a jump
abbrev pub jump_edges : ℕ → Option ℕ → List Edge
jump_edges n None = []
jump_edges n (Some q) = edge (before n) q ∷ []
