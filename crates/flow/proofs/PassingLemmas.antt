-- Flags of nodes that pass, by the flags of their parts.
use Rattle.std.proofs.Common.{◌≡◌, ◌⊎◌, inl, inr, ◌<◌, ◌+◌, ◌*◌, ◌||◌, ◌↔◌, ℕ, zero, suc, Bool, true, false, not, cond, List, [], ◌∷◌, ◌++◌, length, drop, Option, Some, None, refl, sym, ap, ◌∙◌, subst, arith, below_more}
use Rattle.std.specs.Prelude.{slice_get}
use Rattle.std.specs.List.{Contains}
use Rattle.std.proofs.lemmas.List.{length-append}
use Rattle.std.proofs.lemmas.Option.{slice_get-get_or, slice_get_within}
use Rattle.go_tree.specs.declared.tree.FileTree.{FileTree}
use Rattle.go_tree.specs.declared.tree.Node.{Node}
use Rattle.go_tree.specs.declared.tree.NodeKind.{NodeKind}
use Rattle.go_tree.specs.declared.tree.NodeKind.TheVariants as k
use Rattle.flow.specs.declared.point.Role.{Role}
use Rattle.flow.specs.declared.point.Role.TheVariants as r
use Rattle.flow.specs.Around.{IsTree}
use Rattle.flow.specs.Edges.{after, has_role, may_pass, may_end}
use Rattle.flow.specs.Kinds.{is_sequence, is_branching, is_loop, is_left, is_ending, step_role, steps_of}
use Rattle.flow.specs.Passing.{is_leavable, Leaves, IsLeft, last_of, last_step, Passes, flag_of, some_passes, passes_if, is_left_at, passes_by, none_left, AreMarked, ArePassing, AreSurelyPassing}
use Rattle.flow.specs.Passing.Passes.{simple, empty, last, beside, arm, ends, left}
use Rattle.flow.proofs.AroundLemmas.{either, same_some}
use Rattle.flow.proofs.SearchLemmas.{no_truth}

cond_true : (b u v : Bool) → cond b u v ≡ true → ((b ≡ true) × (u ≡ true)) ⊎ ((b ≡ false) × (v ≡ true))
cond_true true u v e = inl (refl, e)
cond_true false u v e = inr (refl, e)

or_true : (b c : Bool) → (b || c) ≡ true → (b ≡ true) ⊎ (c ≡ true)
or_true true c e = inl refl
or_true false c e = inr e

or_first : (b c : Bool) → b ≡ true → (b || c) ≡ true
or_first true c e = refl
or_first false c e = no_truth e

or_second : (b c : Bool) → c ≡ true → (b || c) ≡ true
or_second true c e = refl
or_second false c e = e

not_true : (b : Bool) → not b ≡ true → b ≡ false
not_true true e = no_truth e
not_true false e = refl

-- where an item stands
pub place_of : (xs : List ℕ) (x : ℕ) → Contains xs x → (i : ℕ) × (slice_get xs i ≡ Some x)
place_of xs x c = (c.0, slice_get-get_or xs c.0 x c.1 ∙ ap Some c.2)

pub there_in : (xs : List ℕ) (i x : ℕ) → slice_get xs i ≡ Some x → Contains xs x
there_in [] i x e = absurd (let low = slice_get_within [] i x e in omega (arith, low))
there_in (y ∷ ys) zero x e = (0, omega arith, same_some e)
there_in (y ∷ ys) (suc i) x e = let c = there_in ys i x e in (suc c.0, (let low = c.1 in omega arith), c.2)

head_or : (y : ℕ) (ys : List ℕ) (x : ℕ) → Contains (y ∷ ys) x → (y ≡ x) ⊎ Contains ys x
head_or y ys x (zero, low, e) = inl e
head_or y ys x (suc i, low, e) = inr (i, omega arith, e)

at_head : (y : ℕ) (ys : List ℕ) (x : ℕ) → y ≡ x → Contains (y ∷ ys) x
at_head y ys x e = (0, omega arith, e)

in_tail : (y : ℕ) (ys : List ℕ) (x : ℕ) → Contains ys x → Contains (y ∷ ys) x
in_tail y ys x c = (suc c.0, (let low = c.1 in omega arith), c.2)

last_in : (tree : FileTree) (role : Role) (found : Option ℕ) (xs : List ℕ) (m : ℕ) → last_of tree role found xs ≡ Some m → (found ≡ Some m) ⊎ Contains xs m
last_in tree role found [] m e = inl e
last_in tree role found (x ∷ xs) m e = either (last_in tree role (cond (has_role tree role x) (Some x) found) xs m e)
    (λ was. or_found (has_role tree role x) was)
    (λ c. inr (in_tail x xs m c))
  where
    or_found : (b : Bool) → cond b (Some x) found ≡ Some m → (found ≡ Some m) ⊎ Contains (x ∷ xs) m
    or_found true was = inr (at_head x xs m (same_some was))
    or_found false was = inl was

dropped_in : (xs : List ℕ) (m : ℕ) → Contains (drop 1 xs) m → Contains xs m
dropped_in [] m c = c
dropped_in (x ∷ xs) m c = in_tail x xs m c

steps_within : (of : NodeKind) (parts : List ℕ) (m : ℕ) → Contains (steps_of of parts) m → Contains parts m
steps_within k.Label parts m c = dropped_in parts m c
steps_within _ parts m c = c

nothing_found : {C : Type 0} (m : ℕ) → None ≡ Some m → C
nothing_found m e = absurd cc

-- the last statement is a part
step_in : (tree : FileTree) (node : Node) (m : ℕ) → last_step tree node ≡ Some m → Contains node.parts m
step_in tree node m e = either (last_in tree (step_role node.kind) None (steps_of node.kind node.parts) m e)
    (λ nothing. nothing_found m nothing)
    (λ c. steps_within node.kind node.parts m c)

-- what is a part of a node comes before it
part_before : (tree : FileTree) → IsTree tree.nodes → (n : ℕ) (node : Node) → slice_get tree.nodes n ≡ Some node → (m : ℕ) → Contains node.parts m → m < n
part_before tree is n node at m c = let p = place_of node.parts m c in is.after n p.0 m (node, at, p.1)

some_in : (tree : FileTree) (role : Role) (M : ℕ → Bool) (xs : List ℕ) → some_passes tree role M xs ≡ true → (m : ℕ) × Contains xs m × (has_role tree role m ≡ true) × (M m ≡ true)
some_in tree role M [] e = no_truth e
some_in tree role M (x ∷ xs) e = either (or_true (cond (has_role tree role x) (M x) false) (some_passes tree role M xs) e)
    (λ first. either (cond_true (has_role tree role x) (M x) false first)
    (λ both. (x, at_head x xs x refl, both.0, both.1))
    (λ neither. no_truth neither.1))
    (λ rest. let w = some_in tree role M xs rest in (w.0, in_tail x xs w.0 w.1, w.2, w.3))

some_by : (tree : FileTree) (role : Role) (M : ℕ → Bool) (xs : List ℕ) (m : ℕ) → Contains xs m → has_role tree role m ≡ true → M m ≡ true → some_passes tree role M xs ≡ true
some_by tree role M [] m c is passes = absurd (let low = c.1 in omega (arith, low))
some_by tree role M (x ∷ xs) m c is passes = either (head_or x xs m c)
    (λ e. or_first (cond (has_role tree role x) (M x) false) (some_passes tree role M xs)
    (subst (λ y. cond (has_role tree role y) (M y) false ≡ true) (sym e) (rw is passes)))
    (λ rest. or_second (cond (has_role tree role x) (M x) false) (some_passes tree role M xs) (some_by tree role M xs m rest is passes))

branch_no_sequence : (of : NodeKind) → is_branching of ≡ true → is_sequence of ≡ false
branch_no_sequence k.If e = refl
branch_no_sequence k.Switch e = refl
branch_no_sequence k.TypeSwitch e = refl
branch_no_sequence k.Select e = refl
branch_no_sequence _ e = no_truth e

loop_no_sequence : (of : NodeKind) → is_loop of ≡ true → is_sequence of ≡ false
loop_no_sequence k.For e = refl
loop_no_sequence k.ForClause e = refl
loop_no_sequence k.ForRange e = refl
loop_no_sequence k.ForRangeAssign e = refl
loop_no_sequence k.ForRangeDefine e = refl
loop_no_sequence _ e = no_truth e

loop_no_branch : (of : NodeKind) → is_loop of ≡ true → is_branching of ≡ false
loop_no_branch k.For e = refl
loop_no_branch k.ForClause e = refl
loop_no_branch k.ForRange e = refl
loop_no_branch k.ForRangeAssign e = refl
loop_no_branch k.ForRangeDefine e = refl
loop_no_branch _ e = no_truth e

left_branches : (of : NodeKind) → is_left of ≡ true → is_branching of ≡ true
left_branches k.Switch e = refl
left_branches k.TypeSwitch e = refl
left_branches k.Select e = refl
left_branches _ e = no_truth e

simple_of : (a b c d : Bool) → a ≡ false → b ≡ false → c ≡ false → d ≡ false → not (a || (b || (c || d))) ≡ true
simple_of false false false false ea eb ec ed = refl
simple_of true b c d ea eb ec ed = no_truth (sym ea)
simple_of false true c d ea eb ec ed = no_truth (sym eb)
simple_of false false true d ea eb ec ed = no_truth (sym ec)
simple_of false false false true ea eb ec ed = no_truth (sym ed)

-- what is no sequence, no branch, no loop and no jump goes by the last case
simple_case : (a b c d s u v w : Bool) → not (a || (b || (c || d))) ≡ true → s ≡ false → cond a u (cond b v (cond c w (cond d false (not s)))) ≡ true
simple_case true b c d s u v w e f = no_truth e
simple_case false true c d s u v w e f = no_truth e
simple_case false false true d s u v w e f = no_truth e
simple_case false false false true s u v w e f = no_truth e
simple_case false false false false true u v w e f = no_truth (sym f)
simple_case false false false false false u v w e f = refl

first_case : (a u v : Bool) → a ≡ true → u ≡ true → cond a u v ≡ true
first_case true u v e f = f
first_case false u v e f = no_truth e

second_case : (a b u v w : Bool) → a ≡ false → b ≡ true → v ≡ true → cond a u (cond b v w) ≡ true
second_case true b u v w e f g = no_truth (sym e)
second_case false true u v w e f g = g
second_case false false u v w e f g = no_truth f

third_case : (a b c u v w x : Bool) → a ≡ false → b ≡ false → c ≡ true → w ≡ true → cond a u (cond b v (cond c w x)) ≡ true
third_case true b c u v w x e f g h = no_truth (sym e)
third_case false true c u v w x e f g h = no_truth (sym f)
third_case false false true u v w x e f g h = h
third_case false false false u v w x e f g h = no_truth g

-- what the flags of the first few nodes and the marks say, as tests
record Known (tree : FileTree) (labels : List (Option ℕ)) (stops left_points M : ℕ → Bool) (n : ℕ) : Type 0 where
  left_sound : left_points (after n) ≡ true → IsLeft tree labels n
  left_every : IsLeft tree labels n → left_points (after n) ≡ true
  sound : (m : ℕ) → m < n → M m ≡ true → Passes tree labels stops m
  every : (m : ℕ) → m < n → Passes tree labels stops m → M m ≡ true

-- the half of it that says what passes
record Sound (tree : FileTree) (labels : List (Option ℕ)) (stops left_points M : ℕ → Bool) (n : ℕ) : Type 0 where
  left_sound : left_points (after n) ≡ true → IsLeft tree labels n
  sound : (m : ℕ) → m < n → M m ≡ true → Passes tree labels stops m

left_case : (tree : FileTree) (labels : List (Option ℕ)) (stops left_points M : ℕ → Bool) (n : ℕ) (node : Node) → Sound tree labels stops left_points M n → slice_get tree.nodes n ≡ Some node
    → is_left_at left_points n node.kind ≡ true → Passes tree labels stops n
left_case tree labels stops left_points M n node known at e = either (cond_true (is_leavable node.kind) (left_points (after n)) false e)
    (λ both. left node at both.0 (known.left_sound both.1))
    (λ neither. no_truth neither.1)

abbrev not_loop : (ℕ → Bool) → ℕ → Node → Bool
not_loop stops n node = cond (is_ending node.kind) false (not (stops n))

abbrev loop : FileTree → (ℕ → Bool) → ℕ → Node → Bool
loop tree marks n node = is_left_at marks n node.kind || may_end tree node.kind node.parts

abbrev not_branch : FileTree → (ℕ → Bool) → (ℕ → Bool) → ℕ → Node → Bool
not_branch tree stops marks n node = cond (is_loop node.kind) (loop tree marks n node) (not_loop stops n node)

abbrev branch : FileTree → (ℕ → Bool) → (ℕ → Bool) → ℕ → Node → Bool
branch tree marks M n node = is_left_at marks n node.kind || (may_pass tree node.kind node.parts || some_passes tree r.Arm M node.parts)

abbrev not_sequence : FileTree → (ℕ → Bool) → (ℕ → Bool) → (ℕ → Bool) → ℕ → Node → Bool
not_sequence tree stops marks M n node = cond (is_branching node.kind) (branch tree marks M n node) (not_branch tree stops marks n node)

passes_then : (tree : FileTree) (labels : List (Option ℕ)) (stops left_points M : ℕ → Bool) (n : ℕ) (node : Node) → IsTree tree.nodes → Sound tree labels stops left_points M n
    → slice_get tree.nodes n ≡ Some node → passes_by tree stops left_points M n node ≡ true → Passes tree labels stops n
passes_then tree labels stops left_points M n node is known at e =
    either (cond_true (is_sequence node.kind) (passes_if M (last_step tree node)) (not_sequence tree stops left_points M n node) e)
    (λ s. by_step (last_step tree node) refl s.0 s.1)
    (λ s. either (cond_true (is_branching node.kind) (branch tree left_points M n node) (not_branch tree stops left_points n node) s.1)
    (λ b. either (or_true (is_left_at left_points n node.kind) (may_pass tree node.kind node.parts || some_passes tree r.Arm M node.parts) b.1)
    (λ l. left_case tree labels stops left_points M n node known at l)
    (λ rest. either (or_true (may_pass tree node.kind node.parts) (some_passes tree r.Arm M node.parts) rest)
    (λ may. beside node at b.0 may)
    (λ some. let w = some_in tree r.Arm M node.parts some in
    arm node at b.0 w.1 w.2 (known.sound w.0 (part_before tree is n node at w.0 w.1) w.3))))
    (λ b. either (cond_true (is_loop node.kind) (loop tree left_points n node) (not_loop stops n node) b.1)
    (λ l. either (or_true (is_left_at left_points n node.kind) (may_end tree node.kind node.parts) l.1)
    (λ is_it. left_case tree labels stops left_points M n node known at is_it)
    (λ may. ends node at l.0 may))
    (λ l. either (cond_true (is_ending node.kind) false (not (stops n)) l.1)
    (λ x. no_truth x.1)
    (λ x. simple node at (simple_of (is_sequence node.kind) (is_branching node.kind) (is_loop node.kind) (is_ending node.kind) s.0 b.0 l.0 x.0) (not_true (stops n) x.1)))))
  where
    by_step : (step : Option ℕ) → last_step tree node ≡ step → is_sequence node.kind ≡ true → passes_if M step ≡ true → Passes tree labels stops n
    by_step None told s p = empty node at s told
    by_step (Some m) told s p = last node at s told (known.sound m (part_before tree is n node at m (step_in tree node m told)) p)

then_passes : (tree : FileTree) (labels : List (Option ℕ)) (stops left_points M : ℕ → Bool) (n : ℕ) → IsTree tree.nodes → Known tree labels stops left_points M n
    → Passes tree labels stops n → (node : Node) × (slice_get tree.nodes n ≡ Some node) × (passes_by tree stops left_points M n node ≡ true)
then_passes tree labels stops left_points M n is known (simple node at s e) = (
  node,
  at,
  simple_case (is_sequence node.kind) (is_branching node.kind) (is_loop node.kind) (is_ending node.kind) (stops n) (passes_if M (last_step tree node))
      (is_left_at left_points n node.kind || (may_pass tree node.kind node.parts || some_passes tree r.Arm M node.parts))
      (is_left_at left_points n node.kind || may_end tree node.kind node.parts) s e,
)
then_passes tree labels stops left_points M n is known (empty node at s none) = (node, at, first_case (is_sequence node.kind) (passes_if M (last_step tree node)) _ s (ap (passes_if M) none))
then_passes tree labels stops left_points M n is known (last {m = m} node at s some p) = (
  node,
  at,
  first_case (is_sequence node.kind) (passes_if M (last_step tree node)) _ s
      (ap (passes_if M) some ∙ known.every m (part_before tree is n node at m (step_in tree node m some)) p),
)
then_passes tree labels stops left_points M n is known (beside node at b may) = (
  node,
  at,
  second_case (is_sequence node.kind) (is_branching node.kind) (passes_if M (last_step tree node))
      (is_left_at left_points n node.kind || (may_pass tree node.kind node.parts || some_passes tree r.Arm M node.parts)) _
      (branch_no_sequence node.kind b) b
      (or_second (is_left_at left_points n node.kind) (may_pass tree node.kind node.parts || some_passes tree r.Arm M node.parts)
      (or_first (may_pass tree node.kind node.parts) (some_passes tree r.Arm M node.parts) may)),
)
then_passes tree labels stops left_points M n is known (arm {m = m} node at b c role p) = (
  node,
  at,
  second_case (is_sequence node.kind) (is_branching node.kind) (passes_if M (last_step tree node))
      (is_left_at left_points n node.kind || (may_pass tree node.kind node.parts || some_passes tree r.Arm M node.parts)) _
      (branch_no_sequence node.kind b) b
      (or_second (is_left_at left_points n node.kind) (may_pass tree node.kind node.parts || some_passes tree r.Arm M node.parts)
      (or_second (may_pass tree node.kind node.parts) (some_passes tree r.Arm M node.parts)
      (some_by tree r.Arm M node.parts m c role (known.every m (part_before tree is n node at m c) p)))),
)
then_passes tree labels stops left_points M n is known (ends node at l may) = (
  node,
  at,
  third_case (is_sequence node.kind) (is_branching node.kind) (is_loop node.kind) (passes_if M (last_step tree node))
      (is_left_at left_points n node.kind || (may_pass tree node.kind node.parts || some_passes tree r.Arm M node.parts))
      (is_left_at left_points n node.kind || may_end tree node.kind node.parts) _
      (loop_no_sequence node.kind l) (loop_no_branch node.kind l) l
      (or_second (is_left_at left_points n node.kind) (may_end tree node.kind node.parts) may),
)
then_passes tree labels stops left_points M n is known (left node at leavable leaves) =
    let here : is_left_at left_points n node.kind ≡ true = first_case (is_leavable node.kind) (left_points (after n)) false leavable (known.left_every leaves) in (
      node,
      at,
      either (or_true (is_loop node.kind) (is_left node.kind) leavable)
          (λ l. third_case (is_sequence node.kind) (is_branching node.kind) (is_loop node.kind) (passes_if M (last_step tree node))
          (is_left_at left_points n node.kind || (may_pass tree node.kind node.parts || some_passes tree r.Arm M node.parts))
          (is_left_at left_points n node.kind || may_end tree node.kind node.parts) (cond (is_ending node.kind) false (not (stops n)))
          (loop_no_sequence node.kind l) (loop_no_branch node.kind l) l
          (or_first (is_left_at left_points n node.kind) (may_end tree node.kind node.parts) here))
          (λ l. second_case (is_sequence node.kind) (is_branching node.kind) (passes_if M (last_step tree node))
          (is_left_at left_points n node.kind || (may_pass tree node.kind node.parts || some_passes tree r.Arm M node.parts))
          (cond (is_loop node.kind) (is_left_at left_points n node.kind || may_end tree node.kind node.parts) (cond (is_ending node.kind) false (not (stops n))))
          (branch_no_sequence node.kind (left_branches node.kind l)) (left_branches node.kind l)
          (or_first (is_left_at left_points n node.kind) (may_pass tree node.kind node.parts || some_passes tree r.Arm M node.parts) here)),
    )

-- Flags, one more at a time.

pub flag_kept : (flags : List Bool) (b : Bool) (i : ℕ) → i < length flags → flag_of (flags ++ b ∷ []) i ≡ flag_of flags i
flag_kept [] b i low = absurd (omega (arith, low))
flag_kept (f ∷ flags) b zero low = refl
flag_kept (f ∷ flags) b (suc i) low = flag_kept flags b i (omega arith)

pub flag_new : (flags : List Bool) (b : Bool) → flag_of (flags ++ b ∷ []) (length flags) ≡ b
flag_new [] b = refl
flag_new (f ∷ flags) b = flag_new flags b

pub none_passing : (tree : FileTree) (labels : List (Option ℕ)) (stops : ℕ → Bool) (flags : List Bool) → flags ≡ [] → ArePassing tree labels stops 0 flags
none_passing tree labels stops flags is = record {
  size = ap length is;
  each = λ n low. absurd (omega (arith, low));
}

pub passing_more : (tree : FileTree) (labels : List (Option ℕ)) (stops : ℕ → Bool) (marks flags new : List Bool) (n : ℕ) (b : Bool) (node : Node) → IsTree tree.nodes
    → AreMarked (Leaves tree labels) (length tree.nodes) (2 * length tree.nodes) marks → slice_get tree.nodes n ≡ Some node
    → b ≡ passes_by tree stops (flag_of marks) (flag_of flags) n node → new ≡ flags ++ b ∷ [] → ArePassing tree labels stops n flags → ArePassing tree labels stops (n + 1) new
passing_more tree labels stops marks flags new n b node is marked at told pushed a =
    let s = a.size in
    let low = slice_get_within tree.nodes n node at in
    let known : Known tree labels stops (flag_of marks) (flag_of flags) n = record {
      left_sound = λ e. marked.sound (after n) e;
      left_every = λ l. marked.every (after n) l.0 (omega (arith, low)) (slice_get_within tree.nodes l.0 l.1.node l.1.there) l.1;
      sound = λ m under e. (a.each m under).0 e;
      every = λ m under p. (a.each m under).1 p;
    } in
    record {
      size = ap length pushed ∙ (length-append flags (b ∷ []) ∙ omega arith);
      each = below_more _ _
          (λ m under.
          let same : flag_of new m ≡ flag_of flags m = ap (λ l. flag_of l m) pushed ∙ flag_kept flags b m (omega arith) in
          (λ e. (a.each m under).0 (sym same ∙ e), λ p. same ∙ (a.each m under).1 p))
          (let here : flag_of new n ≡ b = ap (λ l. flag_of l n) pushed ∙ (ap (flag_of (flags ++ b ∷ [])) (sym s) ∙ flag_new flags b) in (
            λ e. passes_then tree labels stops (flag_of marks) (flag_of flags) n node is (record { left_sound = known.left_sound; sound = known.sound }) at (sym told ∙ (sym here ∙ e)),
            λ p. let w = then_passes tree labels stops (flag_of marks) (flag_of flags) n is known p in
                let same : w.0 ≡ node = same_some (sym w.1 ∙ at) in
                here ∙ (told ∙ (ap (passes_by tree stops (flag_of marks) (flag_of flags) n) (sym same) ∙ w.2)),
          ));
    }

pub all_passing : (tree : FileTree) (labels : List (Option ℕ)) (stops : ℕ → Bool) (n few : ℕ) (flags : List Bool) → n ≡ few → ArePassing tree labels stops n flags
    → ArePassing tree labels stops few flags
all_passing tree labels stops n few flags same a = subst (λ i. ArePassing tree labels stops i flags) same a

-- The same of what surely passes. Only the flags of its parts count for a node.

some_same : (tree : FileTree) (role : Role) (M N : ℕ → Bool) (xs : List ℕ) → ((m : ℕ) → Contains xs m → M m ≡ N m) → some_passes tree role M xs ≡ some_passes tree role N xs
some_same tree role M N [] same = refl
some_same tree role M N (x ∷ xs) same =
    ap (λ b. cond (has_role tree role x) b false || some_passes tree role M xs) (same x (at_head x xs x refl))
    ∙ ap (λ b. cond (has_role tree role x) (N x) false || b) (some_same tree role M N xs (λ m c. same m (in_tail x xs m c)))

passes_same : (tree : FileTree) (stops marks M N : ℕ → Bool) (n : ℕ) (node : Node) → IsTree tree.nodes → slice_get tree.nodes n ≡ Some node → ((m : ℕ) → m < n → M m ≡ N m)
    → passes_by tree stops marks M n node ≡ passes_by tree stops marks N n node
passes_same tree stops marks M N n node is at same =
    ap (λ b. cond (is_sequence node.kind) b (not_sequence tree stops marks M n node)) (step_same (last_step tree node) refl)
    ∙ ap (λ b. cond (is_sequence node.kind) (passes_if N (last_step tree node))
    (cond (is_branching node.kind) (is_left_at marks n node.kind || (may_pass tree node.kind node.parts || b)) (not_branch tree stops marks n node)))
    (some_same tree r.Arm M N node.parts (λ m c. same m (part_before tree is n node at m c)))
  where
    step_same : (step : Option ℕ) → last_step tree node ≡ step → passes_if M step ≡ passes_if N step
    step_same None told = refl
    step_same (Some m) told = same m (part_before tree is n node at m (step_in tree node m told))

pub none_sure : (tree : FileTree) (labels : List (Option ℕ)) (stops : ℕ → Bool) (flags : List Bool) → flags ≡ [] → AreSurelyPassing tree labels stops 0 flags
none_sure tree labels stops flags is = record {
  size = ap length is;
  told = λ n low. absurd (omega (arith, low));
  each = λ n low. absurd (omega (arith, low));
}

pub sure_more : (tree : FileTree) (labels : List (Option ℕ)) (stops : ℕ → Bool) (flags new : List Bool) (n : ℕ) (b : Bool) (node : Node) → IsTree tree.nodes → slice_get tree.nodes n ≡ Some node
    → b ≡ passes_by tree stops none_left (flag_of flags) n node → new ≡ flags ++ b ∷ [] → AreSurelyPassing tree labels stops n flags → AreSurelyPassing tree labels stops (n + 1) new
sure_more tree labels stops flags new n b node is at told pushed a =
    let s = a.size in
    let known : Sound tree labels stops none_left (flag_of flags) n = record {
      left_sound = λ e. no_truth e;
      sound = a.each;
    } in
    let kept : (m : ℕ) → m < n → flag_of flags m ≡ flag_of new m = λ m under. sym (ap (λ l. flag_of l m) pushed ∙ flag_kept flags b m (omega arith)) in
    let here : flag_of new n ≡ b = ap (λ l. flag_of l n) pushed ∙ (ap (flag_of (flags ++ b ∷ [])) (sym s) ∙ flag_new flags b) in
    record {
      size = ap length pushed ∙ (length-append flags (b ∷ []) ∙ omega arith);
      told = below_more (λ m. (other : Node) → slice_get tree.nodes m ≡ Some other → flag_of new m ≡ passes_by tree stops none_left (flag_of new) m other) n
          (λ m under other there. sym (kept m under)
          ∙ (a.told m under other there ∙ passes_same tree stops none_left (flag_of flags) (flag_of new) m other is there (λ k low. kept k (omega arith))))
          (λ other there. here ∙ (told
          ∙ (passes_same tree stops none_left (flag_of flags) (flag_of new) n node is at kept ∙ ap (passes_by tree stops none_left (flag_of new) n) (same_some (sym at ∙ there)))));
      each = below_more (λ m. flag_of new m ≡ true → Passes tree labels stops m) n
          (λ m under e. a.each m under (kept m under ∙ e))
          (λ e. passes_then tree labels stops none_left (flag_of flags) n node is known at (sym told ∙ (sym here ∙ e)));
    }

pub all_sure : (tree : FileTree) (labels : List (Option ℕ)) (stops : ℕ → Bool) (n few : ℕ) (flags : List Bool) → n ≡ few → AreSurelyPassing tree labels stops n flags → AreSurelyPassing tree labels stops few flags
all_sure tree labels stops n few flags same a = subst (λ i. AreSurelyPassing tree labels stops i flags) same a
