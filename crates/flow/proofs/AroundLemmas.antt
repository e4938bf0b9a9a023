-- What is around each node, filled from the last node to the first.
use Rattle.std.proofs.Common.{◌≡◌, ◌⊎◌, inl, inr, ◌<◌, ◌+◌, ◌↔◌, ℕ, zero, suc, Bool, true, false, not, cond, List, [], ◌∷◌, length, get_or, set, replicate, Option, Some, None, refl, sym, ap, ◌∙◌, subst, arith}
use Rattle.std.specs.Prelude.{slice_get, is_some}
use Rattle.std.proofs.lemmas.List.{get_or-set_other, get_or-set_same, length-replicate, length-set}
use Rattle.std.proofs.lemmas.Option.{slice_get-get_or, slice_get_within}
use Rattle.std.proofs.lemmas.Bool.{cases_eq}
use Rattle.go_tree.specs.declared.tree.FileTree.{FileTree}
use Rattle.go_tree.specs.declared.tree.Node.{Node}
use Rattle.go_tree.specs.Kinds.{is_function}
use Rattle.flow.specs.declared.point.Around.{Around}
use Rattle.flow.specs.Kinds.{is_loop, is_left, is_switch}
use Rattle.flow.specs.Edges.{after, turn_point}
use Rattle.flow.specs.Around.{nowhere, looped, chosen, next_part, inside, around_at, IsTree, IsAround, AreAround, AreGiven, AreFilled}
use Rattle.flow.specs.Around.IsAround.{top, part}

pub either : {A B C : Type 0} → A ⊎ B → (A → C) → (B → C) → C
either (inl a) f g = f a
either (inr b) f g = g b

pub same_some : {A : Type 0} {x y : A} → Some x ≡ Some y → x ≡ y
same_some e = cc

-- what was read at a place is there
pub read_at : {A : Type 0} (xs ys : List A) (i : ℕ) (x d : A) → ys ≡ xs → i < length ys → x ≡ get_or ys i d → slice_get xs i ≡ Some x
read_at xs ys i x d same lt is = subst (λ l. slice_get l i ≡ Some x) same (slice_get-get_or ys i d lt ∙ ap Some (sym is))

-- nothing is given yet
pub none_given : (tree : FileTree) (p : ℕ) (node : Node) (a : Around) (table : List Around) → AreGiven tree p node a 0 table table
none_given tree p node a table = record {
  size = refl;
  each = λ n. inr (refl, λ i lt at. absurd (omega (arith, lt)));
}

-- the part at one more place is given what is inside
pub given_more : (tree : FileTree) (p : ℕ) (node : Node) (a : Around) (i x : ℕ) (old new newer : List Around)
    → AreGiven tree p node a i old new → slice_get node.parts i ≡ Some x → x < length new
    → newer ≡ set new x (inside tree p node i a) → AreGiven tree p node a (i + 1) old newer
given_more tree p node a i x old new newer g at lt is = record {
  size = ap length is ∙ (length-set new x (inside tree p node i a) ∙ g.size);
  each = λ n. either (cases_eq n x)
      (λ e. inl (i, at ∙ ap Some (sym e), ap (λ k. around_at newer k) e ∙ (ap (λ l. around_at l x) is ∙ get_or-set_same new x (inside tree p node i a) nowhere lt)))
      (λ ne. let same : around_at newer n ≡ around_at new n = ap (λ l. around_at l n) is ∙ get_or-set_other new x n (inside tree p node i a) nowhere ne in
      either (g.each n)
      (λ old_one. inl (old_one.0, old_one.1, same ∙ old_one.2))
      (λ none. inr (
        same ∙ none.0,
        λ j low there. either (cases_eq j i)
            (λ e. ne (same_some (sym there ∙ (ap (slice_get node.parts) e ∙ at))))
            (λ other. none.1 j (omega arith) there),
      )));
}

-- what is known of a node when its turn comes
pub settled : (tree : FileTree) (p : ℕ) (table : List Around) → IsTree tree.nodes → AreFilled tree (suc p) table → p < length tree.nodes → IsAround tree p (around_at table p)
settled tree p table is f lt = either (f.each p lt)
    (λ known. known)
    (λ none. subst (λ a. IsAround tree p a) (sym none.0)
    (top (λ q i there. let later = is.after q i p there in none.1 q i (omega arith) there)))

-- the parts of one node more are given what is inside of it
pub filled_more : (tree : FileTree) (p : ℕ) (node : Node) (old new : List Around) → IsTree tree.nodes → AreFilled tree (suc p) old → p < length tree.nodes
    → slice_get tree.nodes p ≡ Some node → AreGiven tree p node (around_at old p) (length node.parts) old new → AreFilled tree p new
filled_more tree p node old new is f lt at g = record {
  size = g.size ∙ f.size;
  each = λ n low. either (g.each n)
      (λ given. inl (part p given.0 node (around_at old p) at given.1 given.2 (settled tree p old is f lt)))
      (λ kept. either (f.each n low)
      (λ known. inl (subst (λ a. IsAround tree n a) (sym kept.0) known))
      (λ none. inr (
        kept.0 ∙ none.0,
        λ q i le there. either (cases_eq q p)
            (λ e. let same : there.0 ≡ node = same_some (sym there.1 ∙ (ap (slice_get tree.nodes) e ∙ at)) in
            let here : slice_get node.parts i ≡ Some n = subst (λ (x : Node). slice_get x.parts i ≡ Some n) same there.2 in
            kept.1 i (slice_get_within node.parts i n here) here)
            (λ ne. none.1 q i (omega arith) there),
      )));
}

abbrev leading : Option ℕ → Option ℕ → Option ℕ → Around
leading leave again fall = record { leave = leave; again = again; fall = fall }

nowhere_all : (a : Around) → a.leave ≡ None → a.again ≡ None → a.fall ≡ None → a ≡ nowhere
nowhere_all a e f g = ap (λ x. leading x a.again a.fall) e ∙ (ap (λ x. leading None x a.fall) f ∙ ap (λ x. leading None None x) g)

no_some : (o : Option ℕ) → is_some o ≡ false → o ≡ None
no_some None e = refl
no_some (Some x) e = absurd cc

not_some : (o : Option ℕ) → not (is_some o) ≡ true → o ≡ None
not_some None e = refl
not_some (Some x) e = absurd cc

-- jumps lead nowhere where neither the first two do nor the last
pub nowhere_by : (a : Around) → is_some a.leave ≡ false → is_some a.again ≡ false → (not (is_some a.fall) ≡ true) ↔ (a ≡ nowhere)
nowhere_by a leave again = (
  λ e. nowhere_all a (no_some a.leave leave) (no_some a.again again) (not_some a.fall e),
  λ e. ap (λ (x : Around). not (is_some x.fall)) e,
)

-- a part of a node is one of these, or none of them is it
sought : (parts : List ℕ) (n : ℕ) → ((i : ℕ) × (slice_get parts i ≡ Some n)) ⊎ ((i : ℕ) → slice_get parts i ≡ Some n → ⊥)
sought [] n = inr (λ i at. absurd (let low = slice_get_within [] i n at in omega (arith, low)))
sought (x ∷ xs) n = either (cases_eq x n)
    (λ same. inl (0, ap Some same))
    (λ apart. either (sought xs n)
    (λ found. inl (suc found.0, found.1))
    (λ none. inr (elsewhere apart none)))
  where
    elsewhere : (x ≡ n → ⊥) → ((i : ℕ) → slice_get xs i ≡ Some n → ⊥) → (i : ℕ) → slice_get (x ∷ xs) i ≡ Some n → ⊥
    elsewhere apart none zero at = apart (same_some at)
    elsewhere apart none (suc i) at = none i at

-- inside of what can't be left jumps lead nowhere, where they do around it
nowhere_inside : (function loop left : Bool) (again past : Around) → loop ≡ false → left ≡ false → cond function nowhere (cond loop again (cond left past nowhere)) ≡ nowhere
nowhere_inside true loop left again past e f = refl
nowhere_inside false true left again past e f = absurd (cc)
nowhere_inside false false true again past e f = absurd (cc)
nowhere_inside false false false again past e f = refl

inside_nowhere : (tree : FileTree) (p : ℕ) (node : Node) (i : ℕ) → is_loop node.kind ≡ false → is_left node.kind ≡ false → inside tree p node i nowhere ≡ nowhere
inside_nowhere tree p node i loop left =
    nowhere_inside (is_function node.kind) (is_loop node.kind) (is_left node.kind) (looped (after p) (turn_point tree p node.parts))
    (chosen (after p) nowhere (cond (is_switch node.kind) (next_part node.parts i) None)) loop left

-- the parts of a node inside of which jumps lead nowhere have that already
pub filled_same : (tree : FileTree) (p : ℕ) (node : Node) (table : List Around) → IsTree tree.nodes → AreFilled tree (suc p) table → p < length tree.nodes
    → slice_get tree.nodes p ≡ Some node → is_loop node.kind ≡ false → is_left node.kind ≡ false → around_at table p ≡ nowhere → AreFilled tree p table
filled_same tree p node table is f lt at loop left none_around = record {
  size = f.size;
  each = λ n low. either (f.each n low)
      (λ known. inl known)
      (λ none. either (sought node.parts n)
      (λ found. inl (subst (λ a. IsAround tree n a) (sym none.0)
      (part p found.0 node nowhere at found.1 (sym (inside_nowhere tree p node found.0 loop left)) (subst (λ a. IsAround tree p a) none_around (settled tree p table is f lt)))))
      (λ other. inr (
        none.0,
        λ q i le there. either (cases_eq q p)
            (λ e. let same : there.0 ≡ node = same_some (sym there.1 ∙ (ap (slice_get tree.nodes) e ∙ at)) in
            other i (subst (λ (x : Node). slice_get x.parts i ≡ Some n) same there.2))
            (λ ne. none.1 q i (omega arith) there),
      )));
}

none_there : (n count : ℕ) → around_at (replicate count nowhere) n ≡ nowhere
none_there n zero = refl
none_there zero (suc count) = refl
none_there (suc n) (suc count) = none_there n count

-- at the beginning nothing is known
pub none_filled : (tree : FileTree) (few : ℕ) (table : List Around) → few ≡ length tree.nodes → table ≡ replicate few nowhere → AreFilled tree few table
none_filled tree few table size is = record {
  size = ap length is ∙ (length-replicate few nowhere ∙ size);
  each = λ n lt. inr (ap (λ l. around_at l n) is ∙ none_there n few, λ p i le there. absurd (let within = slice_get_within tree.nodes p there.0 there.1 in omega arith));
}

-- at the end all is
pub all_filled : (tree : FileTree) (few : ℕ) (table : List Around) → few ≡ 0 → AreFilled tree few table → AreAround tree table
all_filled tree few table none f = record {
  size = f.size;
  each = λ n lt. either (f.each n lt) (λ known. known)
      (λ e. subst (λ a. IsAround tree n a) (sym e.0) (top (λ p i there. e.1 p i (omega arith) there)));
}

-- there is one answer for a node
pub one_around : (tree : FileTree) → IsTree tree.nodes → {n : ℕ} {a b : Around} → IsAround tree n a → IsAround tree n b → a ≡ b
one_around tree is (top none) (top none2) = refl
one_around tree is (top none) (part p i node c at there e r) = absurd (none p i (node, at, there))
one_around tree is (part p i node c at there e r) (top none) = absurd (none p i (node, at, there))
one_around tree is {n = n} (part p i node c at there e r) (part q j other d at2 there2 e2 r2) =
    let same = is.one p q i j n (node, at, there) (other, at2, there2) in
    let nodes : node ≡ other = same_some (sym at ∙ (ap (slice_get tree.nodes) same.0 ∙ at2)) in
    let rest : c ≡ d = one_around tree is r (subst (λ k. IsAround tree k d) (sym same.0) r2) in
    e ∙ (ap (λ k. inside tree k node i c) same.0 ∙ (ap (λ (x : Node). inside tree q x i c) nodes ∙ (ap (λ k. inside tree q other k c) same.1 ∙ (ap (inside tree q other j) rest ∙ sym e2))))
