-- The innermost function that holds each node, given from each node to its parts.
use Rattle.std.proofs.Common.{◌≡◌, ℕ, zero, suc, ◌<◌, ◌+◌, ◌≤◌, ◌⊎◌, Bool, true, false, cond, List, [], ◌∷◌, ◌++◌, length, take, replicate, set, get_or, slice_get, Some, refl, sym, ap, ◌∙◌, subst, inl, inr, arith, get_or-set_same, get_or-set_other}
use Rattle.std.specs.List.{Contains}
use Rattle.std.proofs.Math.ListN.{length-set}
use Rattle.std.proofs.lemmas.List.{take_more}
use Rattle.std.proofs.lemmas.List.Elements.{Contains-push, Contains-push_cases, Contains-append_left}
use Rattle.std.proofs.lemmas.Option.{slice_get_within}
use Rattle.go_tree.specs.declared.tree.Node.{Node}
use Rattle.label_uses.proofs.CaseLemmas.{nat_cases}
use Rattle.label_uses.specs.Functions.{IsFunction, IsPart, Holds, part, deep, FunctionOf, SameFunction}
use Rattle.label_uses.specs.Parents.{at, AreGiven, IsTree, inside, Innermost, AreFilled, AreFunctions}
use Rattle.gv_base.proofs.Lists.{same_some}
use Rattle.go_tree.specs.Kinds.{is_function}

none_in : (n : ℕ) → Contains [] n → ⊥
none_in n (i, h, e) = absurd (omega arith)

only_one : (p n : ℕ) → Contains (p ∷ []) n → p ≡ n
only_one p n (zero, h, e) = e
only_one p n (suc i, h, e) = absurd (omega arith)

-- ---- giving a number to parts

pub given_one : (numbers : List ℕ) (i p : ℕ) → i < length numbers → AreGiven (i ∷ []) p numbers (set numbers i p)
given_one numbers i p low = record {
  size = length-set numbers i p;
  each = λ n within_it. elim (nat_cases n i) [
    | inl same ↦ inl (ap (λ x. get_or (set numbers i p) x 0) same ∙ get_or-set_same numbers i p 0 low, (0, omega arith, sym same))
    | inr other ↦ inr (get_or-set_other numbers i n p 0 other, λ c. other (sym (only_one i n c)))
  ];
}

pub given_past : (numbers : List ℕ) (i p : ℕ) → length numbers ≤ i → AreGiven (i ∷ []) p numbers numbers
given_past numbers i p high = record { size = refl; each = λ n low. inr (refl, λ c. absurd (let e = only_one i n c in omega arith)) }

pub given_none : (numbers : List ℕ) (p : ℕ) → AreGiven [] p numbers numbers
given_none numbers p = record { size = refl; each = λ n low. inr (refl, λ c. none_in n c) }

pub given_more : (parts : List ℕ) (i p : ℕ) (a b c : List ℕ) → i < length parts → AreGiven (take i parts) p a b → AreGiven (get_or parts i 0 ∷ []) p b c → AreGiven (take (i + 1) parts) p a c
given_more parts i p a b c low x y = record {
  size = y.size ∙ x.size;
  each = λ n within_it. elim (y.each n (let s = x.size in omega arith)) [
    | inl now ↦ inl (now.0, subst (λ (l : List ℕ). Contains l n) (sym (take_more parts i 0 low)) (at_end (get_or parts i 0) n (only_one (get_or parts i 0) n now.1)))
    | inr kept ↦ elim (x.each n within_it) [
      | inl old ↦ inl (kept.0 ∙ old.0, subst (λ (l : List ℕ). Contains l n) (sym (take_more parts i 0 low)) (Contains-append_left (take i parts) (get_or parts i 0 ∷ []) n old.1))
      | inr none ↦ inr (
        kept.0 ∙ none.0,
        λ q. elim (Contains-push_cases (take i parts) (get_or parts i 0) n (subst (λ (l : List ℕ). Contains l n) (take_more parts i 0 low) q)) [
          | inl before ↦ none.1 before
          | inr this ↦ kept.1 (0, omega arith, this)
        ],
      )
    ]
  ];
} where
  at_end : (z n : ℕ) → z ≡ n → Contains (take i parts ++ z ∷ []) n
  at_end z n e = subst (λ (w : ℕ). Contains (take i parts ++ z ∷ []) w) e (Contains-push (take i parts) z)

-- ---- numbers of one value

all_of : (count p n : ℕ) → n < count → at (replicate count p) n ≡ p
all_of zero p n h = absurd (omega arith)
all_of (suc count) p zero h = refl
all_of (suc count) p (suc n) h = all_of count p n (omega arith)

pub count_of : (count p : ℕ) → length (replicate count p) ≡ count
count_of zero p = refl
count_of (suc count) p = ap (λ n. suc n) (count_of count p)

-- ---- functions

-- what holds n comes after it
holds_after : (nodes : List Node) → IsTree nodes → (p n : ℕ) → Holds nodes p n → n < p
holds_after nodes tree p n (part is) = tree.after p n is
holds_after nodes tree p n (deep {q = q} held is) = let x = holds_after nodes tree p q held in let y = tree.after q n is in omega arith

-- what holds n is what n is a part of, or holds that
holds_by : (nodes : List Node) → IsTree nodes → (g p n : ℕ) → IsPart nodes p n → Holds nodes g n → (g ≡ p) ⊎ Holds nodes g p
holds_by nodes tree g p n has (part is) = inl (tree.one g p n is has)
holds_by nodes tree g p n has (deep {q = q} held is) = inr (subst (λ (x : ℕ). Holds nodes g x) (tree.one q p n is has) held)

-- what holds n where n is a part of nothing
holds_none : (nodes : List Node) (g n : ℕ) → ((q : ℕ) → IsPart nodes q n → ⊥) → Holds nodes g n → ⊥
holds_none nodes g n none (part is) = none g is
holds_none nodes g n none (deep {q = q} held is) = none q is

pub one_function : (nodes : List Node) → IsTree nodes → (n f g : ℕ) → FunctionOf nodes n f → FunctionOf nodes n g → f ≡ g
one_function nodes tree n f g x y = by (x.innermost g y.function y.holds) (y.innermost f x.function x.holds) where
  by : (g ≡ f) ⊎ Holds nodes g f → (f ≡ g) ⊎ Holds nodes f g → f ≡ g
  by (inl e) other = sym e
  by (inr h) (inl e) = e
  by (inr h) (inr k) = let x = holds_after nodes tree g f h in let y = holds_after nodes tree f g k in absurd (omega arith)

no_function : (nodes : List Node) (g : ℕ) (node : Node) → slice_get nodes g ≡ Some node → is_function node.kind ≡ false → IsFunction nodes g → ⊥
no_function nodes g node there is (other, there2, is2) =
    let same : node ≡ other = same_some (slice_get nodes g) node other there there2 in
    let e : false ≡ true = sym is ∙ (ap (λ (x : Node). is_function x.kind) same ∙ is2) in cc

-- within a function
in_function : (nodes : List Node) → IsTree nodes → (p n : ℕ) (node : Node) → slice_get nodes p ≡ Some node → is_function node.kind ≡ true → IsPart nodes p n → FunctionOf nodes n p
in_function nodes tree p n node there is has = record {
  function = (node, there, is);
  holds = part has;
  innermost = λ g fun held. holds_by nodes tree g p n has held;
}

-- within another node
in_other : (nodes : List Node) → IsTree nodes → (p n b : ℕ) (node : Node) → slice_get nodes p ≡ Some node → is_function node.kind ≡ false → IsPart nodes p n → Innermost nodes p b → Innermost nodes n b
in_other nodes tree p n b node there is has (inl f) = inl (record {
  function = f.function;
  holds = deep f.holds has;
  innermost = λ g fun held. elim (holds_by nodes tree g p n has held) [
    | inl same ↦ absurd (no_function nodes p node there is (subst (λ (x : ℕ). IsFunction nodes x) same fun))
    | inr above ↦ f.innermost g fun above
  ];
})
in_other nodes tree p n b node there is has (inr none) = inr (
  none.0,
  λ g fun held. elim (holds_by nodes tree g p n has held) [
    | inl same ↦ no_function nodes p node there is (subst (λ (x : ℕ). IsFunction nodes x) same fun)
    | inr above ↦ none.1 g fun above
  ],
)

-- the function of a part, by whether what it is a part of is one
inside_is : (nodes : List Node) → IsTree nodes → (functions : List ℕ) (p n : ℕ) (node : Node) → slice_get nodes p ≡ Some node → IsPart nodes p n → Innermost nodes p (at functions p) → Innermost nodes n (inside functions p node)
inside_is nodes tree functions p n node there has up = by (is_function node.kind) refl where
  by : (b : Bool) → is_function node.kind ≡ b → Innermost nodes n (inside functions p node)
  by true e = subst (λ (x : ℕ). Innermost nodes n x) (sym (ap (λ c. cond c p (at functions p)) e)) (inl (in_function nodes tree p n node there e has))
  by false e = subst (λ (x : ℕ). Innermost nodes n x) (sym (ap (λ c. cond c p (at functions p)) e)) (in_other nodes tree p n (at functions p) node there e has up)

-- nodes of one number have one function, and the other way round
same_from : (nodes : List Node) → IsTree nodes → (a b x y : ℕ) → Innermost nodes a x → Innermost nodes b y → x ≡ y → SameFunction nodes a b
same_from nodes tree a b x y (inl f) (inl g) is h = (
  (λ k. subst (λ (z : ℕ). FunctionOf nodes b z) (sym is ∙ one_function nodes tree a x h f k) g),
  (λ k. subst (λ (z : ℕ). FunctionOf nodes a z) (is ∙ one_function nodes tree b y h g k) f),
)
same_from nodes tree a b x y (inl f) (inr none) is h = absurd (past nodes x (is ∙ none.0) f.function) where
  past : (nodes : List Node) (x : ℕ) → x ≡ length nodes → IsFunction nodes x → ⊥
  past nodes x e fun = let l = slice_get_within nodes x fun.0 fun.1 in absurd (omega arith)
same_from nodes tree a b x y (inr none) (inl g) is h = absurd (past nodes y (sym is ∙ none.0) g.function) where
  past : (nodes : List Node) (x : ℕ) → x ≡ length nodes → IsFunction nodes x → ⊥
  past nodes x e fun = let l = slice_get_within nodes x fun.0 fun.1 in absurd (omega arith)
same_from nodes tree a b x y (inr none) (inr nothing) is h = ((λ k. absurd (none.1 h k.function k.holds)), (λ k. absurd (nothing.1 h k.function k.holds)))

from_same : (nodes : List Node) → IsTree nodes → (a b x y : ℕ) → Innermost nodes a x → Innermost nodes b y → SameFunction nodes a b → x ≡ y
from_same nodes tree a b x y (inl f) (inl g) same = one_function nodes tree b x y ((same x).0 f) g
from_same nodes tree a b x y (inl f) (inr nothing) same = absurd (nothing.1 x f.function ((same x).0 f).holds)
from_same nodes tree a b x y (inr none) (inl g) same = absurd (none.1 y g.function ((same y).1 g).holds)
from_same nodes tree a b x y (inr none) (inr nothing) same = none.0 ∙ sym nothing.0

-- what is known of a node that is a part of none of the nodes that are left
alone : (nodes : List Node) → IsTree nodes → (functions : List ℕ) (few n : ℕ) → few ≤ suc n → AreFilled nodes few functions → n < length nodes → Innermost nodes n (at functions n)
alone nodes tree functions few n low filled below = elim (filled.each n below) [
  | inl known ↦ known
  | inr none ↦ inr (none.0, λ g fun held. holds_none nodes g n (λ q has. none.1 q (let after = tree.after q n has in omega arith) has) held)
]

pub all_functions : (nodes : List Node) (functions : List ℕ) (left : ℕ) → IsTree nodes → left ≤ 0 → AreFilled nodes left functions → AreFunctions nodes functions
all_functions nodes functions left tree end filled = record {
  size = filled.size;
  same = λ a b low_a low_b. ((λ e. same_from nodes tree a b (at functions a) (at functions b) (each a low_a) (each b low_b) e), (λ same. from_same nodes tree a b (at functions a) (at functions b) (each a low_a) (each b low_b) same));
} where
  each : (n : ℕ) → n < length nodes → Innermost nodes n (at functions n)
  each n low = alone nodes tree functions left n (omega arith) filled low

-- ---- filling in the functions

pub filled_none : (nodes : List Node) (functions : List ℕ) → functions ≡ replicate (length nodes) (length nodes) → AreFilled nodes (length nodes) functions
filled_none nodes functions is = record {
  size = ap length is ∙ count_of (length nodes) (length nodes);
  each = λ n low. inr (ap (λ x. at x n) is ∙ all_of (length nodes) (length nodes) n low, λ q high has. absurd (let w = slice_get_within nodes q has.0 has.1 in omega arith));
}

-- the parts of one node more have their function
pub filled_more : (nodes : List Node) (p : ℕ) (node : Node) (old new : List ℕ) → IsTree nodes → slice_get nodes p ≡ Some node → AreFilled nodes (p + 1) old → AreGiven node.parts (inside old p node) old new → AreFilled nodes p new
filled_more nodes p node old new tree there was now = record {
  size = now.size ∙ was.size;
  each = λ n low. elim (now.each n (let s = was.size in omega arith)) [
    | inl this ↦ inl (subst (λ (x : ℕ). Innermost nodes n x) (sym this.0) (inside_is nodes tree old p n node there (node, there, this.1)
        (alone nodes tree old (p + 1) p (omega arith) was (slice_get_within nodes p node there))))
    | inr other ↦ elim (was.each n low) [
      | inl known ↦ inl (subst (λ (x : ℕ). Innermost nodes n x) (sym other.0) known)
      | inr none ↦ inr (
        other.0 ∙ none.0,
        λ q high has. elim (nat_cases q p) [
          | inl here ↦ other.1 (subst (λ (x : Node). Contains x.parts n) (same_some (slice_get nodes q) has.0 node has.1 (ap (λ x. slice_get nodes x) here ∙ there)) has.2)
          | inr apart ↦ none.1 q (omega arith) has
        ],
      )
    ]
  ];
}
