-- A node that no node names as a type declares none.
use Rattle.std.proofs.Common.{◌≡◌, ◌<◌, ◌≤◌, ◌+◌, ℕ, zero, suc, nat_eq, nat_lt, Bool, true, false, not, ◌&&◌, ◌||◌, List, [], ◌∷◌, ◌++◌, length, map, replicate, take, set, get_or, Option, Some, None, slice_get, inl, inr, refl, sym, ap, ◌∙◌, subst, arith, get_or-set_other}
use Rattle.std.specs.Prelude.{◌==◌, if◌then◌else◌}
use Rattle.std.specs.Option.{option_map_or}
use Rattle.std.specs.List.{list_any, range_with_len}
use Rattle.std.proofs.lemmas.Bool.{eqb-true, eq-eqb, cases_lt}
use Rattle.std.proofs.lemmas.List.{length-set, length-replicate, get_or-replicate, get_or-set_same, get_or_past, take_all}
use Rattle.std.proofs.lemmas.List.Folds.{list_any_more}
use Rattle.std.proofs.lemmas.List.FromFn.{fill_by_all, length-map-range_with_len, get_or-map-range_with_len}
use Rattle.std.proofs.lemmas.Option.{slice_get_within}
use Rattle.gv_base.proofs.Lists.{same_some}
use Rattle.go_tree.specs.declared.tree.Node.{Node}
use Rattle.go_tree.specs.declared.tree.NodeRef.{NodeRef}
use Rattle.object_order.specs.Spots.{place}
use Rattle.package_objects.specs.Declares.{gather, part}
use Rattle.mark_walk.specs.Asks.{done}
use Rattle.typed_marks.specs.declared.item.Stage.TheVariants as s
use Rattle.typed_marks.specs.Meanings.{Quiet}
use Rattle.unit_read.specs.declared.passage.Passage.{Passage}
use Rattle.unit_read.specs.Units.{Unit, nodes_at, node_at, passage_at, is_among, is_defined_node, named, defined_by, defined_at, defined_in, defined}
use Rattle.rule_words.specs.Asking.{item}
use Rattle.go_rules.specs.Quiet.{is_quiet_own, is_quiet_node, is_quiet_nth, is_quiet_passage, is_quiet}
use Rattle.go_rules.specs.Stages.{rule}
use Rattle.go_rules.specs.Unnamed.{type_named, names_type, unnamed, unnamed_passage, unnamed_in}
use Rattle.go_rules.proofs.QuietLemmas.{quiet_rule}

-- ---- flags

pub set_past : (flags : List Bool) (n : ℕ) → length flags ≤ n → set flags n false ≡ flags
set_past [] zero high = refl
set_past [] (suc n) high = refl
set_past (x ∷ flags) zero high = absurd (omega (arith, high))
set_past (x ∷ flags) (suc n) high = ap (λ (l : List Bool). x ∷ l) (set_past flags n (omega (arith, high)))

apart : true ≡ false → ⊥
apart e = cc

-- ---- lists of nodes

no_part : (a b : Bool) → b ≡ false → (a && b) ≡ false
no_part true b is = is
no_part false b is = refl

neither : (a b : Bool) → a ≡ false → b ≡ false → (a || b) ≡ false
neither true b one other = absurd (apart one)
neither false b one other = other

first_none : (a b : Bool) → (a || b) ≡ false → a ≡ false
first_none true b is = is
first_none false b is = refl

rest_none : (a b : Bool) → (a || b) ≡ false → b ≡ false
rest_none true b is = absurd (apart is)
rest_none false b is = is

joined : (at : NodeRef) (xs ys : List NodeRef) → is_among at xs ≡ false → is_among at ys ≡ false → is_among at (xs ++ ys) ≡ false
joined at [] ys one other = other
joined at (x ∷ xs) ys one other =
    let here = nat_eq at.file x.file && nat_eq at.node x.node in
    neither here (is_among at (xs ++ ys)) (first_none here (is_among at xs) one) (joined at xs ys (rest_none here (is_among at xs) one) other)

gathered : (at : NodeRef) (g : ℕ → List NodeRef) (n : ℕ) → ((k : ℕ) → is_among at (g k) ≡ false) → is_among at (gather g n) ≡ false
gathered at g zero each = refl
gathered at g (suc n) each = joined at (gather g n) (g n) (gathered at g n each) (each n)

-- ---- flags of the names of types

-- none of some nodes names the node n as a type
abbrev flag_by : List Node → ℕ → Bool
flag_by some n = not (list_any (names_type n) some)

-- the flags of so many nodes by some of them
abbrev pub unnamed_by : List Node → ℕ → List Bool
unnamed_by some count = map (flag_by some) (range_with_len 0 count)

pub none_named : (count : ℕ) → replicate count true ≡ unnamed_by [] count
none_named count = fill_by_all (flag_by []) (replicate count true) count false (length-replicate count true) (λ k low. get_or-replicate count k true false low)

long_cleared : (o : Option ℕ) (flags : List Bool) → length (option_map_or (λ n. set flags n false) o flags) ≡ length flags
long_cleared None flags = refl
long_cleared (Some m) flags = length-set flags m false

or_false : (b : Bool) → (b || false) ≡ b
or_false true = refl
or_false false = refl

or_true : (b : Bool) → (b || true) ≡ true
or_true true = refl
or_true false = refl

-- the flag of n where the flag of a name goes
cleared : (o : Option ℕ) (flags : List Bool) (n : ℕ) (before : Bool) → n < length flags → get_or flags n false ≡ not before
    → get_or (option_map_or (λ m. set flags m false) o flags) n false ≡ not (before || option_map_or (λ m. n == m) o false)
cleared None flags n before low is = is ∙ ap not (sym (or_false before))
cleared (Some m) flags n before low is = by (nat_eq n m) refl where
  by : (same : Bool) → nat_eq n m ≡ same → get_or (set flags m false) n false ≡ not (before || nat_eq n m)
  by true e =
      ap (λ (k : ℕ). get_or (set flags k false) n false) (sym (eqb-true n m e)) ∙ get_or-set_same flags n false false low
      ∙ sym (ap (λ (b : Bool). not (before || b)) e ∙ ap not (or_true before))
  by false e =
      get_or-set_other flags m n false false (λ (q : n ≡ m). apart (sym (eq-eqb n m q) ∙ e)) ∙ is
      ∙ sym (ap (λ (b : Bool). not (before || b)) e ∙ ap not (or_false before))

-- one node more
pub named_more : (nodes : List Node) (k count : ℕ) (d : Node) (flags new : List Bool) → k < length nodes → flags ≡ unnamed_by (take k nodes) count
    → new ≡ option_map_or (λ n. set flags n false) (type_named (get_or nodes k d)) flags → new ≡ unnamed_by (take (k + 1) nodes) count
named_more nodes k count d flags new low were is =
    is ∙ fill_by_all (flag_by (take (k + 1) nodes)) (option_map_or (λ n. set flags n false) (type_named (get_or nodes k d)) flags) count false
    (long_cleared (type_named (get_or nodes k d)) flags ∙ long) (λ n under. each n under)
  where
    long : length flags ≡ count
    long = ap (λ (l : List Bool). length l) were ∙ length-map-range_with_len (flag_by (take k nodes)) 0 count

    each : (n : ℕ) → n < count → get_or (option_map_or (λ m. set flags m false) (type_named (get_or nodes k d)) flags) n false ≡ flag_by (take (k + 1) nodes) n
    each n under =
        cleared (type_named (get_or nodes k d)) flags n (list_any (names_type n) (take k nodes)) (omega (arith, long))
        (ap (λ (l : List Bool). get_or l n false) were ∙ get_or-map-range_with_len (flag_by (take k nodes)) 0 count n n false under (omega arith))
        ∙ ap not (sym (list_any_more (names_type n) nodes k d low))

pub named_all : (nodes : List Node) (k : ℕ) (flags : List Bool) → length nodes ≤ k → flags ≡ unnamed_by (take k nodes) (length nodes) → flags ≡ unnamed nodes
named_all nodes k flags past is = is ∙ ap (λ (l : List Node). unnamed_by l (length nodes)) (take_all k nodes past)

past_none : (flags : List Bool) (n : ℕ) → get_or flags n false ≡ true → n < length flags
past_none flags n is = elim (cases_lt n (length flags)) [
  | inl low ↦ low
  | inr past ↦ absurd (apart (sym is ∙ get_or_past flags n false past))
]

unset_not : (b : Bool) → not b ≡ true → b ≡ false
unset_not true e = sym e
unset_not false e = refl

-- no node names it
pub unnamed_none : (nodes : List Node) (n : ℕ) → get_or (unnamed nodes) n false ≡ true → list_any (names_type n) nodes ≡ false
unnamed_none nodes n is =
    let low : n < length nodes = omega (arith, past_none (unnamed nodes) n is, length-map-range_with_len (flag_by nodes) 0 (length nodes)) in
    unset_not (list_any (names_type n) nodes) (sym (get_or-map-range_with_len (flag_by nodes) 0 (length nodes) n n false low (omega arith)) ∙ is)

none_at : (test : Node → Bool) (nodes : List Node) (k : ℕ) (node : Node) → list_any test nodes ≡ false → slice_get nodes k ≡ Some node → test node ≡ false
none_at test (x ∷ nodes) zero node none at = ap test (sym (same_some (Some x) x node refl at)) ∙ first_none (test x) (list_any test nodes) none
none_at test (x ∷ nodes) (suc k) node none at = none_at test nodes k node (rest_none (test x) (list_any test nodes) none) at
none_at test [] k node none at = absurd (let low = slice_get_within [] k node at in omega (arith, low))

-- ---- in a file

module _ (f : ℕ) (nodes : List Node) (n : ℕ) where
  other_node : (m : ℕ) (o : Option Node) → nat_eq n m ≡ false → is_among (place f n) (option_map_or (λ (node : Node). place f m ∷ []) o []) ≡ false
  other_node m None apart = refl
  other_node m (Some node) apart = neither (nat_eq f f && nat_eq n m) false (no_part (nat_eq f f) (nat_eq n m) apart) refl

  by : (defines : Bool) (o : Option ℕ) → option_map_or (λ name. n == name) (if defines then o else None) false ≡ false → is_among (place f n) (if defines then named f nodes o else []) ≡ false
  by true (Some m) is = other_node m (slice_get nodes m) is
  by true None is = refl
  by false o is = refl

  step : (o : Option Node) → ((node : Node) → o ≡ Some node → names_type n node ≡ false) → is_among (place f n) (option_map_or (defined_by f nodes) o []) ≡ false
  step None none = refl
  step (Some node) none = by (is_defined_node node.kind) (part node 0) (none node refl)

  among_left : (k : ℕ) → get_or (unnamed nodes) n false ≡ true → is_among (place f n) (gather (defined_at f nodes) k) ≡ false
  among_left k is = gathered (place f n) (defined_at f nodes) k (λ m. step (slice_get nodes m) (λ node at. none_at (names_type n) nodes m node (unnamed_none nodes n is) at))

-- ---- in a package

-- what another file defines
module _ (f n g : ℕ) (nodes : List Node) (apart : nat_eq f g ≡ false) where
  elsewhere_node : (m : ℕ) (o : Option Node) → is_among (place f n) (option_map_or (λ (node : Node). place g m ∷ []) o []) ≡ false
  elsewhere_node m None = refl
  elsewhere_node m (Some node) = ap (λ (b : Bool). b && nat_eq n m || false) apart

  elsewhere_named : (defines : Bool) (o : Option ℕ) → is_among (place f n) (if defines then named g nodes o else []) ≡ false
  elsewhere_named true (Some m) = elsewhere_node m (slice_get nodes m)
  elsewhere_named true None = refl
  elsewhere_named false o = refl

  elsewhere_at : (o : Option Node) → is_among (place f n) (option_map_or (defined_by g nodes) o []) ≡ false
  elsewhere_at None = refl
  elsewhere_at (Some node) = elsewhere_named (is_defined_node node.kind) (part node 0)

  elsewhere : is_among (place f n) (gather (defined_at g nodes) (length nodes)) ≡ false
  elsewhere = gathered (place f n) (defined_at g nodes) (length nodes) (λ k. elsewhere_at (slice_get nodes k))

module _ (u : Unit) (f n : ℕ) (is : get_or (unnamed (nodes_at u f)) n false ≡ true) where
  in_file : (g : ℕ) (same : Bool) → nat_eq f g ≡ same → is_among (place f n) (defined_in u g) ≡ false
  in_file g true same = subst (λ (k : ℕ). is_among (place f n) (defined_in u k) ≡ false) (eqb-true f g same) (among_left f (nodes_at u f) n (length (nodes_at u f)) is)
  in_file g false same = elsewhere f n g (nodes_at u g) same

  none_among : is_among (place f n) (defined u) ≡ false
  none_among = gathered (place f n) (defined_in u) (length u.trees) (λ g. in_file g (nat_eq f g) refl)

-- ---- items

module _ (u : Unit) (block n : ℕ) where
  in_own : (p : Passage) (own : Bool) → get_or (if own then unnamed (nodes_at u p.file) else []) n false ≡ true → (if own then not (is_among (place p.file n) (defined u)) else true) ≡ true
  in_own p true is = ap not (none_among u p.file n is)
  in_own p false is = refl

  at_node : (p : Passage) (o : Option Node) → get_or (unnamed_passage u block p) n false ≡ true → option_map_or (is_quiet_node u (item s.Under block n) (place p.file n)) o true ≡ true
  at_node p None is = refl
  at_node p (Some node) is = in_own p (block == p.file) is

  numbered : (p : Passage) (within : Bool) → get_or (unnamed_passage u block p) n false ≡ true
      → option_map_or (is_quiet_nth u (item s.Under block n) p.file) (if within then Some n else None) true ≡ true
  numbered p true is = at_node p (node_at u (place p.file n)) is
  numbered p false is = refl

  in_passage : (o : Option Passage) → get_or (option_map_or (unnamed_passage u block) o []) n false ≡ true → option_map_or (is_quiet_passage u (item s.Under block n)) o true ≡ true
  in_passage None is = refl
  in_passage (Some p) is = numbered p (nat_lt n 4294967296) is

  pub unnamed_quiet : get_or (unnamed_in u block) n false ≡ true → rule u (item s.Under block n) ≡ done Quiet
  unnamed_quiet is = quiet_rule u (item s.Under block n) (in_passage (passage_at u block) is)
