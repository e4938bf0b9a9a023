-- What a reply says has one order, so that a reply has one JSON.
use Rattle.std.proofs.Common.{◌≡◌, ℕ, suc, ◌+◌, ◌<◌, ◌≤◌, Bool, true, false, cond, List, [], ◌∷◌, ◌++◌, length, get_or, nat_eq, nat_lt, Option, Some, None, IsPermutation, IsSorted, refl, sym, ap, ◌∙◌, subst, arith, ne_eqb, eq-eqb}
use Rattle.std.specs.Cmp.{IsTotalOrder}
use Rattle.std.specs.List.{AllByRecursion, IsDistinct}
use Rattle.std.specs.List.Sorted.{IsStrictlySortedBy}
use Rattle.std.specs.Option.{option_map_or}
use Rattle.std.specs.Ordering.{on, is_lt, ordering_reverse}
use Rattle.std.specs.declared.cmp.Ordering.{Ordering}
use Rattle.std.specs.declared.cmp.Ordering.TheVariants.{Less, Equal, Greater}
use Rattle.std.proofs.lemmas.Cmp.{then_total, on_total, on_equiv, nat_cmp_total, nat_eq_equiv, nat_list_cmp_total}
use Rattle.std.proofs.lemmas.List.Sorted.{Contains-permutation, IsPermutation-sym}
use Rattle.std.proofs.lemmas.Map.Keys.{IsDistinct-cons, IsDistinct-IsPermutation, apart_from_distinct, sorted_from_all_adjacent}
use Rattle.std.proofs.lemmas.Map.Lookups.{exact_unsigned}
use Rattle.gv_base.specs.Files.{Entry}
use Rattle.analysis_core.specs.declared.reply.ErrorLine.{ErrorLine}
use Rattle.analysis_core.specs.declared.reply.FoundLine.{FoundLine}
use Rattle.analysis_core.specs.declared.reply.Reply.{Reply}
use Rattle.analysis_core.specs.declared.reply.TreeLimit.{TreeLimit}
use Rattle.analysis_core.specs.declared.said.Said.{Said}
use Rattle.analysis_core.specs.JsonReplies.{key_text, error_said, diagnostic_said, errors_said, found_said, all_said, said_order, json_line, IsJsonLine, IsJson}
use Rattle.analysis_core.specs.Replies.{limit_line}
use Rattle.analysis_core.proofs.OneLemmas.{one_sorted}
use Rattle.analysis_core.proofs.OrderLemmas.{second_ties}

pub found_so : (b : Bool) → cond b true (nat_lt 0 0) ≡ b
found_so true = refl
found_so false = refl

pub said_total : IsTotalOrder said_order
said_total =
    then_total (on_total (λ (s : Said). s.package) nat_list_cmp_total)
    (then_total (on_total (λ (s : Said). key_text s.key) nat_list_cmp_total)
    (on_total (λ (s : Said). s.number) nat_cmp_total))

-- ---- the numbers of what is said differ

abbrev number : Said → ℕ
number s = s.number

abbrev same : Said → Said → Bool
same = on number nat_eq

all_join : (P : Said → Type 0) (xs ys : List Said) → AllByRecursion P xs → AllByRecursion P ys → AllByRecursion P (xs ++ ys)
all_join P [] ys a b = b
all_join P (x ∷ xs) ys a b = (a.0, all_join P xs ys a.1 b)

errors_from : (m n : ℕ) (es : List ErrorLine) → m ≤ n → AllByRecursion (λ s. m ≤ number s) (errors_said n es)
errors_from m n [] le = tt
errors_from m n (e ∷ es) le = (le, errors_from m (n + 1) es (omega (arith, le)))

found_from : (m n : ℕ) (ls : List FoundLine) → m ≤ n → AllByRecursion (λ s. m ≤ number s) (found_said n ls)
found_from m n [] le = tt
found_from m n (l ∷ ls) le = (le, found_from m (n + 1) ls (omega (arith, le)))

apart : (s : Said) (n : ℕ) (ts : List Said) → number s < n → AllByRecursion (λ t. n ≤ number t) ts → AllByRecursion (λ t. same s t ≡ false) ts
apart s n [] lt h = tt
apart s n (t ∷ ts) lt h = (ne_eqb s.number t.number (differ s.number t.number n lt h.0), apart s n ts lt h.1)
  where
    differ : (a b n : ℕ) → a < n → n ≤ b → a ≡ b → ⊥
    differ a b n lt le e = omega (arith, lt, le, e)

none_distinct : IsDistinct same []
unfolding IsDistinct
none_distinct = tt

below_next : (n : ℕ) → n < n + 1
below_next n = omega arith

found_distinct : (n : ℕ) (ls : List FoundLine) → IsDistinct same (found_said n ls)
found_distinct n [] = none_distinct
found_distinct n (l ∷ ls) =
    IsDistinct-cons same (diagnostic_said n l) (found_said (n + 1) ls)
    (apart (diagnostic_said n l) (n + 1) (found_said (n + 1) ls) (below_next n) (found_from (n + 1) (n + 1) ls (omega arith)))
    (found_distinct (n + 1) ls)

one_later : (n k : ℕ) → n + 1 + k ≡ n + suc k
one_later n k =
    let next : suc k ≡ k + 1 = omega arith in
    let joined : n + 1 + k ≡ n + (k + 1) = omega arith in
    joined ∙ ap (λ x. n + x) (sym next)

both_distinct : (n : ℕ) (es : List ErrorLine) (ls : List FoundLine) → IsDistinct same (errors_said n es ++ found_said (n + length es) ls)
both_distinct n [] ls = found_distinct (n + 0) ls
both_distinct n (e ∷ es) ls =
    subst (λ k. IsDistinct same (error_said n e ∷ (errors_said (n + 1) es ++ found_said k ls))) (one_later n (length es))
    (IsDistinct-cons same (error_said n e) (errors_said (n + 1) es ++ found_said (n + 1 + length es) ls)
    (apart (error_said n e) (n + 1) (errors_said (n + 1) es ++ found_said (n + 1 + length es) ls) (below_next n)
    (all_join (λ s. n + 1 ≤ number s) (errors_said (n + 1) es) (found_said (n + 1 + length es) ls)
    (errors_from (n + 1) (n + 1) es (omega arith)) (found_from (n + 1) (n + 1 + length es) ls (omega arith))))
    (both_distinct (n + 1) es ls))

all_distinct : (r : Reply) → IsDistinct same (all_said r)
all_distinct r =
    let from : 0 + length r.errors ≡ length r.errors = omega arith in
    subst (λ k. IsDistinct same (errors_said 0 r.errors ++ found_said k r.diagnostics)) from (both_distinct 0 r.errors r.diagnostics)

-- ---- so each comes before the next

less_of : (o p : Ordering) → o ≡ ordering_reverse p → is_lt p ≡ false → (o ≡ Equal → ⊥) → o ≡ Less
less_of Less p e low other = refl
less_of Equal p e low other = absurd (other refl)
less_of Greater Less e low other = absurd cc
less_of Greater Equal e low other = absurd cc
less_of Greater Greater e low other = absurd cc

not_both : (b : Bool) → b ≡ true → b ≡ false → ⊥
not_both true h k = cc
not_both false h k = cc

same_ties : (s t : Said) → said_order s t ≡ Equal → same s t ≡ true
same_ties s t e = eq-eqb s.number t.number (exact_unsigned s.number t.number (second_ties _ _ (second_ties _ _ e)))

before_next : (s t : Said) → is_lt (said_order t s) ≡ false → same s t ≡ false → said_order s t ≡ Less
before_next s t low other = less_of (said_order s t) (said_order t s) (said_total.antisymm s t) low (λ e. not_both (same s t) (same_ties s t e) other)

none_sorted : IsStrictlySortedBy said_order []
unfolding IsStrictlySortedBy
none_sorted = tt

strict : (said : List Said) → IsDistinct same said → IsSorted said_order said → IsStrictlySortedBy said_order said
strict [] distinct sorted = none_sorted
strict (s ∷ ss) distinct sorted =
    sorted_from_all_adjacent said_total (s ∷ ss) s
    (λ k lt. before_next (get_or (s ∷ ss) k s) (get_or (s ∷ ss) (k + 1) s) (sorted k s (omega arith) lt)
    (apart_from_distinct same (s ∷ ss) k (k + 1) s distinct (omega arith) lt))

one_said : (all a b : List Said) → IsDistinct same all → IsPermutation all a → IsSorted said_order a → IsPermutation all b → IsSorted said_order b → a ≡ b
one_said all a b distinct p s q t =
    let flips : (x y : Said) → same x y ≡ same y x = (on_equiv number nat_eq_equiv).symm in
    one_sorted said_total a b
    (strict a (IsDistinct-IsPermutation same flips all a p distinct) s)
    (strict b (IsDistinct-IsPermutation same flips all b q distinct) t)
    (λ d c. Contains-permutation all b d q (Contains-permutation a all d (IsPermutation-sym all a p) c))
    (λ d c. Contains-permutation all a d p (Contains-permutation b all d (IsPermutation-sym all b q) c))

line_once : (files : List Entry) (r : Reply) (a b : List ℕ) → IsJsonLine files r a → IsJsonLine files r b → a ≡ b
line_once files r a b p q =
    p.line ∙ (ap (json_line files) (one_said (all_said r) p.said q.said (all_distinct r) p.all p.order q.all q.order) ∙ sym q.line)

limit_only : (r : Reply) (l : TreeLimit) (bytes : List ℕ) → r.limit ≡ Some l → option_map_or (λ x. limit_line x) r.limit bytes ≡ bytes → limit_line l ≡ bytes
limit_only r l bytes is over = subst (λ (o : Option TreeLimit). option_map_or (λ x. limit_line x) o bytes ≡ bytes) is over

pub json_once : (files : List Entry) (r : Reply) (a b : List ℕ) → IsJson files r a → IsJson files r b → a ≡ b
json_once files r a b p q = by r.limit refl
  where
    by : (limit : Option TreeLimit) → r.limit ≡ limit → a ≡ b
    by None e = line_once files r a b (p.within e) (q.within e)
    by (Some l) e = sym (limit_only r l a e p.over) ∙ limit_only r l b e q.over
