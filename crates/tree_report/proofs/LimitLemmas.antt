-- The first limit that a tree is over, and what a tree within the limits has.
use Rattle.std.proofs.Common.{◌≡◌, ℕ, ◌<◌, ◌≤◌, inl, inr, Bool, true, false, cond, Option, Some, None, List, [], ◌∷◌, length, slice_index_or, All, refl, sym, ◌∙◌, subst, ap, arith, lt-ltb}
use Rattle.std.specs.Prelude.{nat_lt}
use Rattle.std.proofs.lemmas.Bool.{cases_lt}
use Rattle.std.proofs.lemmas.Option.{same_Some}
use Rattle.std.proofs.lemmas.List.Folds.{list_any_at}
use Rattle.gv_base.specs.Files.{Entry}
use Rattle.go_tree.specs.declared.head.Head.{Head}
use Rattle.parse_file.specs.declared.verdict.FileVerdict.{FileVerdict}
use Rattle.import_graph.specs.Packages.{ArePackages}
use Rattle.import_graph.specs.declared.pack.Package.{Package}
use Rattle.analysis_core.specs.declared.reply.TreeLimit.{TreeLimit}
use Rattle.analysis_core.specs.declared.reply.TreeLimit.TheVariants as limit
use Rattle.tree_report.specs.Reading.{AreRead, AreHeads}
use Rattle.tree_report.specs.Limits.{limited_sizes, limits, are_many, some_long, are_heavy, size_limit, HasManyPackages, IsOver, IsFirstOf, IsFirstLimit, IsOverOne, IsWithin}
use Rattle.tree_report.proofs.OnceLemmas.{reading-once}

differ : (b : Bool) → b ≡ true → b ≡ false → ⊥
differ true h k = cc
differ false h k = cc

else-false : (b : Bool) → (b ≡ true → ⊥) → b ≡ false
else-false true h = absurd (h refl)
else-false false h = refl

-- ---- the first limit

-- there is one
first-of : (ls : List TreeLimit) (tree : List Entry) (a b : TreeLimit) → IsFirstOf ls tree a → IsFirstOf ls tree b → a ≡ b
first-of [] tree a b one two = absurd one
first-of (l ∷ ls) tree a b (inl one) (inl two) = sym one.0 ∙ two.0
first-of (l ∷ ls) tree a b (inl one) (inr two) = absurd (two.0 one.1)
first-of (l ∷ ls) tree a b (inr one) (inl two) = absurd (one.0 two.1)
first-of (l ∷ ls) tree a b (inr one) (inr two) = first-of ls tree a b one.1 two.1

pub first-once : (tree : List Entry) (a b : TreeLimit) → IsFirstLimit tree a → IsFirstLimit tree b → a ≡ b
first-once tree a b one two = first-of limits tree a b one two

-- the tree is over it
over-of : (ls : List TreeLimit) (tree : List Entry) (l : TreeLimit) → IsFirstOf ls tree l → IsOver l tree
over-of [] tree l first = absurd first
over-of (m ∷ ls) tree l (inl here) = subst (λ x. IsOver x tree) here.0 here.1
over-of (m ∷ ls) tree l (inr later) = over-of ls tree l later.1

pub not-within : (tree : List Entry) → IsOverOne tree → IsWithin tree → ⊥
not-within tree over within = within over.0 (over-of limits tree over.0 over.1)

-- it is the one that the sizes of files tell
pub first-told : (tree : List Entry) (l : TreeLimit) → size_limit (limited_sizes tree) ≡ Some l → IsFirstLimit tree l
first-told tree l = by (are_many (limited_sizes tree)) (some_long (limited_sizes tree)) (are_heavy (limited_sizes tree)) refl refl refl
  where
    by : (b c d : Bool) → are_many (limited_sizes tree) ≡ b → some_long (limited_sizes tree) ≡ c → are_heavy (limited_sizes tree) ≡ d
        → cond b (Some limit.Files) (cond c (Some limit.FileBytes) (cond d (Some limit.TreeBytes) None)) ≡ Some l → IsFirstLimit tree l
    by true c d h i j e = inl (same_Some limit.Files l e, h)
    by false true d h i j e = inr ((λ over. differ _ over h), inl (same_Some limit.FileBytes l e, i))
    by false false true h i j e = inr ((λ over. differ _ over h), inr ((λ over. differ _ over i), inl (same_Some limit.TreeBytes l e, j)))
    by false false false h i j e = cc

-- where they tell none, files are few and short, and they have few bytes together
record AreLight (sizes : List ℕ) : Type 0 where
  few : are_many sizes ≡ false
  short : some_long sizes ≡ false
  light : are_heavy sizes ≡ false

light-told : (sizes : List ℕ) → size_limit sizes ≡ None → AreLight sizes
light-told sizes = by (are_many sizes) (some_long sizes) (are_heavy sizes) refl refl refl
  where
    by : (b c d : Bool) → are_many sizes ≡ b → some_long sizes ≡ c → are_heavy sizes ≡ d → cond b (Some limit.Files) (cond c (Some limit.FileBytes) (cond d (Some limit.TreeBytes) None)) ≡ None → AreLight sizes
    by true c d h i j e = cc
    by false true d h i j e = cc
    by false false true h i j e = cc
    by false false false h i j e = record { few = h; short = i; light = j }

-- and the first limit is that of packages, if the tree has too many
pub many-told : (tree : List Entry) → size_limit (limited_sizes tree) ≡ None → HasManyPackages tree → IsFirstLimit tree limit.Packages
many-told tree none many =
    let light = light-told (limited_sizes tree) none in
    inr ((λ over. differ _ over light.few), inr ((λ over. differ _ over light.short), inr ((λ over. differ _ over light.light), inl (refl, many))))

-- or else there is none
pub within-told : (tree : List Entry) (verdicts : List (Option FileVerdict)) (heads : List (Option Head)) (packages : List Package) → AreRead tree verdicts → AreHeads tree verdicts heads → ArePackages tree heads packages
    → size_limit (limited_sizes tree) ≡ None → length packages ≤ 1024 → IsWithin tree
within-told tree verdicts heads packages read headed packed none low = within
  where
    within : IsWithin tree
    within limit.Files over = differ _ over (light-told (limited_sizes tree) none).few
    within limit.FileBytes over = differ _ over (light-told (limited_sizes tree) none).short
    within limit.TreeBytes over = differ _ over (light-told (limited_sizes tree) none).light
    within limit.Packages over =
        let same = reading-once tree over.verdicts verdicts over.heads heads over.packages packages over.read read over.headed headed over.packed packed in
        let size : length over.packages ≡ length packages = ap (λ (p : List Package). length p) same.packages in
        let many = over.many in
        omega (arith, size, many, low)

-- ---- what the limits give

pub all-short : (sizes : List ℕ) → some_long sizes ≡ false → All (λ size. size ≤ 4194304) sizes
all-short sizes none n d lt = elim (cases_lt 4194304 (slice_index_or sizes n d)) [
  | inl long ↦ absurd (differ (some_long sizes) (list_any_at (nat_lt 4194304) sizes n d lt (lt-ltb 4194304 (slice_index_or sizes n d) long)) none)
  | inr low ↦ low
]

pub short-told : (sizes : List ℕ) → size_limit sizes ≡ None → All (λ size. size ≤ 4194304) sizes
short-told sizes none = all-short sizes (light-told sizes none).short

pub sizes-short : (tree : List Entry) → IsWithin tree → All (λ size. size ≤ 4194304) (limited_sizes tree)
sizes-short tree within = all-short (limited_sizes tree) (else-false (some_long (limited_sizes tree)) (within limit.FileBytes))

pub sizes-few : (tree : List Entry) → IsWithin tree → length (limited_sizes tree) ≤ 10000
sizes-few tree within = elim (cases_lt 10000 (length (limited_sizes tree))) [ inl many ↦ absurd (within limit.Files (lt-ltb 10000 (length (limited_sizes tree)) many)) | inr low ↦ low ]
