-- The order of nodes by the paths of their files.
use Rattle.std.proofs.Common.{◌≡◌, ℕ, zero, suc, ◌<◌, ◌⊎◌, List, true, refl, sym, ap, ◌∙◌, inl, inr, arith}
use Rattle.std.specs.declared.cmp.Ordering.{Ordering}
use Rattle.std.specs.declared.cmp.Ordering.TheVariants.{Less, Equal, Greater}
use Rattle.std.specs.Ordering.{nat_cmp}
use Rattle.std.specs.Cmp.Lexicographic.{slice_cmp}
use Rattle.gv_base.specs.Files.{is_before}
use Rattle.gv_base.proofs.FileLemmas.{after-flip, less-before, same-path}
use Rattle.go_tree.specs.declared.tree.NodeRef.{NodeRef}
use Rattle.bind.specs.Tables.{IsEarlierBy}

pub nat_order : (j k : ℕ) → (j < k) ⊎ ((j ≡ k) ⊎ (k < j))
nat_order zero zero = inr (inl refl)
nat_order zero (suc k) = inl (omega arith)
nat_order (suc j) zero = inr (inr (omega arith))
nat_order (suc j) (suc k) = elim (nat_order j k) [
  | inl low ↦ inl (omega arith)
  | inr other ↦ elim other [ inl same ↦ inr (inl (ap (λ n. suc n) same)) | inr high ↦ inr (inr (omega arith)) ]
]

pub path_order : (p q : List ℕ) → (is_before p q ≡ true) ⊎ ((p ≡ q) ⊎ (is_before q p ≡ true))
path_order p q = at (slice_cmp nat_cmp p q) refl where
  at : (o : Ordering) → slice_cmp nat_cmp p q ≡ o → (is_before p q ≡ true) ⊎ ((p ≡ q) ⊎ (is_before q p ≡ true))
  at Less e = inl (less-before p q e)
  at Equal e = inr (inl (same-path p q e))
  at Greater e = inr (inr (after-flip p q e))

abbrev pub made : ℕ → ℕ → NodeRef
made f n = record { file = f; node = n }

made_same : (f g n m : ℕ) → f ≡ g → n ≡ m → made f n ≡ made g m
made_same f g n m e h = ap (λ x. made x n) e ∙ ap (λ x. made g x) h

pub ref_same : (a b : NodeRef) → a.file ≡ b.file → a.node ≡ b.node → a ≡ b
ref_same a b e f = made_same a.file b.file a.node b.node e f

pub ref_order : (path : ℕ → List ℕ) (a b : NodeRef) → IsEarlierBy path a b ⊎ ((a ≡ b) ⊎ IsEarlierBy path b a)
ref_order path a b = elim (path_order (path a.file) (path b.file)) [
  | inl before ↦ inl (inl before)
  | inr other ↦ elim other [
    | inl same ↦ by_file same
    | inr after ↦ inr (inr (inl after))
  ]
] where
  by_node : path a.file ≡ path b.file → a.file ≡ b.file → IsEarlierBy path a b ⊎ ((a ≡ b) ⊎ IsEarlierBy path b a)
  by_node same file = elim (nat_order a.node b.node) [
    | inl low ↦ inl (inr (same, inr (file, low)))
    | inr other ↦ elim other [ inl node ↦ inr (inl (ref_same a b file node)) | inr high ↦ inr (inr (inr (sym same, inr (sym file, high)))) ]
  ]

  by_file : path a.file ≡ path b.file → IsEarlierBy path a b ⊎ ((a ≡ b) ⊎ IsEarlierBy path b a)
  by_file same = elim (nat_order a.file b.file) [
    | inl low ↦ inl (inr (same, inl low))
    | inr other ↦ elim other [ inl file ↦ by_node same file | inr high ↦ inr (inr (inr (sym same, inl high))) ]
  ]
