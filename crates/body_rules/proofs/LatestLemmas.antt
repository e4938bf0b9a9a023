-- The last declaration before each node, one node more.
use Rattle.std.proofs.Common.{◌≡◌, ℕ, zero, suc, ◌<◌, ◌+◌, List, [], ◌∷◌, ◌++◌, length, get_or, Option, Some, None, refl, sym, ap, ◌∙◌, subst, inl, inr, arith}
use Rattle.go_tree.specs.declared.tree.Node.{Node}
use Rattle.node_values.proofs.CaseLemmas.{before_or_at}
use Rattle.body_rules.specs.Latest.{IsLatest, IsTable, AreLatest}

pub kept : {X : Type 0} (xs : List X) (y d : X) (k : ℕ) → k < length xs → get_or (xs ++ y ∷ []) k d ≡ get_or xs k d
kept [] y d k low = absurd (omega arith)
kept (x ∷ xs) y d zero low = refl
kept (x ∷ xs) y d (suc k) low = kept xs y d k (omega arith)

pub pushed : {X : Type 0} (xs : List X) (y d : X) → get_or (xs ++ y ∷ []) (length xs) d ≡ y
pushed [] y d = refl
pushed (x ∷ xs) y d = pushed xs y d

pub longer : {X : Type 0} (xs : List X) (y : X) → length (xs ++ y ∷ []) ≡ length xs + 1
longer [] y = refl
longer (x ∷ xs) y = let e = longer xs y in omega arith

pub found_more : (nodes : List Node) (blocks table found new : List (Option ℕ)) (n : ℕ) (latest : Option ℕ) → new ≡ found ++ latest ∷ []
    → ((b : ℕ) → get_or blocks n None ≡ Some b → latest ≡ get_or table b None) → IsTable nodes blocks n table → AreLatest nodes blocks n found → AreLatest nodes blocks (n + 1) new
found_more nodes blocks table found new n latest is told tab was = subst (λ l. AreLatest nodes blocks (n + 1) l) (sym is) record {
  size = longer found latest ∙ (let s = was.size in omega arith);
  each = λ m b less at low. elim (before_or_at m n less) [
    | inl before ↦ subst (λ o. IsLatest nodes blocks b m o) (sym (kept found latest None m (let s = was.size in omega arith))) (was.each m b before at low)
    | inr same ↦ here m b same at low
  ];
} where
  here : (m b : ℕ) → m ≡ n → get_or blocks m None ≡ Some b → b < length nodes → IsLatest nodes blocks b m (get_or (found ++ latest ∷ []) m None)
  here m b same at low =
      subst (λ k. IsLatest nodes blocks b k (get_or (found ++ latest ∷ []) k None)) (sym same)
      (subst (λ o. IsLatest nodes blocks b n o)
      (sym (ap (λ k. get_or (found ++ latest ∷ []) k None) (sym was.size) ∙ (pushed found latest None ∙ told b (ap (λ k. get_or blocks k None) (sym same) ∙ at))))
      (tab.each b low))
