-- One file more whose uses can be bound.
use Rattle.std.proofs.Common.{◌≡◌, ℕ, zero, suc, ◌+◌, ◌<◌, ◌≤◌, ◌^◌, ◌⊎◌, List, [], ◌∷◌, ◌++◌, length, slice_get, Some, refl, sym, ap, ◌∙◌, subst, inl, inr, arith}
use Rattle.std.proofs.lemmas.List.{length-append}
use Rattle.std.proofs.lemmas.Option.{same_Some, slice_get_within}
use Rattle.go_tree.specs.declared.token.Token.{Token}
use Rattle.go_tree.specs.declared.tree.FileTree.{FileTree}
use Rattle.go_tree.specs.Pieces.{Spelled}
use Rattle.parse_file.specs.Verdict.{IsParsed}
use Rattle.conformance.specs.Ready.{AreReady}

-- a tree that is parsed is spelled by its own tokens
pub parsed_spelled : (text : List ℕ) (t : FileTree) → IsParsed text t → Spelled t.tokens text t
parsed_spelled text t p = subst (λ (ts : List Token). Spelled ts text t) (ap (λ (u : FileTree). u.tokens) p.spelled.arena) p.spelled

pub none_ready : (files : List FileTree) (sources : List (List ℕ × List ℕ)) → files ≡ [] → sources ≡ [] → AreReady files sources
none_ready files sources no_files no_sources = record {
  spelled = record {
    size = ap length no_files ∙ sym (ap length no_sources);
    spelled = λ i t e there source. absurd (none i t there);
  };
  small = λ i t there. absurd (none i t there);
} where
  none : (i : ℕ) (t : FileTree) → slice_get files i ≡ Some t → ⊥
  none i t there = let e : slice_get [] i ≡ Some t = ap (λ l. slice_get l i) (sym no_files) ∙ there in cc

get_pushed : {X : Type 0} (xs : List X) (y z : X) (k : ℕ) → slice_get (xs ++ y ∷ []) k ≡ Some z → (slice_get xs k ≡ Some z) ⊎ ((k ≡ length xs) × (y ≡ z))
get_pushed [] y z zero e = inr (refl, same_Some y z e)
get_pushed [] y z (suc k) e = absurd (cc)
get_pushed (x ∷ xs) y z zero e = inl e
get_pushed (x ∷ xs) y z (suc k) e = elim (get_pushed xs y z k e) [
  | inl before ↦ inl before
  | inr here ↦ inr (ap suc here.0, here.1)
]

-- both lists have one more
pub pushed_ready : (files more_files : List FileTree) (sources more_sources : List (List ℕ × List ℕ)) (tree : FileTree) (source : List ℕ × List ℕ) (text : List ℕ)
    → more_files ≡ files ++ tree ∷ [] → more_sources ≡ sources ++ source ∷ [] → source.1 ≡ text → Spelled tree.tokens text tree → length tree.nodes ≤ 2 ^ 32
    → AreReady files sources → AreReady more_files more_sources
pushed_ready files more_files sources more_sources tree source text is_files is_sources of_text spelled small ready =
    subst (λ (fs : List FileTree). AreReady fs more_sources) (sym is_files) (subst (λ (es : List (List ℕ × List ℕ)). AreReady (files ++ tree ∷ []) es) (sym is_sources) (record {
      spelled = record {
        size = length-append files (tree ∷ []) ∙ ap (λ n. n + 1) ready.spelled.size ∙ sym (length-append sources (source ∷ []));
        spelled = λ i t e at_tree at_source. each i t e (get_pushed files tree t i at_tree) (get_pushed sources source e i at_source);
      };
      small = λ i t at_tree. elim (get_pushed files tree t i at_tree) [
        | inl before ↦ ready.small i t before
        | inr here ↦ subst (λ (u : FileTree). length u.nodes ≤ 2 ^ 32) here.1 small
      ];
    })) where
      this : Spelled tree.tokens source.1 tree
      this = subst (λ (b : List ℕ). Spelled tree.tokens b tree) (sym of_text) spelled

      each : (i : ℕ) (t : FileTree) (e : List ℕ × List ℕ) → (slice_get files i ≡ Some t) ⊎ ((i ≡ length files) × (tree ≡ t)) → (slice_get sources i ≡ Some e) ⊎ ((i ≡ length sources) × (source ≡ e))
          → Spelled t.tokens e.1 t
      each i t e (inl a) (inl b) = ready.spelled.spelled i t e a b
      each i t e (inl a) (inr b) = absurd (let w = slice_get_within files i t a in let s = ready.spelled.size in let h = b.0 in omega arith)
      each i t e (inr a) (inl b) = absurd (let w = slice_get_within sources i e b in let s = ready.spelled.size in let h = a.0 in omega arith)
      each i t e (inr a) (inr b) = subst (λ (u : FileTree). Spelled u.tokens e.1 u) a.1 (subst (λ (x : List ℕ × List ℕ). Spelled tree.tokens x.1 tree) b.1 this)
