-- More members admit more; only what a body mentions counts.
use Rattle.std.proofs.Common.{◌≡◌, ◌<◌, ◌⊎◌, inl, inr, ℕ, Bool, true, false, cond, List, length, Option, Some, None, refl, sym, ap, ◌∙◌}
use Rattle.std.specs.Prelude.{nat_lt, slice_get}
use Rattle.std.specs.List.{Contains}
use Rattle.std.proofs.Math.Logic.{∥∥₁_elim}
use Rattle.std.proofs.Math.Bool.{Bool-set}
use Rattle.std.proofs.lemmas.Bool.{ltb-true}
use Rattle.flow.specs.Search.{MentionsBy}
use Rattle.flow.proofs.LawLemmas.{never_still_by}
use Rattle.least.specs.Least.{IsMonotone}
use Rattle.never_returns.specs.declared.files.FileFlow.{FileFlow}
use Rattle.never_returns.specs.declared.files.Block.{Block}
use Rattle.never_returns.specs.declared.files.Function.{Function}
use Rattle.never_returns.specs.Bodies.{AdmitsBy, BodyBy, known, AreReaders, row_of, MentionsAt}

either : {A B C : Type 0} → A ⊎ B → (A → C) → (B → C) → C
either (inl a) f g = f a
either (inr b) f g = g b

by_bool : {C : Type 0} (b : Bool) → (b ≡ true → C) → (b ≡ false → C) → C
by_bool true f g = f refl
by_bool false f g = g refl

grows : (a b c : Bool) → (b ≡ true → c ≡ true) → cond a b false ≡ true → cond a c false ≡ true
grows true b c h e = h e
grows false b c h e = e

-- what is known of a body's callees is known by others too
body_more : (files : List FileFlow) (M N : ℕ → Bool) (body : Option Block)
    → ((b : Block) (f : FileFlow) → body ≡ Some b → slice_get files b.file ≡ Some f → (j : ℕ) → MentionsBy f.graph.now f.calls.now b.node j → M j ≡ true → N j ≡ true)
    → BodyBy files M body → BodyBy files N body
body_more files M N None h w = w
body_more files M N (Some b) h w = (w.0, w.1, never_still_by w.0.tree.now w.0.graph.now w.0.calls.now b.node M N (h b w.0 refl w.1) w.2)

pub more_admitted : (files : List FileFlow) (functions : List Function) → IsMonotone (AdmitsBy files functions)
more_admitted files functions M N i within a = (
  a.0,
  a.1,
  either a.2 (λ l. inl l)
      (λ w. inr (body_more files (known (length functions) M) (known (length functions) N) a.0.body
      (λ b f is at j m e. grows (nat_lt j (length functions)) (M j) (N j) (within j) e) w)),
)

pub same_admitted : (files : List FileFlow) (functions : List Function) (rows : List (List ℕ)) → AreReaders files functions rows
    → (M N : ℕ → Bool) (i : ℕ) → ((j : ℕ) → Contains (row_of rows j) i → M j ≡ N j) → AdmitsBy files functions M i → AdmitsBy files functions N i
same_admitted files functions rows r M N i same a = (
  a.0,
  a.1,
  either a.2 (λ l. inl l)
      (λ w. inr (body_more files (known (length functions) M) (known (length functions) N) a.0.body
      (λ b f is at j m e. by_bool (nat_lt j (length functions))
      (λ low.
      let one : M j ≡ N j = ∥∥₁_elim (r.every i j (ltb-true j (length functions) low) (record { function = a.0; block = b; file = f; there = a.1; body = is; at = at; mentions = m }))
      (Bool-set (M j) (N j)) (λ c. same j c) in
      ap (λ x. cond (nat_lt j (length functions)) x false) (sym one) ∙ e)
      (λ high. absurd (no_truth (sym (ap (λ x. cond x (M j) false) high) ∙ e)))) w)),
)
  where
    no_truth : false ≡ true → ⊥
    no_truth e = cc
