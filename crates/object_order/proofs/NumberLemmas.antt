-- Numbers of names, given one by one.
use Rattle.std.proofs.Common.{◌≡◌, ℕ, ◌+◌, ◌<◌, ◌≤◌, ◌⊎◌, Bool, true, false, if◌then◌else◌, List, [], length, slice_get, Option, Some, None, unwrap_or, refl, sym, ap, ◌∙◌, subst, inl, inr, arith}
use Rattle.std.specs.HashMap.{HashMap}
use Rattle.std.specs.Map.{lookup}
use Rattle.std.proofs.lemmas.Option.{slice_get_within}
use Rattle.go_tree.specs.declared.tree.NodeRef.{NodeRef}
use Rattle.object_order.specs.declared.spot.Entry.{Entry}
use Rattle.object_order.specs.Views.{number_in, same_key}
use Rattle.object_order.specs.Names.{AreNamed, AddsName, IsKeyAt}
use Rattle.object_order.specs.Searches.{IsKept}
use Rattle.object_order.proofs.SpotLemmas.{same_place, key_parts, key_itself}
use Rattle.gv_base.proofs.Lists.{same_some}

cases_of : (b : Bool) → (b ≡ true) ⊎ (b ≡ false)
cases_of true = inl refl
cases_of false = inr refl

-- the key has a number
known : (old : ℕ × ℕ → Option ℕ) (key q : ℕ × ℕ) (n k : ℕ) (same : Bool) → same_key key q ≡ same → old key ≡ Some n → old q ≡ (if same then Some (unwrap_or (old key) k) else old q)
known old key q n k true e is = ap old (sym (key_parts key q e)) ∙ (is ∙ ap (λ o. Some (unwrap_or o k)) (sym is))
known old key q n k false e is = refl

pub adds_known : {S : Type 0} (numbers : HashMap (ℕ × ℕ) ℕ S) (key : ℕ × ℕ) (n k : ℕ) → Some n ≡ number_in numbers key → AddsName numbers numbers key k
adds_known numbers key n k is = λ q. known (number_in numbers) key q n k (same_key key q) refl (sym is)

fresh : (old : ℕ × ℕ → Option ℕ) (key q : ℕ × ℕ) (k : ℕ) (new : Option ℕ) (same : Bool) → old key ≡ None → new ≡ (if same then Some k else old q) → new ≡ (if same then Some (unwrap_or (old key) k) else old q)
fresh old key q k new true none is = is ∙ ap (λ o. Some (unwrap_or o k)) (sym none)
fresh old key q k new false none is = is

pub adds_fresh : {S : Type 0} (old new : HashMap (ℕ × ℕ) ℕ S) (key : ℕ × ℕ) (k : ℕ) → None ≡ number_in old key → IsKept (number_in old) (number_in new) key k → AddsName old new key k
adds_fresh old new key k none kept = λ q. fresh (number_in old) key q k (number_in new q) (same_key key q) (sym none) (kept q)

-- the names of the first few declarations have numbers
pub record AreNamedBelow {S : Type 0} (entries : List Entry) (numbers : HashMap (ℕ × ℕ) ℕ S) (k : ℕ) : Type 0 where
  pub has : (i : ℕ) (e : Entry) → i < k → slice_get entries i ≡ Some e → (n : ℕ) × (number_in numbers (e.name.file, e.name.node) ≡ Some n)
  pub «is» : (n : ℕ) (at : NodeRef) → number_in numbers (at.file, at.node) ≡ Some n → (e : Entry) × (slice_get entries n ≡ Some e) × (e.name ≡ at)
  pub low : (n : ℕ) (q : ℕ × ℕ) → number_in numbers q ≡ Some n → n < k
  pub first : (n j : ℕ) (e : Entry) → number_in numbers (e.name.file, e.name.node) ≡ Some n → j < k → slice_get entries j ≡ Some e → n ≤ j

pub named_none : {S : Type 0} (entries : List Entry) (numbers : HashMap (ℕ × ℕ) ℕ S) → numbers.entries ≡ [] → AreNamedBelow entries numbers 0
named_none entries numbers bare = record {
  has = λ i e low at. absurd (omega arith);
  «is» = λ n at is. absurd (no_number n (sym (none (at.file, at.node)) ∙ is));
  low = λ n q is. absurd (no_number n (sym (none q) ∙ is));
  first = λ n j e is low at. absurd (omega arith);
} where
  none : (q : ℕ × ℕ) → number_in numbers q ≡ None
  none q = ap (λ (es : List ((ℕ × ℕ) × ℕ)). lookup (same_key q) es) bare

  no_number : (n : ℕ) → None ≡ Some n → ⊥
  no_number n e = cc

split : (i k : ℕ) → i < k + 1 → (i < k) ⊎ (i ≡ k)
split i k h = grind arith

-- what the numbers say of a pair after one more
here_or_old : (old : ℕ × ℕ → Option ℕ) (key q : ℕ × ℕ) (k : ℕ) (new : Option ℕ) (same : Bool) → same_key key q ≡ same → new ≡ (if same then Some (unwrap_or (old key) k) else old q)
    → ((key ≡ q) × (new ≡ Some (unwrap_or (old key) k))) ⊎ (new ≡ old q)
here_or_old old key q k new true e is = inl (key_parts key q e, is)
here_or_old old key q k new false e is = inr is

from_old : (o : Option ℕ) (k n : ℕ) → Some (unwrap_or o k) ≡ Some n → (o ≡ Some n) ⊎ ((o ≡ None) × (k ≡ n))
from_old None k n e = inr (refl, cc)
from_old (Some x) k n e = inl e

pub named_more : {S T : Type 0} (entries : List Entry) (old : HashMap (ℕ × ℕ) ℕ S) (new : HashMap (ℕ × ℕ) ℕ T) (key : ℕ × ℕ) (k : ℕ)
    → AreNamedBelow entries old k → IsKeyAt entries k key → ((q : ℕ × ℕ) → number_in new q ≡ (if same_key key q then Some (unwrap_or (number_in old key) k) else number_in old q))
    → AreNamedBelow entries new (k + 1)
named_more entries old new key k was (e, at_k, key_is) adds = record {
  has = λ i d low at. elim (says (d.name.file, d.name.node)) [
    | inl (same, is) ↦ (unwrap_or (number_in old key) k, is)
    | inr is ↦ elim (split i k low) [
      | inl less ↦ (let (n, known) = was.has i d less at in (n, is ∙ known))
      | inr last ↦ (let one : e ≡ d = same_some (slice_get entries k) e d at_k (ap (λ x. slice_get entries x) (sym last) ∙ at) in
          let same : key ≡ (d.name.file, d.name.node) = key_is ∙ ap (λ (x : Entry). pair x.name) one in
          (unwrap_or (number_in old key) k, itself (d.name.file, d.name.node) same))
    ]
  ];
  «is» = λ n at is. elim (says (at.file, at.node)) [
    | inr old_is ↦ was.«is» n at (sym old_is ∙ is)
    | inl (same, now) ↦ elim (from_old (number_in old key) k n (sym now ∙ is)) [
      | inl before ↦ was.«is» n at (ap (number_in old) (sym same) ∙ before)
      | inr (none, k_is) ↦ (e, ap (λ x. slice_get entries x) (sym k_is) ∙ at_k, same_place e.name at (ap (λ (x : ℕ × ℕ). x.0) (sym key_is ∙ same)) (ap (λ (x : ℕ × ℕ). x.1) (sym key_is ∙ same)))
    ]
  ];
  low = λ n q is. elim (says q) [
    | inr old_is ↦ (let less = was.low n q (sym old_is ∙ is) in omega arith)
    | inl (same, now) ↦ elim (from_old (number_in old key) k n (sym now ∙ is)) [
      | inl before ↦ (let less = was.low n key before in omega arith)
      | inr (none, k_is) ↦ (omega arith)
    ]
  ];
  first = λ n j d is low at. elim (split j k low) [
    | inl less ↦ elim (says (d.name.file, d.name.node)) [
      | inr old_is ↦ was.first n j d (sym old_is ∙ is) less at
      | inl (same, now) ↦ elim (from_old (number_in old key) k n (sym now ∙ is)) [
        | inl before ↦ was.first n j d (ap (number_in old) (sym same) ∙ before) less at
        | inr (none, k_is) ↦ absurd (let (m, known) = was.has j d less at in no_number m (sym none ∙ (ap (number_in old) same ∙ known)))
      ]
    ]
    | inr last ↦ elim (says (d.name.file, d.name.node)) [
      | inr old_is ↦ (let less = was.low n (d.name.file, d.name.node) (sym old_is ∙ is) in omega arith)
      | inl (same, now) ↦ elim (from_old (number_in old key) k n (sym now ∙ is)) [
        | inl before ↦ (let less = was.low n key before in omega arith)
        | inr (none, k_is) ↦ (omega arith)
      ]
    ]
  ];
} where
  no_number : (m : ℕ) → None ≡ Some m → ⊥
  no_number m e = cc

  pair : NodeRef → ℕ × ℕ
  pair at = (at.file, at.node)

  says : (q : ℕ × ℕ) → ((key ≡ q) × (number_in new q ≡ Some (unwrap_or (number_in old key) k))) ⊎ (number_in new q ≡ number_in old q)
  says q = here_or_old (number_in old) key q k (number_in new q) (same_key key q) refl (adds q)

  itself : (q : ℕ × ℕ) → key ≡ q → number_in new q ≡ Some (unwrap_or (number_in old key) k)
  itself q same = subst (λ (x : ℕ × ℕ). number_in new x ≡ Some (unwrap_or (number_in old key) k)) same
      (at_key (number_in old key) (same_key key key) (key_itself key) (adds key)) where
        at_key : (o : Option ℕ) (b : Bool) → b ≡ true → number_in new key ≡ (if b then Some (unwrap_or (number_in old key) k) else o) → number_in new key ≡ Some (unwrap_or (number_in old key) k)
        at_key o true e h = h
        at_key o false e h = absurd (cc)

pub named_all : {S : Type 0} (entries : List Entry) (numbers : HashMap (ℕ × ℕ) ℕ S) (k : ℕ) → length entries ≤ k → AreNamedBelow entries numbers k → AreNamed entries numbers
named_all entries numbers k end was = record { has = λ i e at. was.has i e (let h = slice_get_within entries i e at in omega arith) at; «is» = was.«is»; first = λ n j e is at. was.first n j e is (let h = slice_get_within entries j e at in omega arith) at }
