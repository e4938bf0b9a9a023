-- Where a diagnostic stands, by the size of its file.
use Rattle.std.proofs.Common.{◌≡◌, ◌↔◌, ℕ, ◌<◌, ◌≤◌, ◌+◌, inl, inr, ◌⊎◌, IsTrue, Bool, true, false, not, Option, Some, None, List, [], length, slice_get, get_or, map, take, All, refl, sym, ap, ◌∙◌, subst, arith}
use Rattle.std.proofs.lemmas.Option.{same_Some, slice_get-get_or}
use Rattle.std.proofs.lemmas.List.Elements.{All-more}
use Rattle.fix_apply.specs.declared.edits.Edit.{Edit}
use Rattle.fix_apply.specs.declared.edits.Fix.{Fix}
use Rattle.fix_apply.specs.Edits.{Overlap}
use Rattle.fix_apply.specs.Rewriting.{AreApart, LieIn}
use Rattle.analysis_core.specs.declared.diagnostic.Diagnostic.{Diagnostic}
use Rattle.action_graph.specs.Nodes.{Named}
use Rattle.action_graph.specs.Standing.{CanBeMade, IsFixOf, IsFoundBy, IsFoundIn}
use Rattle.gv_driver.specs.Standing.{AreFree, CanBeMadeWithin, IsFixWithin, IsFoundWithin, IsFree, IsPlaced, LieWithin, LiesWithin}

-- one item more
pub holds-more : {A : Type 0} (P : A → Type 0) (xs : List A) (n : ℕ) (x : A) → n < length xs → All P (take n xs) → x ≡ get_or xs n x → P x → All P (take (n + 1) xs)
holds-more P xs n x l all is here = All-more P xs n x l all (subst P is here)

-- what holds of each holds of one
pub item-holds : {A : Type 0} (P : A → Type 0) (xs : List A) (n : ℕ) (x : A) → n < length xs → x ≡ get_or xs n x → All P xs → P x
item-holds P xs n x l is all = subst P (sym is) (all n x l)

pub denied : (b : Bool) (P : Type 0) → IsTrue b ↔ P → IsTrue (not b) ↔ ¬ P
denied true P (to, back) = (λ h p. (let e : false ≡ true = h in cc), λ n. absurd (n (to refl)))
denied false P (to, back) = (λ h p. (let e : false ≡ true = back p in cc), λ n. refl)

below-or : (k i : ℕ) → k < i + 1 → (k < i) ⊎ (k ≡ i)
below-or k i h = grind arith

-- one edit more doesn't overlap
pub free-none : (edits : List Edit) (at : ℕ) → IsFree edits at (at + 1)
free-none edits at j x y a b h g = absurd (omega (arith, a, b))

pub free-more : (edits : List Edit) (at other : ℕ) (x y : Edit) → at < length edits → other < length edits → x ≡ get_or edits at x → y ≡ get_or edits other y → ¬ (Overlap x y) → IsFree edits at other → IsFree edits at (other + 1)
free-more edits at other x y within there x_is y_is apart is j u v a b h g = elim (below-or j other b) [
  | inl low ↦ is j u v a low h g
  | inr same ↦
      let one : x ≡ u = same_Some x u (sym (slice_get-get_or edits at x within ∙ ap (λ z. Some z) (sym x_is)) ∙ h) in
      let two : y ≡ v = same_Some y v (sym (slice_get-get_or edits other y there ∙ ap (λ z. Some z) (sym y_is)) ∙ subst (λ k. slice_get edits k ≡ Some v) same g) in
      subst (λ (z : Edit). ¬ (Overlap u z)) two (subst (λ (z : Edit). ¬ (Overlap z y)) one apart)
]

pub free-upto : (edits : List Edit) (at n m : ℕ) → m ≤ n → IsFree edits at n → IsFree edits at m
free-upto edits at n m l is j x y a b h g = is j x y a (omega (arith, l, b)) h g

-- two of them overlap
pub not-free : (edits : List Edit) (at other : ℕ) (x y : Edit) → at < other → other < length edits → x ≡ get_or edits at x → y ≡ get_or edits other y → (¬ (Overlap x y) → ⊥) → IsFree edits at (length edits) → ⊥
not-free edits at other x y a there x_is y_is clash is =
    clash (is other x y a there (slice_get-get_or edits at x (omega (arith, a, there)) ∙ ap (λ z. Some z) (sym x_is)) (slice_get-get_or edits other y there ∙ ap (λ z. Some z) (sym y_is)))

pub all-free-none : (edits : List Edit) → AreFree edits 0
all-free-none edits i l = absurd (omega (arith, l))

pub all-free-more : (edits : List Edit) (at : ℕ) → IsFree edits at (length edits) → AreFree edits at → AreFree edits (at + 1)
all-free-more edits at one is i l = elim (below-or i at l) [
  | inl low ↦ is i low
  | inr same ↦ subst (λ k. IsFree edits k (length edits)) (sym same) one
]

apart-of : (edits : List Edit) → AreFree edits (length edits) → AreApart edits
apart-of edits is i j d a l =
    is i (omega (arith, a, l)) j (get_or edits i d) (get_or edits j d) a l (slice_get-get_or edits i d (omega (arith, a, l))) (slice_get-get_or edits j d l)

free-of : (edits : List Edit) → AreApart edits → AreFree edits (length edits)
free-of edits is i low j x y a l h g =
    let one : x ≡ get_or edits i x = same_Some x (get_or edits i x) (sym h ∙ slice_get-get_or edits i x low) in
    let two : y ≡ get_or edits j x = same_Some y (get_or edits j x) (sym g ∙ slice_get-get_or edits j x l) in
    subst (λ (z : Edit). ¬ (Overlap x z)) (sym two) (subst (λ (z : Edit). ¬ (Overlap z (get_or edits j x))) (sym one) (is i j x a l))

lie-of : (bytes : List ℕ) (edits : List Edit) → LieWithin (length bytes) edits → LieIn bytes edits
lie-of bytes edits is k d l = (let h = is k d l in (h.rises, h.within))

within-of : (bytes : List ℕ) (edits : List Edit) → LieIn bytes edits → LieWithin (length bytes) edits
within-of bytes edits is k d l = (let h = is k d l in record { rises = h.0; within = h.1 })

made-to : (file : ℕ) (bytes : List ℕ) (fix : Option Fix) → CanBeMadeWithin file (length bytes) fix → CanBeMade file bytes fix
made-to file bytes None is = tt
made-to file bytes (Some fix) is = record { file_is = is.file_is; lie = lie-of bytes fix.edits is.lie; apart = apart-of fix.edits is.apart }

made-back : (file : ℕ) (bytes : List ℕ) (fix : Option Fix) → CanBeMade file bytes fix → CanBeMadeWithin file (length bytes) fix
made-back file bytes None is = tt
made-back file bytes (Some fix) is = record { file_is = is.file_is; lie = within-of bytes fix.edits is.lie; apart = free-of fix.edits is.apart }

pub found-to : (files : List Named) (a : ℕ) (d : Diagnostic) → IsFoundWithin files a d → IsFoundBy files a d
found-to files a d is = (is.same, record { analyzer = is.number; file = is.placed.file; offset = is.placed.offset; fix = made-to d.place.file _ d.fix is.made })

pub found-back : (files : List Named) (a : ℕ) (d : Diagnostic) → IsFoundBy files a d → IsFoundWithin files a d
found-back files a d (same, is) = record { same = same; number = is.analyzer; placed = record { file = is.file; offset = is.offset }; made = made-back d.place.file _ d.fix is.fix }
