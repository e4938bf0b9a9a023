-- Texts that are held by lists of numbers.
use Rattle.std.proofs.Common.{◌≡◌, ℕ, ◌<◌, ◌≤◌, ◌+◌, Bool, true, false, Some, List, [], ◌∷◌, ◌++◌, length, slice_get, get_or, map, take, refl, sym, ap, ◌∙◌, subst, arith, zero, suc}
use Rattle.std.specs.Prelude.{◌==◌, if◌then◌else◌}
use Rattle.std.proofs.lemmas.Bool.Decides.{Decides-eqb}
use Rattle.std.proofs.lemmas.Option.{same_Some, slice_get_read}
use Rattle.fact_cache.specs.declared.texts.Input.{Input}
use Rattle.fact_cache.specs.declared.kept.Place.{Place}
use Rattle.fact_cache.specs.declared.numbered.Numbered.{Numbered}
use Rattle.fact_cache.specs.Inputs.{Text}
use Rattle.fact_cache.specs.Kept.{uses_at, text_at, one_at, IsHeld, IsFreed}
use Rattle.fact_cache.specs.Numbered.{entry_in, numbers_of, times, AreTaken, AreFreed}
use Rattle.fact_cache.proofs.ListFacts.{map-push}

plus-swap : (a b c : ℕ) → a + b + c ≡ a + (b + c)
plus-swap a b c = omega arith

zero-plus : (a : ℕ) → a ≡ 0 + a
zero-plus a = omega arith

pub times-append : (m : ℕ) (xs ys : List ℕ) → times m (xs ++ ys) ≡ times m xs + times m ys
times-append m [] ys = zero-plus (times m ys)
times-append m (x ∷ xs) ys = ap (λ k. one_at x m + k) (times-append m xs ys) ∙ sym (plus-swap (one_at x m) (times m xs) (times m ys))

pub times-push : (m : ℕ) (xs : List ℕ) (n : ℕ) → times m (xs ++ n ∷ []) ≡ times m xs + one_at n m
times-push m xs n = times-append m xs (n ∷ []) ∙ ap (λ k. times m xs + k) (none_more (one_at n m))
  where
    none_more : (a : ℕ) → a + 0 ≡ a
    none_more a = omega arith

pub one-here : (n : ℕ) → one_at n n ≡ 1
one-here n = by (n == n) refl
  where
    by : (c : Bool) → (n == n) ≡ c → if◌then◌else◌ {A = ℕ} c 1 0 ≡ 1
    by true e = refl
    by false e = let u : true ≡ false = sym ((Decides-eqb n n).1 refl) ∙ e in cc

pub map-agree : {X : Type 0} (f g : ℕ → X) (ns : List ℕ) → ((m : ℕ) → 0 < times m ns → f m ≡ g m) → map f ns ≡ map g ns
map-agree f g [] same = refl
map-agree f g (n ∷ ns) same =
    ap (λ x. x ∷ map f ns) (same n (first (one_at n n) (times n ns) (one-here n))) ∙ ap (λ xs. g n ∷ xs) (map-agree f g ns (λ m l. same m (later (one_at n m) (times m ns) l)))
  where
    first : (a b : ℕ) → a ≡ 1 → 0 < a + b
    first a b e = omega (arith, e)

    later : (a b : ℕ) → 0 < b → 0 < a + b
    later a b l = omega (arith, l)

-- one text more
pub taken-more : (old mid new : List Place) (ts : List Text) (ns : List ℕ) (t : Text) (n : ℕ) → AreTaken old mid ts ns → IsHeld mid new t n → AreTaken old new (ts ++ t ∷ []) (ns ++ n ∷ [])
taken-more old mid new ts ns t n are is = record {
  spelled = map-push (text_at new) ns n ∙ (ap (λ x. map (text_at new) ns ++ x ∷ []) is.here ∙ ap (λ xs. xs ++ t ∷ []) (stays ∙ are.spelled));
  more = λ m. add (uses_at new m) (one_at n m) (uses_at mid m) (times m ns) (uses_at old m) (times m (ns ++ n ∷ [])) (is.more m) (are.more m) (times-push m ns n);
  same = λ m l. is.same m (above (uses_at mid m) (times m ns) (uses_at old m) (are.more m) l) ∙ are.same m l;
}
  where
    add : (a b c d e f : ℕ) → a ≡ b + c → c ≡ d + e → f ≡ d + b → a ≡ f + e
    add a b c d e f x y z = omega (arith, x, y, z)

    above : (a b c : ℕ) → a ≡ b + c → 0 < c → 0 < a
    above a b c x l = omega (arith, x, l)

    held : (a b c : ℕ) → a ≡ b + c → 0 < b → 0 < a
    held a b c x l = omega (arith, x, l)

    stays : map (text_at new) ns ≡ map (text_at mid) ns
    stays = map-agree (text_at new) (text_at mid) ns (λ m l. is.same m (held (uses_at mid m) (times m ns) (uses_at old m) (are.more m) l))

-- and its numbers are those of the texts before
pub taken-spelled : (old mid new : List Place) (ts : List Text) (ns : List ℕ) (t : Text) (n : ℕ) → AreTaken old mid ts ns → IsHeld mid new t n → map (text_at new) ns ≡ ts
taken-spelled old mid new ts ns t n are is =
    map-agree (text_at new) (text_at mid) ns (λ m l. is.same m (held (uses_at mid m) (times m ns) (uses_at old m) (are.more m) l)) ∙ are.spelled
  where
    held : (a b c : ℕ) → a ≡ b + c → 0 < b → 0 < a
    held a b c x l = omega (arith, x, l)

pub freed-more-numbers : (old mid new : List Place) (ns : List ℕ) (n : ℕ) → AreFreed old mid ns → IsFreed mid new n → AreFreed old new (ns ++ n ∷ [])
freed-more-numbers old mid new ns n are is = record {
  less = λ m. add (uses_at old m) (times m ns) (uses_at mid m) (one_at n m) (uses_at new m) (times m (ns ++ n ∷ [])) (are.less m) (is.less m) (times-push m ns n);
  same = λ m l. is.same m l ∙ are.same m (above (uses_at mid m) (one_at n m) (uses_at new m) (is.less m) l);
}
  where
    add : (a b c d e f : ℕ) → a ≡ b + c → c ≡ d + e → f ≡ b + d → a ≡ f + e
    add a b c d e f x y z = omega (arith, x, y, z)

    above : (a b c : ℕ) → a ≡ b + c → 0 < c → 0 < a
    above a b c x l = omega (arith, x, l)

pub take-push : {X : Type 0} (xs : List X) (i : ℕ) (x : X) → slice_get xs i ≡ Some x → take (i + 1) xs ≡ take i xs ++ x ∷ []
take-push [] i x g = cc
take-push (y ∷ ys) zero x g = ap (λ z. z ∷ []) (same_Some y x g)
take-push (y ∷ ys) (suc i) x g = ap (λ k. take k (y ∷ ys)) (suc_is i) ∙ ap (λ l. y ∷ l) (take-push ys i x g)
  where
    suc_is : (i : ℕ) → suc i + 1 ≡ suc (i + 1)
    suc_is i = omega arith

-- a turn of the loop over the texts
pub taken-turn : (old mid new : List Place) (texts : List Text) (i : ℕ) (ns after : List ℕ) (item lent : Text) (n : ℕ) → AreTaken old mid (take i texts) ns
    → i < length texts → item ≡ get_or texts i item → lent ≡ item → IsHeld mid new lent n → after ≡ ns ++ n ∷ [] → AreTaken old new (take (i + 1) texts) after
taken-turn old mid new texts i ns after item lent n are inside item_is lent_is is after_is =
    subst (λ (l : List ℕ). AreTaken old new (take (i + 1) texts) l) (sym after_is)
    (subst (λ (l : List Text). AreTaken old new l (ns ++ n ∷ [])) (sym (take-push texts i item (slice_get_read texts (length texts) i item refl inside item_is)))
    (taken-more old mid new (take i texts) ns item n are (subst (λ (t : Text). IsHeld mid new t n) lent_is is)))

-- a row's numbers can be freed
pub row-first : (kept : List Place) (row : Numbered) → ((m : ℕ) → times m (numbers_of row) ≤ uses_at kept m) → (m : ℕ) → times m row.texts ≤ uses_at kept m
row-first kept row all m = by (times m (numbers_of row)) (times m row.texts) (one_at row.outcome m) (uses_at kept m) (times-push m row.texts row.outcome) (all m)
  where
    by : (a b c d : ℕ) → a ≡ b + c → a ≤ d → b ≤ d
    by a b c d e l = omega (arith, e, l)

pub row-last : (kept mid : List Place) (row : Numbered) → ((m : ℕ) → times m (numbers_of row) ≤ uses_at kept m) → AreFreed kept mid row.texts → 0 < uses_at mid row.outcome
row-last kept mid row all are =
    by (times row.outcome (numbers_of row)) (times row.outcome row.texts) (one_at row.outcome row.outcome) (uses_at kept row.outcome) (uses_at mid row.outcome)
    (times-push row.outcome row.texts row.outcome) (all row.outcome) (one-here row.outcome) (are.less row.outcome)
  where
    by : (a b c d e : ℕ) → a ≡ b + c → a ≤ d → c ≡ 1 → d ≡ b + e → 0 < e
    by a b c d e x l y z = omega (arith, x, l, y, z)

-- a whole row
pub taken-row : (old mid new : List Place) (input : Input) (outcome : Text) (lent : List Text) (ns texts : List ℕ) (n : ℕ) → AreTaken old mid lent ns → lent ≡ input.texts
    → IsHeld mid new outcome n → texts ≡ ns
    → AreTaken old new (input.texts ++ outcome ∷ []) (texts ++ n ∷ []) × (entry_in new (record { node = input.node; texts = texts; outcome = n }) ≡ record { input = input; outcome = outcome })
taken-row old mid new input outcome lent ns texts n are lent_is is texts_is =
    let own : AreTaken old mid input.texts texts = subst (λ (l : List ℕ). AreTaken old mid input.texts l) (sym texts_is) (subst (λ (l : List Text). AreTaken old mid l ns) lent_is are) in (
      taken-more old mid new input.texts texts outcome n own is,
      ap (λ (l : List Text). record { input = record { node = input.node; texts = l }; outcome = text_at new n }) (taken-spelled old mid new input.texts texts outcome n own is)
          ∙ ap (λ (o : Text). record { input = input; outcome = o }) is.here,
    )
