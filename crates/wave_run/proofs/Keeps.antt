-- Each kind of step keeps the rule.
use Rattle.std.proofs.Common.{◌≡◌, ℕ, ◌+◌, ◌%◌, ◌^◌, ◌<◌, ◌≢◌, List, [], ◌∷◌, ◌++◌, length, get_or, set, sym, refl, ap, ◌∙◌, subst, ⊎_elim, arith}
use Rattle.std.proofs.lemmas.List.{length-append}
use mathlib.Core.Option.{some}
use lib.ListN.{get_elem?}
use lib.Seq.{set-get_or}
use Rattle.atomic_table.specs.Table.{State, keeps, stepped, Allows, Splits, Joins}
use Rattle.atomic_table.proofs.Lists.{at_set, at_snoc}
use Rattle.wave_run.specs.declared.view.View.{View}
use Rattle.wave_run.specs.Numbers.{total, below}
use Rattle.wave_run.specs.Views.{hand, left_with, right_with, met, spent}
use Rattle.wave_run.specs.Dealing.{IsDealt, Sat, draws, drew, looked}
use Rattle.wave_run.proofs.Sums.{total-append, total-set, alone, below_more}

abbrev parts_in : View → ℕ
parts_in v = v.parts

abbrev drawn_in : View → ℕ
drawn_in v = length v.drawn

abbrev weight_in : (ℕ → ℕ) → View → ℕ
weight_in f v = total f v.drawn

pub draws_on : (parts slots id : ℕ) (m : Sat) → 0 < m.0.parts → Allows (IsDealt parts) slots id m 0 (λ n. (n + 1) % 2 ^ 64) (drew m)
draws_on parts slots id m live s o wide me _ =
    let x : ℕ = get_or s.words 0 0 in
    let d : ℕ = draws s.views in
    let is : x ≡ d % 2 ^ 64 = ap (λ (ws : List ℕ). get_or ws 0 0) o.word in
    let w : View = hand m.0.parts (m.0.drawn ++ x ∷ []) in
    let vs : List View = set s.views id w in
    let more : draws vs ≡ d + 1 = omega (arith, total-set drawn_in s.views id m.0 w me, length-append m.0.drawn (x ∷ [])) in
    let next : (x + 1) % 2 ^ 64 ≡ draws vs % 2 ^ 64 = omega arith in (
      w,
      keeps,
      tt,
      record {
        word = ap (λ (ws : List ℕ). set ws 0 ((x + 1) % 2 ^ 64)) o.word ∙ ap (λ (n : ℕ). n ∷ []) next;
        whole = omega (arith, total-set parts_in s.views id m.0 w me, o.whole);
        idle = λ k v e none. ⊎_elim (λ (t : (k ≡ id) × (w ≡ v)). absurd (omega (arith, ap parts_in t.1))) (λ (t : (k ≢ id) × (get_elem? s.views k ≡ some v)). o.idle k v t.1 none) (at_set s.views id k w v e);
        once = λ few f.
            let here : x ≡ d = omega arith in
            omega (arith, total-set (weight_in f) s.views id m.0 w me, total-append f m.0.drawn (x ∷ []), o.once (omega arith) f, ap f here, ap (below f) more, below_more f d);
      },
      refl,
    )

pub looks_on : (parts slots id : ℕ) (m : Sat) → m.0.parts ≡ parts → Allows (IsDealt parts) slots id m 0 (λ n. n) (looked m)
looks_on parts slots id m all s o wide me _ =
    let x : ℕ = get_or s.words 0 0 in
    let d : ℕ = draws s.views in
    let is : x ≡ d % 2 ^ 64 = ap (λ (ws : List ℕ). get_or ws 0 0) o.word in
    let sole : total parts_in s.views ≡ m.0.parts = o.whole ∙ sym all in
    let mine : d ≡ length m.0.drawn = alone parts_in drawn_in s.views id m.0 (λ k u e none. ap length (o.idle k u e none)) me sole in
    let weighs : (f : ℕ → ℕ) → total (weight_in f) s.views ≡ total f m.0.drawn = λ f. alone parts_in (weight_in f) s.views id m.0 (λ k u e none. ap (total f) (o.idle k u e none)) me sole in (
      m.0,
      keeps,
      tt,
      same s o x id m me refl,
      (refl, record { counts = is ∙ ap (λ (n : ℕ). n % 2 ^ 64) mine; once = λ few f. let here : x ≡ d = omega arith in sym (weighs f) ∙ (o.once (omega arith) f ∙ ap (below f) (sym here)) }),
    )
  where
    same : (s : State (Unit {0}) View) → IsDealt parts s → (x id : ℕ) (m : Sat) → get_elem? s.views id ≡ some m.0 → x ≡ get_or s.words 0 0 → IsDealt parts (stepped s 0 x id m.1 m.0 keeps)
    same s o x id m me is =
        let again : set s.views id m.0 ≡ s.views = Rattle.atomic_table.proofs.Lists.set_again s.views id m.0 me in
        let words : set s.words 0 x ≡ s.words = ap (λ (n : ℕ). set s.words 0 n) is ∙ set-get_or s.words 0 0 in
        subst (λ (ws : List ℕ). IsDealt parts (record { words = ws; homes = s.homes; views = set s.views id m.0 })) (sym words)
        (subst (λ (vs : List View). IsDealt parts (record { words = s.words; homes = s.homes; views = vs })) (sym again) (record { word = o.word; whole = o.whole; idle = o.idle; once = o.once }))

pub cuts : (parts k id : ℕ) (v : View) → 0 < k → k < v.parts → Splits (IsDealt parts) id v (left_with k v) (right_with k)
cuts parts k id v some_part fewer s o me =
    let l : View = left_with k v in
    let r : View = right_with k in
    let vs : List View = set s.views id l in
    let sums : (g : View → ℕ) → total g (vs ++ r ∷ []) + g v ≡ total g s.views + g l + g r = λ g. omega (arith, total-append g vs (r ∷ []), total-set g s.views id v l me) in
    let same : draws (vs ++ r ∷ []) ≡ draws s.views = omega (arith, sums drawn_in) in
    record {
      word = o.word ∙ ap (λ (n : ℕ). n % 2 ^ 64 ∷ []) (sym same);
      whole = omega (arith, sums parts_in, o.whole);
      idle = λ j u e none. ⊎_elim
          (λ (t : get_elem? vs j ≡ some u). ⊎_elim (λ (q : (j ≡ id) × (l ≡ u)). absurd (omega (arith, ap parts_in q.1))) (λ (q : (j ≢ id) × (get_elem? s.views j ≡ some u)). o.idle j u q.1 none) (at_set s.views id j l u t))
          (λ (t : r ≡ u). absurd (omega (arith, ap parts_in t))) (at_snoc vs r u j e);
      once = λ few f. omega (arith, sums (weight_in f), o.once (omega arith) f, ap (below f) same);
    }

pub meets : (parts id : ℕ) (v : View) (other : ℕ) (w : View) → 0 < v.parts → Joins (IsDealt parts) id v other w (met v w) spent
meets parts id v other w live s o me apart them =
    let b : View = met v w in
    let vs : List View = set s.views id b in
    let sums : (g : View → ℕ) → total g (set vs other spent) + g w + g v ≡ total g s.views + g b + g spent = λ g. omega (arith, total-set g s.views id v b me, total-set g vs other w spent them) in
    let same : draws (set vs other spent) ≡ draws s.views = omega (arith, sums drawn_in, length-append v.drawn w.drawn) in
    record {
      word = o.word ∙ ap (λ (n : ℕ). n % 2 ^ 64 ∷ []) (sym same);
      whole = omega (arith, sums parts_in, o.whole);
      idle = λ k u e none. ⊎_elim (λ (t : (k ≡ other) × (spent ≡ u)). ap (λ (z : View). z.drawn) (sym t.1))
          (λ (t : (k ≢ other) × (get_elem? vs k ≡ some u)). ⊎_elim (λ (q : (k ≡ id) × (b ≡ u)). absurd (omega (arith, ap parts_in q.1))) (λ (q : (k ≢ id) × (get_elem? s.views k ≡ some u)). o.idle k u q.1 none) (at_set s.views id k b u t.1))
          (at_set vs other k spent u e);
      once = λ few f. omega (arith, sums (weight_in f), total-append f v.drawn w.drawn, o.once (omega arith) f, ap (below f) same);
    }
