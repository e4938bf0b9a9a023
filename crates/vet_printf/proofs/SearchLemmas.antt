-- How a search over the parts of a type goes on.
use Rattle.std.proofs.Common.{◌≡◌, ◌⊎◌, inl, inr, ◌<◌, ◌≤◌, ◌+◌, ℕ, zero, suc, Bool, true, false, cond, List, [], ◌∷◌, ◌++◌, length, slice_get, Some, refl, sym, ap, ◌∙◌, subst, append_assoc, arith}
use Rattle.std.specs.Prelude.{nat_eq}
use Rattle.std.specs.List.{Contains}
use Rattle.std.proofs.lemmas.Bool.{eqb-true, eq-eqb}
use Rattle.std.proofs.lemmas.List.Elements.{Contains-push, Contains-push_cases, Contains-append_left, Contains-append_right, Contains-append_cases}
use Rattle.std.proofs.lemmas.Option.{same_Some, slice_get_within, slice_get-get_or, get_or_from_slice_get}
use Rattle.type_model.specs.declared.table.TypeTable.{TypeTable}
use Rattle.type_model.specs.GoTypes.{GoType}
use Rattle.type_model.specs.Declarations.{Declarations}
use Rattle.type_model.specs.Tables.{count, declarations_in}
use Rattle.vet_printf.specs.declared.verb.Class.{Class}
use Rattle.vet_printf.specs.Fitting.{is_parted_type, parts_in, IsFit, Fails, Alone, ByPart}
use Rattle.vet_printf.specs.InTable.{ty, AreParts, IsFitAt, TellsFailing}
use Rattle.vet_printf.specs.Searching.{IsVisited, AreVisited, IsGrown, IsFollowed, IsStep, IsSearch}
use Rattle.vet_printf.proofs.FailLemmas.{mapped, unmapped}

by_bool : {C : Type 0} (b : Bool) → (b ≡ true → C) → (b ≡ false → C) → C
by_bool true f g = f refl
by_bool false f g = g refl

not_both : {C : Type 0} (b : Bool) → b ≡ true → b ≡ false → C
not_both b e f = absurd cc

taken : (b c : Bool) → b ≡ true → cond b true c ≡ true
taken true c e = refl
taken false c e = absurd cc

or_before : (b c : Bool) → cond b true c ≡ true → (b ≡ true) ⊎ (c ≡ true)
or_before true c e = inl refl
or_before false c e = inr e

or_kept : (b c : Bool) → c ≡ true → cond b true c ≡ true
or_kept true c e = refl
or_kept false c e = e

at_or_before : (k n : ℕ) → k < n + 1 → (k ≡ n) ⊎ (k < n)
at_or_before zero zero low = inl refl
at_or_before zero (suc n) low = inr (omega arith)
at_or_before (suc k) zero low = absurd (omega (arith, low))
at_or_before (suc k) (suc n) low = elim (at_or_before k n (omega (arith, low))) [
  | inl same ↦ inl (ap suc same)
  | inr less ↦ inr (omega (arith, less))
]

pub contained : {X : Type 0} (xs : List X) (x : X) (k : ℕ) → slice_get xs k ≡ Some x → Contains xs x
contained xs x k e = (k, slice_get_within xs k x e, get_or_from_slice_get xs k x x e)

read : {X : Type 0} (xs : List X) (x : X) → Contains xs x → (k : ℕ) × (k < length xs) × (slice_get xs k ≡ Some x)
read xs x (k, low, is) = (k, low, slice_get-get_or xs k x low ∙ ap Some is)

get_back : {X : Type 0} (xs ys : List X) (k : ℕ) (x : X) → k < length xs → slice_get (xs ++ ys) k ≡ Some x → slice_get xs k ≡ Some x
get_back [] ys k x low e = absurd (omega (arith, low))
get_back (y ∷ xs) ys zero x low e = e
get_back (y ∷ xs) ys (suc k) x low e = get_back xs ys k x (omega (arith, low)) e

append_none : (xs : List ℕ) → xs ≡ xs ++ []
append_none [] = refl
append_none (x ∷ xs) = ap (λ l. x ∷ l) (append_none xs)

-- ---- one type

visit_kept : (at : ℕ) (met new : ℕ → Bool) (list newer : List ℕ) → IsVisited at met list new newer → (n : ℕ) → met n ≡ true → new n ≡ true
visit_kept at met new list newer v n is = by_bool (met at)
    (λ old. v.met_same old n ∙ is)
    (λ fresh. v.met_more fresh n ∙ or_kept (nat_eq at n) (met n) is)

visit_notes : (at : ℕ) (met new : ℕ → Bool) (list newer : List ℕ) → IsVisited at met list new newer → new at ≡ true
visit_notes at met new list newer v = by_bool (met at)
    (λ old. v.met_same old at ∙ old)
    (λ fresh. v.met_more fresh at ∙ taken (nat_eq at at) (met at) (eq-eqb at at refl))

-- ---- several types

pub none_visited : (ids : List ℕ) (met : ℕ → Bool) (list : List ℕ) → AreVisited ids 0 met list met list
none_visited ids met list = record {
  kept = λ n is. is;
  each = λ k n low e. absurd (omega (arith, low));
  more = [];
  grown = append_none list;
  from = λ n (k, low, is). absurd (omega (arith, low));
  listed = λ n is. inl is;
}

module _ (ids : List ℕ) (many : ℕ) (met : ℕ → Bool) (list : List ℕ) (met1 : ℕ → Bool) (list1 : List ℕ) (at : ℕ) (met2 : ℕ → Bool) (list2 : List ℕ)
    (f : AreVisited ids many met list met1 list1) (here : slice_get ids many ≡ Some at) (v : IsVisited at met1 list1 met2 list2) where
  kept_on : (n : ℕ) → met1 n ≡ true → met2 n ≡ true
  kept_on n is = visit_kept at met1 met2 list1 list2 v n is

  each_next : (k n : ℕ) → k < many + 1 → slice_get ids k ≡ Some n → met2 n ≡ true
  each_next k n low e = elim (at_or_before k many low) [
    | inl same ↦
        let one : at ≡ n = same_Some at n (sym here ∙ (ap (λ j. slice_get ids j) (sym same) ∙ e)) in
        subst (λ (m : ℕ). met2 m ≡ true) one (visit_notes at met1 met2 list1 list2 v)
    | inr less ↦ kept_on n (f.each k n less e)
  ]

  visited_old : met1 at ≡ true → AreVisited ids (many + 1) met list met2 list2
  visited_old old = record {
    kept = λ n is. kept_on n (f.kept n is);
    each = each_next;
    more = f.more;
    grown = v.list_same old ∙ f.grown;
    from = f.from;
    listed = λ n is. f.listed n (sym (v.met_same old n) ∙ is);
  }

  visited_new : met1 at ≡ false → AreVisited ids (many + 1) met list met2 list2
  visited_new fresh = record {
    kept = λ n is. kept_on n (f.kept n is);
    each = each_next;
    more = f.more ++ at ∷ [];
    grown = v.list_more fresh ∙ (ap (λ l. l ++ at ∷ []) f.grown ∙ append_assoc list f.more (at ∷ []));
    from = λ n c. elim (Contains-push_cases f.more at n c) [
      | inl was ↦ f.from n was
      | inr same ↦ subst (λ (m : ℕ). Contains ids m) same (contained ids at many here)
    ];
    listed = λ n is. elim (or_before (nat_eq at n) (met1 n) (sym (v.met_more fresh n) ∙ is)) [
      | inl same ↦ inr (subst (λ (m : ℕ). Contains (f.more ++ at ∷ []) m) (eqb-true at n same) (Contains-push f.more at))
      | inr was ↦ elim (f.listed n was) [
        | inl old ↦ inl old
        | inr m ↦ inr (Contains-append_left f.more (at ∷ []) n m)
      ]
    ];
  }

  pub visited_more : AreVisited ids (many + 1) met list met2 list2
  visited_more = by_bool (met1 at) visited_old visited_new

-- ---- a step

module _ (t : TypeTable) (class : Class) (here : ℕ) where
  abbrev ds : Declarations
  ds = declarations_in t

  pub grown_nothing : (met : ℕ → Bool) (list : List ℕ) → IsGrown t class here met list met list
  grown_nothing met list = record {
    kept = λ n is. is;
    more = [];
    grown = append_none list;
    from = λ n (k, low, is). absurd (omega (arith, low));
    listed = λ n is. inl is;
  }

  out_of : (fit : Bool) → IsFitAt t class here fit → fit ≡ false → IsFit ds class (ty t here) → ⊥
  out_of fit told no_fit is = not_both fit (told.1 is) no_fit

  -- the parts of a type that isn't fit were visited
  pub grown_parts : (fit : Bool) (ids : List ℕ) (met new : ℕ → Bool) (list newer : List ℕ) → IsFitAt t class here fit → fit ≡ false → AreParts t here ids → AreVisited ids (length ids) met list new newer
      → IsGrown t class here met list new newer
  grown_parts fit ids met new list newer told no_fit parts f = record {
    kept = f.kept;
    more = f.more;
    grown = f.grown;
    from = λ n c. (
        let there = f.from n c in
        let r = read ids n there in
        record {
          low = parts.below r.0 n r.2;
          leads = λ fails. ByPart (ty t here) (ty t n) (out_of fit told no_fit) (subst (λ (l : List GoType). Contains l (ty t n)) parts.are (mapped (ty t) ids n there)) fails;
        }
        );
    listed = f.listed;
  }

  pub step_fit : (fit : Bool) (met : ℕ → Bool) → IsFitAt t class here fit → fit ≡ true → IsStep t class here met false
  step_fit fit met told is = record { failing = λ e. absurd cc; other = λ e. inl (told.0 is) }

  pub step_alone : (fit parted : Bool) (met : ℕ → Bool) → IsFitAt t class here fit → fit ≡ false → parted ≡ is_parted_type ds (ty t here) → parted ≡ false → IsStep t class here met true
  step_alone fit parted met told no_fit is alone = record { failing = λ e. Alone (ty t here) (out_of fit told no_fit) (sym is ∙ alone); other = λ e. absurd cc }

  pub step_parts : (parted : Bool) (ids : List ℕ) (met new : ℕ → Bool) (list newer : List ℕ) → parted ≡ is_parted_type ds (ty t here) → parted ≡ true → AreParts t here ids → AreVisited ids (length ids) met list new newer
      → IsStep t class here new false
  step_parts parted ids met new list newer is has parts f = record {
    failing = λ e. absurd cc;
    other = λ e. inr (
      sym is ∙ has,
      λ part there. (
          let p = unmapped (ty t) ids part (subst (λ (l : List GoType). Contains l part) (sym parts.are) there) in
          let r = read ids p.0 p.1 in
          (p.0, f.each r.0 p.0 r.1 r.2, p.2)
          ),
    );
  }

-- ---- the search

-- it begins with one type
pub begins : (t : TypeTable) (class : Class) (start : ℕ) (met : ℕ → Bool) (list : List ℕ) (new : ℕ → Bool) (newer : List ℕ)
    → start < count t → ((n : ℕ) → met n ≡ false) → list ≡ [] → IsVisited start met list new newer → IsSearch t class start new newer 0
begins t class start met list new newer low none empty v =
    let one : newer ≡ start ∷ [] = v.list_more (none start) ∙ ap (λ l. l ++ start ∷ []) empty in
    record {
      begun = visit_notes start met new list newer v;
      within = λ n c. subst (λ (m : ℕ). m < count t) (only n (subst (λ (l : List ℕ). Contains l n) one c)) low;
      sound = λ n c fails. subst (λ (m : ℕ). Fails (declarations_in t) class (ty t m)) (sym (only n (subst (λ (l : List ℕ). Contains l n) one c))) fails;
      listed = λ n is. elim (or_before (nat_eq start n) (met n) (sym (v.met_more (none start) n) ∙ is)) [
        | inl same ↦ subst (λ (m : ℕ). Contains newer m) (eqb-true start n same) (subst (λ (l : List ℕ). Contains l start) (sym one) (0, omega arith, refl))
        | inr was ↦ absurd (let not_met = none n in cc)
      ];
      followed = λ k n less e. absurd (omega (arith, less));
    }
  where
    only : (n : ℕ) → Contains (start ∷ []) n → start ≡ n
    only n (zero, low, is) = is
    only n (suc k, low, is) = absurd (omega (arith, low))

module _ (t : TypeTable) (class : Class) (start : ℕ) (met : ℕ → Bool) (list : List ℕ) (next : ℕ) (s : IsSearch t class start met list next) where
  -- one type more is followed
  module _ (here : ℕ) (low : next < length list) (at : slice_get list next ≡ Some here) (new : ℕ → Bool) (newer : List ℕ) (g : IsGrown t class here met list new newer) (followed : IsFollowed t class new (ty t here)) where
    old_or_more : (n : ℕ) → Contains newer n → Contains list n ⊎ Contains g.more n
    old_or_more n c = Contains-append_cases list g.more n (subst (λ (l : List ℕ). Contains l n) g.grown c)

    followed_still : (of : GoType) → IsFollowed t class met of → IsFollowed t class new of
    followed_still of was = elim was [
      | inl fit ↦ inl fit
      | inr parts ↦ inr (parts.0, λ part there. (let p = parts.1 part there in (p.0, g.kept p.0 p.1, p.2)))
    ]

    followed_next : (k n : ℕ) → k < next + 1 → slice_get newer k ≡ Some n → IsFollowed t class new (ty t n)
    followed_next k n less e =
        let was : slice_get list k ≡ Some n = get_back list g.more k n (omega (arith, less, low)) (ap (λ l. slice_get l k) (sym g.grown) ∙ e) in
        elim (at_or_before k next less) [
          | inl same ↦
              let one : here ≡ n = same_Some here n (sym at ∙ (ap (λ j. slice_get list j) (sym same) ∙ was)) in
              subst (λ (m : ℕ). IsFollowed t class new (ty t m)) one followed
          | inr before ↦ followed_still (ty t n) (s.followed k n before was)
        ]

    pub goes_on : IsSearch t class start new newer (next + 1)
    goes_on = record {
      begun = g.kept start s.begun;
      within = λ n c. elim (old_or_more n c) [
        | inl was ↦ s.within n was
        | inr more ↦ (g.from n more).low
      ];
      sound = λ n c fails. elim (old_or_more n c) [
        | inl was ↦ s.sound n was fails
        | inr more ↦ s.sound here (contained list here next at) ((g.from n more).leads fails)
      ];
      listed = λ n is. elim (g.listed n is) [
        | inl was ↦ subst (λ (l : List ℕ). Contains l n) (sym g.grown) (Contains-append_left list g.more n (s.listed n was))
        | inr m ↦ subst (λ (l : List ℕ). Contains l n) (sym g.grown) (Contains-append_right list g.more n m)
      ];
      followed = followed_next;
    }

  -- a listed type that fails shows that the first does
  pub found : (here : ℕ) → slice_get list next ≡ Some here → Fails (declarations_in t) class (ty t here) → TellsFailing t class start true
  found here at fails = record { failing = λ e not_so. not_so (s.sound here (contained list here next at) fails); other = λ e. absurd cc }

  -- where all that is listed was followed, nothing listed fails
  module _ (end : length list ≤ next) where
    follows : (n : ℕ) → Contains list n → IsFollowed t class met (ty t n)
    follows n c = let r = read list n c in let low = r.1 in s.followed r.0 n (omega (arith, low, end)) r.2

    none_fails : (of : GoType) → Fails (declarations_in t) class of → (n : ℕ) → Contains list n → ty t n ≡ of → ⊥
    none_fails of (Alone _ out alone) n c is = elim (follows n c) [
      | inl fit ↦ out (subst (λ (g : GoType). IsFit (declarations_in t) class g) is fit)
      | inr parts ↦ not_both (is_parted_type (declarations_in t) of) (sym (ap (λ (g : GoType). is_parted_type (declarations_in t) g) is) ∙ parts.0) alone
    ]
    none_fails of (ByPart _ part out there fails) n c is = elim (follows n c) [
      | inl fit ↦ out (subst (λ (g : GoType). IsFit (declarations_in t) class g) is fit)
      | inr parts ↦ (let p = parts.1 part (subst (λ (g : GoType). Contains (parts_in (declarations_in t) g) part) (sym is) there) in none_fails part fails p.0 (s.listed p.0 p.1) p.2)
    ]

    pub none_found : TellsFailing t class start false
    none_found = record { failing = λ e. absurd cc; other = λ e fails. none_fails (ty t start) fails start (s.listed start s.begun) refl }
