-- How a search over what types hold goes on.
use Rattle.std.proofs.Common.{◌≡◌, ◌⊎◌, inl, inr, ◌<◌, ◌≤◌, ◌+◌, ℕ, zero, suc, Bool, true, false, cond, List, [], ◌∷◌, ◌++◌, length, map, slice_get, Some, refl, sym, ap, ◌∙◌, subst, append_assoc, arith}
use Rattle.std.specs.Prelude.{nat_eq}
use Rattle.std.specs.List.{Contains}
use Rattle.std.proofs.lemmas.Bool.{eqb-true, eq-eqb}
use Rattle.std.proofs.lemmas.List.Elements.{Contains-push, Contains-push_cases, Contains-append_left, Contains-append_right, Contains-append_cases, All-contains}
use Rattle.std.proofs.lemmas.Option.{same_Some, slice_get_within, slice_get-get_or, get_or_from_slice_get}
use Rattle.type_model.specs.declared.term.TypeId.{TypeId}
use Rattle.type_model.specs.declared.term.TypeName.{TypeName}
use Rattle.type_model.specs.declared.table.TypeTable.{TypeTable}
use Rattle.type_model.specs.GoTypes.{DefinedType, GoType, AreBelow, type_at, type_number}
use Rattle.type_model.specs.Declarations.{Meets, MeetsName, MeetsHeld, held}
use Rattle.type_model.specs.Tables.{types_in, count, declarations_in}
use Rattle.type_growth.specs.Growth.{IsMissing}
use Rattle.rel_growth.specs.Compare.{EnoughToCompare}
use Rattle.rel_growth.specs.Meeting.{IsVisited, AreVisited, IsFollowed, IsSearch, IsKnownIn, IsMetMissing}

by_bool : {C : Type 0} (b : Bool) → (b ≡ true → C) → (b ≡ false → C) → C
by_bool true f g = f refl
by_bool false f g = g refl

taken : (b c : Bool) → b ≡ true → cond b true c ≡ true
taken true c e = refl
taken false c e = absurd cc

or_before : (b c : Bool) → cond b true c ≡ true → (b ≡ true) ⊎ (c ≡ true)
or_before true c e = inl refl
or_before false c e = inr e

or_kept : (b c : Bool) → c ≡ true → cond b true c ≡ true
or_kept true c e = refl
or_kept false c e = e

at_or_before : (k n : ℕ) → k < n + 1 → (k ≡ n) ⊎ (k < n)
at_or_before zero zero low = inl refl
at_or_before zero (suc n) low = inr (omega arith)
at_or_before (suc k) zero low = absurd (omega (arith, low))
at_or_before (suc k) (suc n) low = elim (at_or_before k n (omega (arith, low))) [
  | inl same ↦ inl (ap suc same)
  | inr less ↦ inr (omega (arith, less))
]

pub contained : {X : Type 0} (xs : List X) (x : X) (k : ℕ) → slice_get xs k ≡ Some x → Contains xs x
contained xs x k e = (k, slice_get_within xs k x e, get_or_from_slice_get xs k x x e)

read : {X : Type 0} (xs : List X) (x : X) → Contains xs x → (k : ℕ) × (k < length xs) × (slice_get xs k ≡ Some x)
read xs x (k, low, is) = (k, low, slice_get-get_or xs k x low ∙ ap Some is)

get_back : {X : Type 0} (xs ys : List X) (k : ℕ) (x : X) → k < length xs → slice_get (xs ++ ys) k ≡ Some x → slice_get xs k ≡ Some x
get_back [] ys k x low e = absurd (omega (arith, low))
get_back (y ∷ xs) ys zero x low e = e
get_back (y ∷ xs) ys (suc k) x low e = get_back xs ys k x (omega (arith, low)) e

mapped : {X Y : Type 0} (f : X → Y) (xs : List X) (x : X) → Contains xs x → Contains (map f xs) (f x)
mapped f [] x (k, low, is) = absurd (omega (arith, low))
mapped f (y ∷ xs) x (zero, low, is) = (0, omega arith, ap f is)
mapped f (y ∷ xs) x (suc k, low, is) = let r = mapped f xs x (k, omega (arith, low), is) in (suc r.0, omega (arith, r.1), r.2)

unmapped : {X Y : Type 0} (f : X → Y) (xs : List X) (y : Y) → Contains (map f xs) y → (x : X) × Contains xs x × (f x ≡ y)
unmapped f [] y (k, low, is) = absurd (omega (arith, low))
unmapped f (x ∷ xs) y (zero, low, is) = (x, (0, omega arith, refl), is)
unmapped f (x ∷ xs) y (suc k, low, is) =
    let r = unmapped f xs y (k, omega (arith, low), is) in (r.0, (suc r.1.0, omega (arith, r.1.1), r.1.2), r.2)

-- ---- one type

pub visit_kept : (id : TypeId) (met new : ℕ → Bool) (list newer : List TypeId) → IsVisited id met list new newer → (n : ℕ) → met n ≡ true → new n ≡ true
visit_kept id met new list newer v n is = by_bool (met id.0)
    (λ old. v.met_same old n ∙ is)
    (λ fresh. v.met_more fresh n ∙ or_kept (nat_eq id.0 n) (met n) is)

pub visit_notes : (id : TypeId) (met new : ℕ → Bool) (list newer : List TypeId) → IsVisited id met list new newer → new id.0 ≡ true
visit_notes id met new list newer v = by_bool (met id.0)
    (λ old. v.met_same old id.0 ∙ old)
    (λ fresh. v.met_more fresh id.0 ∙ taken (nat_eq id.0 id.0) (met id.0) (eq-eqb id.0 id.0 refl))

-- ---- several types

pub none_visited : (ids : List TypeId) (met : ℕ → Bool) (list : List TypeId) → AreVisited ids 0 met list met list
none_visited ids met list = record {
  kept = λ n is. is;
  each = λ k id low e. absurd (omega (arith, low));
  more = [];
  grown = append_none list;
  from = λ id (k, low, is). absurd (omega (arith, low));
  listed = λ n is. inl is;
} where
  append_none : (xs : List TypeId) → xs ≡ xs ++ []
  append_none [] = refl
  append_none (x ∷ xs) = ap (λ l. x ∷ l) (append_none xs)

module _ (ids : List TypeId) (many : ℕ) (met : ℕ → Bool) (list : List TypeId) (met1 : ℕ → Bool) (list1 : List TypeId) (id : TypeId) (met2 : ℕ → Bool) (list2 : List TypeId)
    (f : AreVisited ids many met list met1 list1) (here : slice_get ids many ≡ Some id) (v : IsVisited id met1 list1 met2 list2) where
  kept_on : (n : ℕ) → met1 n ≡ true → met2 n ≡ true
  kept_on n is = visit_kept id met1 met2 list1 list2 v n is

  each_next : (k : ℕ) (x : TypeId) → k < many + 1 → slice_get ids k ≡ Some x → met2 x.0 ≡ true
  each_next k x low e = elim (at_or_before k many low) [
    | inl same ↦
        let one : id ≡ x = same_Some id x (sym here ∙ (ap (λ j. slice_get ids j) (sym same) ∙ e)) in
        subst (λ (y : TypeId). met2 y.0 ≡ true) one (visit_notes id met1 met2 list1 list2 v)
    | inr less ↦ kept_on x.0 (f.each k x less e)
  ]

  visited_old : met1 id.0 ≡ true → AreVisited ids (many + 1) met list met2 list2
  visited_old old = record {
    kept = λ n is. kept_on n (f.kept n is);
    each = each_next;
    more = f.more;
    grown = v.list_same old ∙ f.grown;
    from = f.from;
    listed = λ n is. f.listed n (sym (v.met_same old n) ∙ is);
  }

  visited_new : met1 id.0 ≡ false → AreVisited ids (many + 1) met list met2 list2
  visited_new fresh = record {
    kept = λ n is. kept_on n (f.kept n is);
    each = each_next;
    more = f.more ++ id ∷ [];
    grown = v.list_more fresh ∙ (ap (λ l. l ++ id ∷ []) f.grown ∙ append_assoc list f.more (id ∷ []));
    from = λ x c. elim (Contains-push_cases f.more id x c) [
      | inl was ↦ f.from x was
      | inr same ↦ subst (λ (y : TypeId). Contains ids y) same (contained ids id many here)
    ];
    listed = λ n is. elim (or_before (nat_eq id.0 n) (met1 n) (sym (v.met_more fresh n) ∙ is)) [
      | inl same ↦ inr (id, Contains-push f.more id, eqb-true id.0 n same)
      | inr was ↦ elim (f.listed n was) [
        | inl old ↦ inl old
        | inr m ↦ inr (m.0, Contains-append_left f.more (id ∷ []) m.0 m.1, m.2)
      ]
    ];
  }

  pub visited_more : AreVisited ids (many + 1) met list met2 list2
  visited_more = by_bool (met1 id.0) visited_old visited_new

-- ---- the search

-- it begins with one type
pub begins : (Passes : GoType → Type 0) (t : TypeTable) (start : TypeId) (met : ℕ → Bool) (list : List TypeId) (new : ℕ → Bool) (newer : List TypeId)
    → start.0 < count t → ((n : ℕ) → met n ≡ false) → list ≡ [] → IsVisited start met list new newer → IsSearch Passes t start new newer 0
begins Passes t start met list new newer low none empty v =
    let one : newer ≡ start ∷ [] = v.list_more (none start.0) ∙ ap (λ l. l ++ start ∷ []) empty in
    record {
      begun = visit_notes start met new list newer v;
      within = λ id c. subst (λ (x : TypeId). x.0 < count t) (only id (subst (λ l. Contains l id) one c)) low;
      sound = λ id c o meets. subst (λ (x : TypeId). Meets (declarations_in t) o (type_at (types_in t) x)) (sym (only id (subst (λ l. Contains l id) one c))) meets;
      listed = λ n is. elim (or_before (nat_eq start.0 n) (met n) (sym (v.met_more (none start.0) n) ∙ is)) [
        | inl same ↦ (start, subst (λ l. Contains l start) (sym one) (0, omega arith, refl), eqb-true start.0 n same)
        | inr was ↦ absurd (let not_met = none n in cc)
      ];
      followed = λ k id less e. absurd (omega (arith, less));
    }
  where
    only : (id : TypeId) → Contains (start ∷ []) id → start ≡ id
    only id (zero, low, is) = is
    only id (suc k, low, is) = absurd (omega (arith, low))

module _ (Passes : GoType → Type 0) (t : TypeTable) (start : TypeId) (met : ℕ → Bool) (list : List TypeId) (next : ℕ) (s : IsSearch Passes t start met list next) where
  -- what the next type holds is visited
  module _ (here : TypeId) (low : next < length list) (at : slice_get list next ≡ Some here) (passes : Passes (type_at (types_in t) here))
      (ids : List TypeId) (are : map (λ id. type_at (types_in t) id) ids ≡ held (declarations_in t) (type_at (types_in t) here)) (below : AreBelow (count t) ids)
      (new : ℕ → Bool) (newer : List TypeId) (f : AreVisited ids (length ids) met list new newer) where
    old_or_more : (id : TypeId) → Contains newer id → Contains list id ⊎ Contains f.more id
    old_or_more id c = Contains-append_cases list f.more id (subst (λ l. Contains l id) f.grown c)

    older : (id : TypeId) → Contains list id → Contains newer id
    older id c = subst (λ l. Contains l id) (sym f.grown) (Contains-append_left list f.more id c)

    part_of_here : (id : TypeId) → Contains ids id → Contains (held (declarations_in t) (type_at (types_in t) here)) (type_at (types_in t) id)
    part_of_here id c = subst (λ (l : List GoType). Contains l (type_at (types_in t) id)) are (mapped (λ id. type_at (types_in t) id) ids id c)

    followed_still : (of : GoType) → IsFollowed Passes t met of → IsFollowed Passes t new of
    followed_still of was = record {
      passes = was.passes;
      parts = λ part has. let p = was.parts part has in (p.0, f.kept p.0.0 p.1, p.2);
    }

    followed_here : IsFollowed Passes t new (type_at (types_in t) here)
    followed_here = record {
      passes = passes;
      parts = λ part has.
          let p = unmapped (λ id. type_at (types_in t) id) ids part (subst (λ (l : List GoType). Contains l part) (sym are) has) in
          let r = read ids p.0 p.1 in
          (p.0, f.each r.0 p.0 r.1 r.2, p.2);
    }

    followed_next : (k : ℕ) (id : TypeId) → k < next + 1 → slice_get newer k ≡ Some id → IsFollowed Passes t new (type_at (types_in t) id)
    followed_next k id less e =
        let was : slice_get list k ≡ Some id = get_back list f.more k id (omega (arith, less, low)) (ap (λ l. slice_get l k) (sym f.grown) ∙ e) in
        elim (at_or_before k next less) [
          | inl same ↦
              let one : here ≡ id = same_Some here id (sym at ∙ (ap (λ j. slice_get list j) (sym same) ∙ was)) in
              subst (λ (x : TypeId). IsFollowed Passes t new (type_at (types_in t) x)) one followed_here
          | inr before ↦ followed_still (type_at (types_in t) id) (s.followed k id before was)
        ]

    pub goes_on : IsSearch Passes t start new newer (next + 1)
    goes_on = record {
      begun = f.kept start.0 s.begun;
      within = λ id c. elim (old_or_more id c) [
        | inl was ↦ s.within id was
        | inr more ↦ All-contains (λ (x : TypeId). x.0 < count t) ids id below (f.from id more)
      ];
      sound = λ id c o meets. elim (old_or_more id c) [
        | inl was ↦ s.sound id was o meets
        | inr more ↦ s.sound here (contained list here next at) o (MeetsHeld (type_at (types_in t) here) (type_at (types_in t) id) (part_of_here id (f.from id more)) meets)
      ];
      listed = λ n is. elim (f.listed n is) [
        | inl was ↦ let l = s.listed n was in (l.0, older l.0 l.1, l.2)
        | inr m ↦ (m.0, subst (λ l. Contains l m.0) (sym f.grown) (Contains-append_right list f.more m.0 m.1), m.2)
      ];
      followed = followed_next;
    }

  -- a listed name is met
  pub met_name : (here : TypeId) → slice_get list next ≡ Some here → (o : TypeName) → type_at (types_in t) here ≡ DefinedType o → Meets (declarations_in t) o (type_at (types_in t) start)
  met_name here at o is = s.sound here (contained list here next at) o (MeetsName (type_at (types_in t) here) is)

  -- where all that is listed was followed, each name that is met passes
  module _ (end : length list ≤ next) where
    follows : (id : TypeId) → Contains list id → IsFollowed Passes t met (type_at (types_in t) id)
    follows id c = let r = read list id c in let low = r.1 in s.followed r.0 id (omega (arith, low, end)) r.2

    passes_from : (o : TypeName) (id : TypeId) → Contains list id → (of : GoType) → type_at (types_in t) id ≡ of → Meets (declarations_in t) o of → Passes (DefinedType o)
    passes_from o id c of is (MeetsName _ e) = subst Passes (is ∙ e) (follows id c).passes
    passes_from o id c of is (MeetsHeld _ part has rest) =
        let p = (follows id c).parts part (subst (λ (x : GoType). Contains (held (declarations_in t) x) part) (sym is) has) in
        let l = s.listed p.0.0 p.1 in
        passes_from o l.0 l.1 part (ap (λ (n : ℕ). type_number (types_in t) n) l.2 ∙ p.2) rest

    pub all_pass : (o : TypeName) → Meets (declarations_in t) o (type_at (types_in t) start) → Passes (DefinedType o)
    all_pass o meets =
        let l = s.listed start.0 s.begun in
        passes_from o l.0 l.1 (type_at (types_in t) start) (ap (λ (n : ℕ). type_number (types_in t) n) l.2) meets

-- ---- the first name that isn't declared

module _ (t : TypeTable) (start : TypeId) (met : ℕ → Bool) (list : List TypeId) (next : ℕ) (s : IsSearch (IsKnownIn t) t start met list next) where
  -- a listed name that isn't declared is one that the question needs
  pub met_missing : (here : TypeId) → slice_get list next ≡ Some here → (o : TypeName) × IsMissing (declarations_in t) (type_at (types_in t) here) o
      → IsMetMissing t (type_at (types_in t) start) here
  met_missing here at (o, missing) = (o, s.within here (contained list here next at), missing.0, (met_name (IsKnownIn t) t start met list next s here at o missing.0, missing.1))

  -- where all that is listed was followed, all that is met is declared
  pub all_declared : length list ≤ next → EnoughToCompare (declarations_in t) (type_at (types_in t) start)
  all_declared end o meets = all_pass (IsKnownIn t) t start met list next s end o meets o refl
