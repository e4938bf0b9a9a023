-- How a search over what types lead to goes on.
use Rattle.std.proofs.Common.{◌≡◌, ◌⊎◌, inl, inr, ◌<◌, ◌≤◌, ◌+◌, ℕ, zero, suc, Bool, true, false, cond, List, [], ◌∷◌, ◌++◌, length, map, slice_get, Some, refl, sym, ap, ◌∙◌, subst, append_assoc, arith}
use Rattle.std.specs.Prelude.{nat_eq}
use Rattle.std.specs.List.{Contains}
use Rattle.std.proofs.lemmas.Bool.{eqb-true, eq-eqb}
use Rattle.std.proofs.lemmas.List.Elements.{Contains-push, Contains-push_cases, Contains-append_left, Contains-append_right, Contains-append_cases, All-contains}
use Rattle.std.proofs.lemmas.Option.{same_Some, slice_get_within, slice_get-get_or, get_or_from_slice_get}
use Rattle.type_model.specs.declared.term.TypeId.{TypeId}
use Rattle.type_model.specs.declared.table.TypeTable.{TypeTable}
use Rattle.type_model.specs.GoTypes.{GoType, AreBelow, type_at, type_number}
use Rattle.type_model.specs.Declarations.{Declarations}
use Rattle.type_model.specs.Tables.{types_in, count}
use Rattle.type_model.proofs.TypeLaws.{push_cases}
use Rattle.package_faces.specs.Reaching.{Reaches, ReachesStart, ReachesNext, next_types}
use Rattle.export_text.specs.Searching.{Once, IsVisited, AreVisited, IsFollowed, IsSearch, AreReached}

by_bool : {C : Type 0} (b : Bool) → (b ≡ true → C) → (b ≡ false → C) → C
by_bool true f g = f refl
by_bool false f g = g refl

taken : (b c : Bool) → b ≡ true → cond b true c ≡ true
taken true c e = refl
taken false c e = absurd cc

or_before : (b c : Bool) → cond b true c ≡ true → (b ≡ true) ⊎ (c ≡ true)
or_before true c e = inl refl
or_before false c e = inr e

or_kept : (b c : Bool) → c ≡ true → cond b true c ≡ true
or_kept true c e = refl
or_kept false c e = e

pub at_or_before : (k n : ℕ) → k < n + 1 → (k ≡ n) ⊎ (k < n)
at_or_before zero zero low = inl refl
at_or_before zero (suc n) low = inr (omega arith)
at_or_before (suc k) zero low = absurd (omega (arith, low))
at_or_before (suc k) (suc n) low = elim (at_or_before k n (omega (arith, low))) [
  | inl same ↦ inl (ap suc same)
  | inr less ↦ inr (omega (arith, less))
]

pub contained : {X : Type 0} (xs : List X) (x : X) (k : ℕ) → slice_get xs k ≡ Some x → Contains xs x
contained xs x k e = (k, slice_get_within xs k x e, get_or_from_slice_get xs k x x e)

pub read : {X : Type 0} (xs : List X) (x : X) → Contains xs x → (k : ℕ) × (k < length xs) × (slice_get xs k ≡ Some x)
read xs x (k, low, is) = (k, low, slice_get-get_or xs k x low ∙ ap Some is)

get_back : {X : Type 0} (xs ys : List X) (k : ℕ) (x : X) → k < length xs → slice_get (xs ++ ys) k ≡ Some x → slice_get xs k ≡ Some x
get_back [] ys k x low e = absurd (omega (arith, low))
get_back (y ∷ xs) ys zero x low e = e
get_back (y ∷ xs) ys (suc k) x low e = get_back xs ys k x (omega (arith, low)) e

pub mapped : {X Y : Type 0} (f : X → Y) (xs : List X) (x : X) → Contains xs x → Contains (map f xs) (f x)
mapped f [] x (k, low, is) = absurd (omega (arith, low))
mapped f (y ∷ xs) x (zero, low, is) = (0, omega arith, ap f is)
mapped f (y ∷ xs) x (suc k, low, is) = let r = mapped f xs x (k, omega (arith, low), is) in (suc r.0, omega (arith, r.1), r.2)

pub unmapped : {X Y : Type 0} (f : X → Y) (xs : List X) (y : Y) → Contains (map f xs) y → (x : X) × Contains xs x × (f x ≡ y)
unmapped f [] y (k, low, is) = absurd (omega (arith, low))
unmapped f (x ∷ xs) y (zero, low, is) = (x, (0, omega arith, refl), is)
unmapped f (x ∷ xs) y (suc k, low, is) =
    let r = unmapped f xs y (k, omega (arith, low), is) in (r.0, (suc r.1.0, omega (arith, r.1.1), r.1.2), r.2)

-- ---- each once

once_push : (xs : List TypeId) (x : TypeId) → Once xs → (Contains xs x → ⊥) → Once (xs ++ x ∷ [])
once_push xs x once not i j y first second = elim (push_cases xs x i y first) [
  | inl a ↦ elim (push_cases xs x j y second) [
    | inl b ↦ once i j y a b
    | inr (at, is) ↦ absurd (not (subst (λ (z : TypeId). Contains xs z) is (contained xs y i a)))
  ]
  | inr (at, is) ↦ elim (push_cases xs x j y second) [
    | inl b ↦ absurd (not (subst (λ (z : TypeId). Contains xs z) is (contained xs y j b)))
    | inr (there, same) ↦ at ∙ sym there
  ]
]

split : (xs ys : List TypeId) (i : ℕ) (z : TypeId) → slice_get (xs ++ ys) i ≡ Some z → (slice_get xs i ≡ Some z) ⊎ ((k : ℕ) × (i ≡ length xs + k) × (slice_get ys k ≡ Some z))
split [] ys i z e = inr (i, omega arith, e)
split (x ∷ xs) ys zero z e = inl e
split (x ∷ xs) ys (suc i) z e = elim (split xs ys i z e) [
  | inl a ↦ inl a
  | inr (k, at, there) ↦ inr (k, omega (arith, at), there)
]

once_append : (xs ys : List TypeId) → Once xs → Once ys → ((x : TypeId) → Contains xs x → Contains ys x → ⊥) → Once (xs ++ ys)
once_append xs ys p q apart i j z first second = elim (split xs ys i z first) [
  | inl a ↦ elim (split xs ys j z second) [
    | inl b ↦ p i j z a b
    | inr (k, at, there) ↦ absurd (apart z (contained xs z i a) (contained ys z k there))
  ]
  | inr (k, at, there) ↦ elim (split xs ys j z second) [
    | inl b ↦ absurd (apart z (contained xs z j b) (contained ys z k there))
    | inr (l, at2, there2) ↦ let same = q k l z there there2 in omega (arith, at, at2, same)
  ]
]

-- ---- one type

pub visit_kept : (id : TypeId) (met new : ℕ → Bool) (list newer : List TypeId) → IsVisited id met list new newer → (n : ℕ) → met n ≡ true → new n ≡ true
visit_kept id met new list newer v n is = by_bool (met id.0)
    (λ old. v.met_same old n ∙ is)
    (λ fresh. v.met_more fresh n ∙ or_kept (nat_eq id.0 n) (met n) is)

pub visit_notes : (id : TypeId) (met new : ℕ → Bool) (list newer : List TypeId) → IsVisited id met list new newer → new id.0 ≡ true
visit_notes id met new list newer v = by_bool (met id.0)
    (λ old. v.met_same old id.0 ∙ old)
    (λ fresh. v.met_more fresh id.0 ∙ taken (nat_eq id.0 id.0) (met id.0) (eq-eqb id.0 id.0 refl))

-- ---- several types

pub none_visited : (ids : List TypeId) (met : ℕ → Bool) (list : List TypeId) → AreVisited ids 0 met list met list
none_visited ids met list = record {
  kept = λ n is. is;
  each = λ k id low e. absurd (omega (arith, low));
  more = [];
  grown = append_none list;
  from = λ id (k, low, is). absurd (omega (arith, low));
  listed = λ n is. inl is;
  fresh = λ id (k, low, is). absurd (omega (arith, low));
  noted = λ id (k, low, is). absurd (omega (arith, low));
  once = λ i j id first second. absurd cc;
} where
  append_none : (xs : List TypeId) → xs ≡ xs ++ []
  append_none [] = refl
  append_none (x ∷ xs) = ap (λ l. x ∷ l) (append_none xs)

module _ (ids : List TypeId) (many : ℕ) (met : ℕ → Bool) (list : List TypeId) (met1 : ℕ → Bool) (list1 : List TypeId) (id : TypeId) (met2 : ℕ → Bool) (list2 : List TypeId)
    (f : AreVisited ids many met list met1 list1) (here : slice_get ids many ≡ Some id) (v : IsVisited id met1 list1 met2 list2) where
  kept_on : (n : ℕ) → met1 n ≡ true → met2 n ≡ true
  kept_on n is = visit_kept id met1 met2 list1 list2 v n is

  each_next : (k : ℕ) (x : TypeId) → k < many + 1 → slice_get ids k ≡ Some x → met2 x.0 ≡ true
  each_next k x low e = elim (at_or_before k many low) [
    | inl same ↦
        let one : id ≡ x = same_Some id x (sym here ∙ (ap (λ j. slice_get ids j) (sym same) ∙ e)) in
        subst (λ (y : TypeId). met2 y.0 ≡ true) one (visit_notes id met1 met2 list1 list2 v)
    | inr less ↦ kept_on x.0 (f.each k x less e)
  ]

  visited_old : met1 id.0 ≡ true → AreVisited ids (many + 1) met list met2 list2
  visited_old old = record {
    kept = λ n is. kept_on n (f.kept n is);
    each = each_next;
    more = f.more;
    grown = v.list_same old ∙ f.grown;
    from = f.from;
    listed = λ n is. f.listed n (sym (v.met_same old n) ∙ is);
    fresh = f.fresh;
    noted = λ x c. kept_on x.0 (f.noted x c);
    once = f.once;
  }

  not_before : met1 id.0 ≡ false → met id.0 ≡ false
  not_before none = by_bool (met id.0) (λ old. absurd (let now = f.kept id.0 old in let is = none in cc)) (λ no. no)

  visited_new : met1 id.0 ≡ false → AreVisited ids (many + 1) met list met2 list2
  visited_new fresh = record {
    kept = λ n is. kept_on n (f.kept n is);
    each = each_next;
    more = f.more ++ id ∷ [];
    grown = v.list_more fresh ∙ (ap (λ l. l ++ id ∷ []) f.grown ∙ append_assoc list f.more (id ∷ []));
    from = λ x c. elim (Contains-push_cases f.more id x c) [
      | inl was ↦ f.from x was
      | inr same ↦ subst (λ (y : TypeId). Contains ids y) same (contained ids id many here)
    ];
    listed = λ n is. elim (or_before (nat_eq id.0 n) (met1 n) (sym (v.met_more fresh n) ∙ is)) [
      | inl same ↦ inr (id, Contains-push f.more id, eqb-true id.0 n same)
      | inr was ↦ elim (f.listed n was) [
        | inl old ↦ inl old
        | inr m ↦ inr (m.0, Contains-append_left f.more (id ∷ []) m.0 m.1, m.2)
      ]
    ];
    fresh = λ x c. elim (Contains-push_cases f.more id x c) [
      | inl was ↦ f.fresh x was
      | inr same ↦ subst (λ (y : TypeId). met y.0 ≡ false) same (not_before fresh)
    ];
    noted = λ x c. elim (Contains-push_cases f.more id x c) [
      | inl was ↦ kept_on x.0 (f.noted x was)
      | inr same ↦ subst (λ (y : TypeId). met2 y.0 ≡ true) same (visit_notes id met1 met2 list1 list2 v)
    ];
    once = once_push f.more id f.once (λ c. absurd (let was = f.noted id c in let is = fresh in cc));
  }

  pub visited_more : AreVisited ids (many + 1) met list met2 list2
  visited_more = by_bool (met1 id.0) visited_old visited_new

-- ---- the search

-- it begins with some types
pub begins : (t : TypeTable) (ds : Declarations) (path : List ℕ) (start : List TypeId) (met : ℕ → Bool) (list : List TypeId) (new : ℕ → Bool) (newer : List TypeId)
    → AreBelow (count t) start → ((n : ℕ) → met n ≡ false) → list ≡ [] → AreVisited start (length start) met list new newer → IsSearch t ds path start new newer 0
begins t ds path start met list new newer below none empty f = record {
  begun = λ id c. let r = read start id c in f.each r.0 id r.1 r.2;
  within = λ id c. All-contains (λ (x : TypeId). x.0 < count t) start id below (only id c);
  sound = λ id c. ReachesStart (type_at (types_in t) id) (mapped (λ id. type_at (types_in t) id) start id (only id c));
  listed = λ n is. elim (f.listed n is) [
    | inl was ↦ absurd (let not_met = none n in cc)
    | inr m ↦ (m.0, subst (λ l. Contains l m.0) (sym f.grown) (Contains-append_right list f.more m.0 m.1), m.2)
  ];
  noted = λ id c. f.noted id (in_more id c);
  once = subst Once (sym (f.grown ∙ ap (λ (l : List TypeId). l ++ f.more) empty)) f.once;
  followed = λ k id less e. absurd (omega (arith, less));
}
  where
    nothing : (l : List TypeId) → l ≡ [] → (id : TypeId) → Contains l id → ⊥
    nothing [] e id (k, low, is) = absurd (omega (arith, low))
    nothing (x ∷ l) e id c = absurd cc

    in_more : (id : TypeId) → Contains newer id → Contains f.more id
    in_more id c = elim (Contains-append_cases list f.more id (subst (λ l. Contains l id) f.grown c)) [
      | inl was ↦ absurd (nothing list empty id was)
      | inr more ↦ more
    ]

    only : (id : TypeId) → Contains newer id → Contains start id
    only id c = f.from id (in_more id c)

module _ (t : TypeTable) (ds : Declarations) (path : List ℕ) (start : List TypeId) (met : ℕ → Bool) (list : List TypeId) (next : ℕ) (s : IsSearch t ds path start met list next) where
  -- what the next type leads to is visited
  module _ (here : TypeId) (low : next < length list) (at : slice_get list next ≡ Some here)
      (ids : List TypeId) (are : map (λ id. type_at (types_in t) id) ids ≡ next_types ds path (type_at (types_in t) here)) (below : AreBelow (count t) ids)
      (new : ℕ → Bool) (newer : List TypeId) (f : AreVisited ids (length ids) met list new newer) where
    old_or_more : (id : TypeId) → Contains newer id → Contains list id ⊎ Contains f.more id
    old_or_more id c = Contains-append_cases list f.more id (subst (λ l. Contains l id) f.grown c)

    older : (id : TypeId) → Contains list id → Contains newer id
    older id c = subst (λ l. Contains l id) (sym f.grown) (Contains-append_left list f.more id c)

    part_of_here : (id : TypeId) → Contains ids id → Contains (next_types ds path (type_at (types_in t) here)) (type_at (types_in t) id)
    part_of_here id c = subst (λ (l : List GoType). Contains l (type_at (types_in t) id)) are (mapped (λ id. type_at (types_in t) id) ids id c)

    followed_still : (of : GoType) → IsFollowed t ds path met of → IsFollowed t ds path new of
    followed_still of was = record { parts = λ part has. let p = was.parts part has in (p.0, f.kept p.0.0 p.1, p.2) }

    followed_here : IsFollowed t ds path new (type_at (types_in t) here)
    followed_here = record {
      parts = λ part has.
          let p = unmapped (λ id. type_at (types_in t) id) ids part (subst (λ (l : List GoType). Contains l part) (sym are) has) in
          let r = read ids p.0 p.1 in
          (p.0, f.each r.0 p.0 r.1 r.2, p.2);
    }

    followed_next : (k : ℕ) (id : TypeId) → k < next + 1 → slice_get newer k ≡ Some id → IsFollowed t ds path new (type_at (types_in t) id)
    followed_next k id less e =
        let was : slice_get list k ≡ Some id = get_back list f.more k id (omega (arith, less, low)) (ap (λ l. slice_get l k) (sym f.grown) ∙ e) in
        elim (at_or_before k next less) [
          | inl same ↦
              let one : here ≡ id = same_Some here id (sym at ∙ (ap (λ j. slice_get list j) (sym same) ∙ was)) in
              subst (λ (x : TypeId). IsFollowed t ds path new (type_at (types_in t) x)) one followed_here
          | inr before ↦ followed_still (type_at (types_in t) id) (s.followed k id before was)
        ]

    pub goes_on : IsSearch t ds path start new newer (next + 1)
    goes_on = record {
      begun = λ id c. f.kept id.0 (s.begun id c);
      within = λ id c. elim (old_or_more id c) [
        | inl was ↦ s.within id was
        | inr more ↦ All-contains (λ (x : TypeId). x.0 < count t) ids id below (f.from id more)
      ];
      sound = λ id c. elim (old_or_more id c) [
        | inl was ↦ s.sound id was
        | inr more ↦ ReachesNext (type_at (types_in t) here) (type_at (types_in t) id) (s.sound here (contained list here next at)) (part_of_here id (f.from id more))
      ];
      listed = λ n is. elim (f.listed n is) [
        | inl was ↦ let l = s.listed n was in (l.0, older l.0 l.1, l.2)
        | inr m ↦ (m.0, subst (λ l. Contains l m.0) (sym f.grown) (Contains-append_right list f.more m.0 m.1), m.2)
      ];
      noted = λ id c. elim (old_or_more id c) [
        | inl was ↦ f.kept id.0 (s.noted id was)
        | inr more ↦ f.noted id more
      ];
      once = subst Once (sym f.grown) (once_append list f.more s.once f.once (λ x a b. absurd (let yes = s.noted x a in let none = f.fresh x b in cc)));
      followed = followed_next;
    }

  -- where all that is listed was followed, all that is reached is listed
  module _ (end : length list ≤ next) where
    follows : (id : TypeId) → Contains list id → IsFollowed t ds path met (type_at (types_in t) id)
    follows id c = let r = read list id c in let low = r.1 in s.followed r.0 id (omega (arith, low, end)) r.2

    there : (n : ℕ) (of : GoType) → met n ≡ true → type_number (types_in t) n ≡ of → (id : TypeId) × Contains list id × (type_at (types_in t) id ≡ of)
    there n of noted is = let l = s.listed n noted in (l.0, l.1, ap (λ (m : ℕ). type_number (types_in t) m) l.2 ∙ is)

    all_there : (of : GoType) → Reaches ds path (map (λ id. type_at (types_in t) id) start) of → (id : TypeId) × Contains list id × (type_at (types_in t) id ≡ of)
    all_there of (ReachesStart _ has) =
        let p = unmapped (λ id. type_at (types_in t) id) start of has in
        there p.0.0 of (s.begun p.0 p.1) p.2
    all_there of (ReachesNext from _ before has) =
        let l = all_there from before in
        let p = (follows l.0 l.1).parts of (subst (λ (x : GoType). Contains (next_types ds path x) of) (sym l.2) has) in
        there p.0.0 of p.1 p.2

    pub all_reached : AreReached t ds path start list
    all_reached = record { within = s.within; sound = s.sound; all = all_there; once = s.once }
