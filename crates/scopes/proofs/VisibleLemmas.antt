-- What is visible, as declarations are entered and end.
use Rattle.std.proofs.Common.{◌≡◌, ℕ, ◌<◌, ◌+◌, ◌-◌, ◌≤◌, ◌⊎◌, ◌&&◌, Bool, true, false, List, [], ◌∷◌, ◌++◌, length, slice_get, Option, Some, None, refl, sym, ap, ◌∙◌, subst, inl, inr, arith, zero, suc, get_or, set, get_or-set_same, get_or-set_other, nat_eq, eqb→eq, eq-eqb, ◌≢◌, T, take, length-append, append_assoc}
use Rattle.std.specs.List.{Contains, All}
use Rattle.std.specs.Global.{Vec}
use Rattle.std.proofs.lemmas.List.Elements.{Contains-push, Contains-get_or, Contains-push_cases, Contains-append_left, Contains-append_right, Contains-append_cases}
use Rattle.std.proofs.lemmas.List.{append-nil, get_or_default}
use Rattle.std.proofs.Math.Seq.{get_or-append_seam}
use Rattle.std.proofs.lemmas.Option.{slice_get_within, get_or_from_slice_get, slice_get-get_or}
use Rattle.std.proofs.Math.ListN.{length-set, get_or-append}
use Rattle.scopes.specs.declared.visible.Declaration.{Declaration}
use Rattle.scopes.specs.declared.visible.Use.{Use}
use Rattle.scopes.specs.Denotes.{HasRegion, Holds, Within, Inner, Denotes, Answers, IsLaid, IsFlags, AreUses, AreAnswered}
use Rattle.scopes.specs.Visible.{Ended, Lasts, Taken, TopLasts, TopTest, Chained, Encloses, IsVisible, AllVisible, Reached, NoneLeft, IfRegion, VisibleAt, AllEmpty, Walked}
use Rattle.gv_base.proofs.Lists.{same_some}

-- a declaration, for where there is none
abbrev pub no_declaration : Declaration
no_declaration = record { name = 0; start = 0; «end» = 0; local = false }

none_in : (k : ℕ) → Contains [] k → ⊥
none_in k (i, h, e) = absurd (omega arith)

chained_front : (R : ℕ → ℕ → Type 0) (ks off : List ℕ) → Chained R (ks ++ off) → Chained R ks
chained_front R [] off h = tt
chained_front R (k ∷ ks) off h = (λ j is. h.0 j (Contains-append_left ks off j is), chained_front R ks off h.1)

Contains-head : (k : ℕ) (ks : List ℕ) → Contains (k ∷ ks) k
Contains-head k ks = Contains-append_left (k ∷ []) ks k (Contains-push [] k)

Contains-tail : (k j : ℕ) (ks : List ℕ) → Contains ks j → Contains (k ∷ ks) j
Contains-tail k j ks h = Contains-append_right (k ∷ []) ks j h

Contains-cons_cases : (k j : ℕ) (ks : List ℕ) → Contains (k ∷ ks) j → (k ≡ j) ⊎ Contains ks j
Contains-cons_cases k j ks h = elim (Contains-append_cases (k ∷ []) ks j h) [
  | inl one ↦ elim (Contains-push_cases [] k j one) [ inl never ↦ absurd (none_in j never) | inr same ↦ inl same ]
  | inr rest ↦ inr rest
]

chained_push : (R : ℕ → ℕ → Type 0) (ks : List ℕ) (n : ℕ) → Chained R ks → ((k : ℕ) → Contains ks k → R k n) → Chained R (ks ++ n ∷ [])
chained_push R [] n h all = (λ j never. absurd (none_in j never), tt)
chained_push R (k ∷ ks) n h all = (
  λ j is. elim (Contains-push_cases ks n j is) [
    | inl old ↦ h.0 j old
    | inr new ↦ subst (λ (x : ℕ). R k x) new (all k (Contains-head k ks))
  ],
  chained_push R ks n h.1 (λ j is. all j (Contains-tail k j ks is)),
)

-- all below the last one stand in R to it
chained_last : (R : ℕ → ℕ → Type 0) (ks : List ℕ) (n : ℕ) → Chained R (ks ++ n ∷ []) → (k : ℕ) → Contains ks k → R k n
chained_last R [] n h k is = absurd (none_in k is)
chained_last R (x ∷ ks) n h k is = elim (Contains-cons_cases x k ks is) [
  | inl here ↦ subst (λ (y : ℕ). R y n) here (h.0 n (Contains-push ks n))
  | inr rest ↦ chained_last R ks n h.1 k rest
]

pub last_split : (s : List ℕ) → (s ≡ []) ⊎ ((t : List ℕ) × (k : ℕ) × (s ≡ t ++ k ∷ []))
last_split [] = inl refl
last_split (k ∷ ks) = elim (last_split ks) [
  | inl none ↦ inr ([], k, ap (λ x. k ∷ x) none)
  | inr (t, l, e) ↦ inr (k ∷ t, l, ap (λ x. k ∷ x) e)
]

-- ---- leaving

pub taken_none : (ds : List Declaration) (at : ℕ) (s : List ℕ) → Taken ds at s s
taken_none ds at s = record { off = []; same = sym (append-nil s); ended = λ k h. absurd (none_in k h) }

append_one : (s off : List ℕ) (k : ℕ) → (s ++ k ∷ []) ++ off ≡ s ++ k ∷ off
append_one s off k = append_assoc s (k ∷ []) off

pub taken_more : (ds : List Declaration) (at : ℕ) (old now s : List ℕ) (k : ℕ) → Taken ds at old now → now ≡ s ++ k ∷ [] → Ended ds at k → Taken ds at old s
taken_more ds at old now s k was is ended = record {
  off = k ∷ was.off;
  same = was.same ∙ (ap (λ x. x ++ was.off) is ∙ append_one s was.off k);
  ended = λ j h. elim (Contains-cons_cases k j was.off h) [
    | inl here ↦ subst (λ (x : ℕ). Ended ds at x) here ended
    | inr rest ↦ was.ended j rest
  ];
}

pub left_visible : (ds : List Declaration) (next from at name : ℕ) (old new : List ℕ) → IsVisible ds next from name old → from ≤ at → Taken ds at old new
    → IsVisible ds next at name new
left_visible ds next from at name old new was later taken = record {
  only = λ k h. was.only k (subst (λ (x : List ℕ). Contains x k) (sym taken.same) (Contains-append_left new taken.off k h));
  chain = chained_front (Encloses ds) new taken.off (subst (λ (x : List ℕ). Chained (Encloses ds) x) taken.same was.chain);
  all = λ k d low region named lasts.
      let there : Contains old k = was.all k d low region named (omega arith) in
      elim (Contains-append_cases new taken.off k (subst (λ (x : List ℕ). Contains x k) taken.same there)) [
        | inl left ↦ left
        | inr off ↦ absurd (over k d region.0 lasts (taken.ended k off))
      ];
} where
  over : (k : ℕ) (d : Declaration) → slice_get ds k ≡ Some d → at < d.end → Ended ds at k → ⊥
  over k d there lasts (e, is, ended) =
      let same : e ≡ d = same_some (slice_get ds k) e d is there in
      let ends : e.end ≡ d.end = ap (λ (x : Declaration). x.end) same in omega arith

-- ---- the top

get_end : (s : List ℕ) (k : ℕ) → slice_get (s ++ k ∷ []) (length s) ≡ Some k
get_end [] k = refl
get_end (x ∷ s) k = get_end s k

take_end : (s : List ℕ) (k : ℕ) → take (length s) (s ++ k ∷ []) ≡ s
take_end [] k = refl
take_end (x ∷ s) k = ap (λ r. x ∷ r) (take_end s k)

less_one : (s : List ℕ) (k : ℕ) → length (s ++ k ∷ []) - 1 ≡ length s
less_one s k = let e = length-append s (k ∷ []) in omega arith

pub last_at : (s : List ℕ) (k : ℕ) → slice_get (s ++ k ∷ []) (length (s ++ k ∷ []) - 1) ≡ Some k
last_at s k = ap (λ i. slice_get (s ++ k ∷ []) i) (less_one s k) ∙ get_end s k

pub split_at_last : (s : List ℕ) (k : ℕ) → slice_get s (length s - 1) ≡ Some k → (t : List ℕ) × (s ≡ t ++ k ∷ [])
split_at_last s k is = elim (last_split s) [
  | inl none ↦ absurd (let e : None ≡ Some k = ap (λ x. slice_get x (length x - 1)) (sym none) ∙ is in cc)
  | inr (t, l, e) ↦
      let there : Some l ≡ Some k = sym (last_at t l) ∙ (ap (λ x. slice_get x (length x - 1)) (sym e) ∙ is) in
      let same : l ≡ k = same_some (Some l) l k refl there in
      (t, e ∙ ap (λ x. t ++ x ∷ []) same)
]

pub popped : (s t : List ℕ) (k : ℕ) (new : List ℕ) → s ≡ t ++ k ∷ [] → new ≡ take (length s - 1) s → new ≡ t
popped s t k new e is = is ∙ (ap (λ x. take (length x - 1) x) e ∙ (ap (λ i. take i (t ++ k ∷ [])) (less_one t k) ∙ take_end t k))

pub ended_there : (ds : List Declaration) (at : ℕ) (s : List ℕ) (k : ℕ) (d : Declaration) → slice_get s (length s - 1) ≡ Some k → slice_get ds k ≡ Some d → d.end ≤ at → TopTest ds at s true
ended_there ds at s k d is there ended = let t = split_at_last s k is in (t.0, k, t.1, (d, there, ended))

pub lasts_there : (ds : List Declaration) (at : ℕ) (s : List ℕ) (k : ℕ) (d : Declaration) → slice_get s (length s - 1) ≡ Some k → slice_get ds k ≡ Some d → at < d.end → TopTest ds at s false
lasts_there ds at s k d is there lasts t l e =
    let at_end : slice_get s (length s - 1) ≡ Some l = ap (λ x. slice_get x (length x - 1)) e ∙ last_at t l in
    let same : k ≡ l = same_some (slice_get s (length s - 1)) k l is at_end in
    subst (λ (x : ℕ). Lasts ds at x) same (d, there, lasts)

pub empty_lasts : (ds : List Declaration) (at : ℕ) (s : List ℕ) → slice_get s (length s - 1) ≡ None → TopTest ds at s false
empty_lasts ds at s none t l e = absurd (let at_end : slice_get s (length s - 1) ≡ Some l = ap (λ x. slice_get x (length x - 1)) e ∙ last_at t l in cc)

-- ---- entering

-- where the last one goes on, all do
pub all_last : (ds : List Declaration) (next from at name : ℕ) (s : List ℕ) → IsVisible ds next from name s → TopLasts ds at s
    → (k : ℕ) (d : Declaration) → Contains s k → slice_get ds k ≡ Some d → at < d.end
all_last ds next from at name s is top k d h there = elim (last_split s) [
  | inl none ↦ absurd (none_in k (subst (λ (x : List ℕ). Contains x k) none h))
  | inr (t, l, e) ↦ elim (Contains-push_cases t l k (subst (λ (x : List ℕ). Contains x k) e h)) [
    | inl below ↦ under l t e below (top t l e)
    | inr here ↦ self l here (top t l e)
  ]
] where
  self : (l : ℕ) → l ≡ k → Lasts ds at l → at < d.end
  self l here (g, is_g, lasts) =
      let same : g ≡ d = same_some (slice_get ds k) g d (ap (λ x. slice_get ds x) (sym here) ∙ is_g) there in
      let ends : g.end ≡ d.end = ap (λ (x : Declaration). x.end) same in omega arith

  under : (l : ℕ) (t : List ℕ) → s ≡ t ++ l ∷ [] → Contains t k → Lasts ds at l → at < d.end
  under l t e below (g, is_g, lasts) =
      let inner = chained_last (Encloses ds) t l (subst (λ (x : List ℕ). Chained (Encloses ds) x) e is.chain) k below d g there is_g in
      let ends = inner.1 in omega arith

pub entered_visible : (ds : List Declaration) (next name : ℕ) (d : Declaration) (s : List ℕ) → IsLaid ds → HasRegion ds next d → d.name ≡ name
    → IsVisible ds next d.start name s → TopLasts ds d.start s → IsVisible ds (next + 1) d.start name (s ++ next ∷ [])
entered_visible ds next name d s laid region named was top = record {
  only = λ k h. elim (Contains-push_cases s next k h) [
    | inl old ↦ let o = was.only k old in (o.0, o.1, o.2, omega (arith, o.3))
    | inr here ↦ (d, subst (λ (x : ℕ). HasRegion ds x d) here region, named, omega arith)
  ];
  chain = chained_push (Encloses ds) s next was.chain (λ k h. encloses k h (was.only k h));
  all = λ k e low has same lasts. elim (before_or_at k low) [
    | inl before ↦ Contains-append_left s (next ∷ []) k (was.all k e before has same lasts)
    | inr here ↦ subst (λ (x : ℕ). Contains (s ++ next ∷ []) x) (sym here) (Contains-push s next)
  ];
} where
  before_or_at : (k : ℕ) → k < next + 1 → (k < next) ⊎ (k ≡ next)
  before_or_at k low = grind arith

  at_that : (k : ℕ) (e : Declaration) → HasRegion ds k e → e.name ≡ name → k < next → d.start < e.end → Inner d e
  at_that k e has same low lasts = elim ((laid k next e d low has.0 region.0).1) [
    | inl block ↦ absurd (region.1 (k, e, low, has.0, block, same ∙ sym named))
    | inr other ↦ elim other [
      | inl apart ↦ absurd (omega arith)
      | inr inner ↦ inner
    ]
  ]

  encloses : (k : ℕ) → Contains s k → (e : Declaration) × HasRegion ds k e × (e.name ≡ name) × (k < next) → Encloses ds k next
  encloses k h (e, has, same, low) f g is_f is_g =
      let inner = at_that k e has same low (all_last ds next d.start d.start name s was top k e h has.0) in
      let e_f : e ≡ f = same_some (slice_get ds k) e f has.0 is_f in
      let d_g : d ≡ g = same_some (slice_get ds next) d g region.0 is_g in
      subst (λ (x : Declaration). Inner x f) d_g (subst (λ (x : Declaration). Inner d x) e_f inner)

-- one that has no region, or another name, changes nothing
pub passed_visible : (ds : List Declaration) (next from at name : ℕ) (s : List ℕ) → from ≤ at
    → ((d : Declaration) → HasRegion ds next d → d.name ≡ name → ⊥) → IsVisible ds next from name s → IsVisible ds (next + 1) at name s
passed_visible ds next from at name s later not was = record {
  only = λ k h. let o = was.only k h in (o.0, o.1, o.2, omega (arith, o.3));
  chain = was.chain;
  all = λ k d low has same lasts. elim (before_or_at k low) [
    | inl before ↦ was.all k d before has same (omega arith)
    | inr here ↦ absurd (not d (subst (λ (x : ℕ). HasRegion ds x d) here has) same)
  ];
} where
  before_or_at : (k : ℕ) → k < next + 1 → (k < next) ⊎ (k ≡ next)
  before_or_at k low = grind arith

-- ---- answers

below_or_not : (next j : ℕ) → (j < next) ⊎ (next ≤ j)
below_or_not next j = grind arith

-- the declaration of the name that encloses no other one is denoted
pub denotes_top : (ds : List Declaration) (next from : ℕ) (u : Use) (s : List ℕ) (k : ℕ)
    → ((j : ℕ) (e : Declaration) → j < next → slice_get ds j ≡ Some e → e.start ≤ u.at) → NoneLeft ds next u.at
    → IsVisible ds next from u.name (s ++ k ∷ []) → from ≤ u.at → TopLasts ds u.at (s ++ k ∷ []) → Denotes ds u k
denotes_top ds next from u s k begun none is low top = of_top (is.only k (Contains-push s k)) where
  of_top : (d : Declaration) × HasRegion ds k d × (d.name ≡ u.name) × (k < next) → Denotes ds u k
  of_top (d, has, named, below) = record {
    d = d;
    region = has;
    named = named;
    holds = (begun k d below has.0, all_last ds next from u.at u.name (s ++ k ∷ []) is top k d (Contains-push s k) has.0);
    smallest = λ j e other same holds. elim (Contains-push_cases s k j (is.all j e (early j e other holds) other same (let h = holds.1 in omega arith))) [
      | inl under ↦ let inner = chained_last (Encloses ds) s k is.chain j under e d other.0 has.0 in (inner.0, let h = inner.1 in omega arith)
      | inr here ↦ itself e d (same_some (slice_get ds j) e d other.0 (ap (λ x. slice_get ds x) (sym here) ∙ has.0))
    ];
  } where
    early : (j : ℕ) (e : Declaration) → HasRegion ds j e → Holds e u.at → j < next
    early j e other holds = elim (below_or_not next j) [
      | inl low ↦ low
      | inr high ↦ absurd (let h = none j e high other.0 in let g = holds.0 in omega arith)
    ]

    itself : (e g : Declaration) → e ≡ g → Within g e
    itself e g same = let a : e.start ≡ g.start = ap (λ (x : Declaration). x.start) same in let b : e.end ≡ g.end = ap (λ (x : Declaration). x.end) same in (omega arith, omega arith)

pub denotes_none : (ds : List Declaration) (next from : ℕ) (u : Use) → NoneLeft ds next u.at → IsVisible ds next from u.name [] → from ≤ u.at → (k : ℕ) → Denotes ds u k → ⊥
denotes_none ds next from u none is low k denotes =
    elim (below_or_not next k) [
      | inl early ↦ none_in k (is.all k denotes.d early denotes.region denotes.named (let h = denotes.holds.1 in omega arith))
      | inr high ↦ (let h = none k denotes.d high denotes.region.0 in let g = denotes.holds.0 in omega arith)
    ]

pub below_all : (s : List ℕ) (k n : ℕ) → slice_get s (length s - 1) ≡ Some k → All (λ x. x < n) s → k < n
below_all s k n is all =
    let within : length s - 1 < length s = slice_get_within s (length s - 1) k is in
    let there : get_or s (length s - 1) 0 ≡ k = get_or_from_slice_get s (length s - 1) k 0 is in
    let low = all (length s - 1) 0 within in omega arith

-- ---- all stacks

nat_cases : (i j : ℕ) → (i ≡ j) ⊎ (i ≢ j)
nat_cases i j = at (nat_eq i j) refl where
  at : (same : Bool) → nat_eq i j ≡ same → (i ≡ j) ⊎ (i ≢ j)
  at true e = inl (eqb→eq i j (subst (λ (x : Bool). T x) (sym e) tt))
  at false e = inr (λ is. let f : nat_eq i j ≡ true = eq-eqb i j is in cc)

pub set_cases : {X : Type 0} (xs : List X) (i j : ℕ) (y z : X) → i < length xs → slice_get (set xs i y) j ≡ Some z → ((j ≡ i) × (y ≡ z)) ⊎ ((j ≢ i) × (slice_get xs j ≡ Some z))
set_cases {X} xs i j y z low is = elim (nat_cases j i) [
  | inl same ↦ inl (
    same,
    let there : slice_get (set xs i y) i ≡ Some y = slice_get-get_or (set xs i y) i y (let e = length-set xs i y in omega arith) ∙ ap (λ x. Some x) (get_or-set_same xs i y y low) in
        same_some (slice_get (set xs i y) i) y z there (ap (λ k. slice_get (set xs i y) k) (sym same) ∙ is),
  )
  | inr other ↦ inr (
    other,
    let within : j < length (set xs i y) = slice_get_within (set xs i y) j z is in
        let low_j : j < length xs = let e = length-set xs i y in omega arith in
        let value : get_or (set xs i y) j z ≡ z = get_or_from_slice_get (set xs i y) j z z is in
        slice_get-get_or xs j z low_j ∙ ap (λ x. Some x) (sym (get_or-set_other xs i j y z other) ∙ value),
  )
]

pub enter_all : (ds : List Declaration) (next : ℕ) (stacks : List (Vec ℕ)) (d : Declaration) (old left new : Vec ℕ)
    → IsLaid ds → HasRegion ds next d → d.name < length stacks → slice_get stacks d.name ≡ Some old
    → Taken ds d.start old.items left.items → TopLasts ds d.start left.items → new.items ≡ left.items ++ next ∷ []
    → AllVisible ds next d.start stacks → AllVisible ds (next + 1) d.start (set stacks d.name new)
enter_all ds next stacks d old left new laid region low there taken top pushed all name stack is = elim (set_cases stacks d.name name new stack low is) [
  | inl (same, it) ↦
      let was = left_visible ds next d.start d.start d.name old.items left.items (all d.name old there) (omega arith) taken in
      let now = entered_visible ds next d.name d left.items laid region refl was top in
      let here : IsVisible ds (next + 1) d.start d.name new.items = subst (λ (x : List ℕ). IsVisible ds (next + 1) d.start d.name x) (sym pushed) now in
      subst (λ (x : Vec ℕ). IsVisible ds (next + 1) d.start name x.items) it (subst (λ (x : ℕ). IsVisible ds (next + 1) d.start x new.items) (sym same) here)
  | inr (other, before) ↦
      passed_visible ds next d.start d.start name stack.items (omega arith)
      (λ e has named. other (sym named ∙ ap (λ (x : Declaration). x.name) (same_some (slice_get ds next) e d has.0 region.0)))
      (all name stack before)
]

pub skip_all : (ds : List Declaration) (next from at : ℕ) (stacks : List (Vec ℕ)) → from ≤ at → ((d : Declaration) → HasRegion ds next d → ⊥)
    → AllVisible ds next from stacks → AllVisible ds (next + 1) at stacks
skip_all ds next from at stacks later not all name stack is = passed_visible ds next from at name stack.items later (λ d has named. not d has) (all name stack is)

-- nothing but time passes
kept_visible : (ds : List Declaration) (next from at name : ℕ) (s : List ℕ) → from ≤ at → IsVisible ds next from name s → IsVisible ds next at name s
kept_visible ds next from at name s later was = record { only = was.only; chain = was.chain; all = λ k d low has named lasts. was.all k d low has named (omega arith) }

pub kept_all : (ds : List Declaration) (next from at : ℕ) (stacks : List (Vec ℕ)) → from ≤ at → AllVisible ds next from stacks → AllVisible ds next at stacks
kept_all ds next from at stacks later all name stack is = kept_visible ds next from at name stack.items later (all name stack is)

pub leave_all : (ds : List Declaration) (next at name : ℕ) (stacks : List (Vec ℕ)) (old left : Vec ℕ)
    → name < length stacks → slice_get stacks name ≡ Some old → Taken ds at old.items left.items → NoneLeft ds next at
    → Reached ds next at stacks → Reached ds next at (set stacks name left)
leave_all ds next at name stacks old left low there taken none was = record {
  from = at;
  low = omega arith;
  begun = was.begun;
  later = λ k d after is. let h = none k d after is in omega arith;
  visible = λ other stack is. elim (set_cases stacks name other left stack low is) [
    | inl (same, it) ↦
        let now = left_visible ds next was.from at name old.items left.items (was.visible name old there) was.low taken in
        subst (λ (x : Vec ℕ). IsVisible ds next at other x.items) it (subst (λ (x : ℕ). IsVisible ds next at x left.items) (sym same) now)
    | inr (differs, before) ↦ kept_visible ds next was.from at other stack.items was.low (was.visible other stack before)
  ];
}

-- every number on a stack is that of a declaration
pub stack_within : (ds : List Declaration) (next from name : ℕ) (s : List ℕ) → IsVisible ds next from name s → All (λ k. k < length ds) s
stack_within ds next from name s was k d low =
    let o = was.only (get_or s k d) (Contains-get_or s k d low) in slice_get_within ds (get_or s k d) o.0 o.1.0

pub answer_none : (ds : List Declaration) (next at : ℕ) (u : Use) (s : List ℕ) → at ≡ u.at → NoneLeft ds next at → IsVisible ds next at u.name s
    → slice_get s (length s - 1) ≡ None → Answers ds u None
answer_none ds next at u s same none is empty = denotes_none ds next u.at u none_there
    (subst (λ (x : List ℕ). IsVisible ds next u.at u.name x) (emptied (last_split s)) (subst (λ (x : ℕ). IsVisible ds next x u.name s) same is)) (omega arith) where
      none_there : NoneLeft ds next u.at
      none_there = subst (λ (x : ℕ). NoneLeft ds next x) same none

      emptied : (s ≡ []) ⊎ ((t : List ℕ) × (k : ℕ) × (s ≡ t ++ k ∷ [])) → s ≡ []
      emptied (inl e) = e
      emptied (inr (t, k, e)) = absurd (let at_end : slice_get s (length s - 1) ≡ Some k = ap (λ x. slice_get x (length x - 1)) e ∙ last_at t k in cc)

pub answer_some : (ds : List Declaration) (next : ℕ) (u : Use) (s : List ℕ) (k : ℕ) (stacks : List (Vec ℕ)) → Reached ds next u.at stacks → NoneLeft ds next u.at
    → IsVisible ds next u.at u.name s → TopLasts ds u.at s → slice_get s (length s - 1) ≡ Some k → Answers ds u (Some k)
answer_some ds next u s k stacks was none is top there =
    let t = split_at_last s k there in
    denotes_top ds next u.at u t.0 k was.begun none (subst (λ (x : List ℕ). IsVisible ds next u.at u.name x) t.1 is) (omega arith)
    (subst (λ (x : List ℕ). TopLasts ds u.at x) t.1 top)

pub region_here : (ds : List Declaration) (k : ℕ) (other : Declaration) → IfRegion ds k → HasRegion ds k (get_or ds k other)
region_here ds k other (d, has) = subst (λ (x : Declaration). HasRegion ds k x) (sym (get_or_from_slice_get ds k d other has.0)) has

pub visible_here : (ds : List Declaration) (k next : ℕ) (stacks : List (Vec ℕ)) (e : Declaration) → slice_get ds k ≡ Some e → AllVisible ds next e.start stacks → VisibleAt ds k next stacks
visible_here ds k next stacks e there all d is = subst (λ (x : Declaration). AllVisible ds next x.start stacks) (same_some (slice_get ds k) e d there is) all

-- ---- the walk

pub there_at : (ds : List Declaration) (k : ℕ) → k < length ds → (d : Declaration) × (slice_get ds k ≡ Some d)
there_at [] k h = absurd (omega arith)
there_at (e ∷ ds) k h = (get_or (e ∷ ds) k e, slice_get-get_or (e ∷ ds) k e h)

pub flag_true : (ds : List Declaration) (first : List Bool) (k : ℕ) (other : Bool) (d : Declaration) → slice_get ds k ≡ Some d → IsFlags ds first → get_or first k other ≡ true → d.local ≡ true → IfRegion ds k
flag_true ds first k other d there flags is local =
    let low_first : k < length first = let e = flags.0 in let w = slice_get_within ds k d there in omega arith in
    (d, (there, (flags.1 k d there).0.0 (get_or_default first k false other low_first ∙ is), local))

pub flag_false : (ds : List Declaration) (first : List Bool) (k : ℕ) (other : Bool) (d : Declaration) → slice_get ds k ≡ Some d → IsFlags ds first → (get_or first k other && d.local) ≡ false → (e : Declaration) → HasRegion ds k e → ⊥
flag_false ds first k other d there flags is e has =
    let low_first : k < length first = let g = flags.0 in let w = slice_get_within ds k d there in omega arith in
    let same : e ≡ d = same_some (slice_get ds k) e d has.0 there in
    let one : get_or first k other ≡ true = get_or_default first k other false low_first ∙ (flags.1 k e has.0).0.1 has.1 in
    let two : d.local ≡ true = sym (ap (λ (x : Declaration). x.local) same) ∙ has.2 in
    let three : true ≡ false = sym (ap (λ b. b && d.local) one ∙ two) ∙ is in cc

pub both_true : (a b : Bool) → (a && b) ≡ true → (a ≡ true) × (b ≡ true)
both_true true true e = (refl, refl)
both_true true false e = absurd (cc)
both_true false b e = absurd (cc)

pub skipped_here : (ds : List Declaration) (k : ℕ) (stacks : List (Vec ℕ)) → ((d : Declaration) → HasRegion ds k d → ⊥) → VisibleAt ds k k stacks → VisibleAt ds k (k + 1) stacks
skipped_here ds k stacks not was d there = skip_all ds k d.start d.start stacks (omega arith) not (was d there)

pub ready : (ds : List Declaration) (next at : ℕ) (stacks : List (Vec ℕ)) → Reached ds next at stacks → VisibleAt ds next next stacks
ready ds next at stacks was d there = kept_all ds next was.from d.start stacks (was.later next d (omega arith) there) was.visible

pub advance_step : (ds : List Declaration) (next at : ℕ) (before after : List (Vec ℕ)) (e : Declaration) → IsLaid ds → slice_get ds next ≡ Some e → e.start ≤ at
    → Reached ds next at before → VisibleAt ds next (next + 1) after → Reached ds (next + 1) at after
advance_step ds next at before after e laid there low was now = record {
  from = e.start;
  low = low;
  begun = λ k d early is. elim (early_cases k early) [
    | inl old ↦ was.begun k d old is
    | inr here ↦ let s : d.start ≡ e.start = ap (λ (x : Declaration). x.start) (same_some (slice_get ds next) d e (ap (λ x. slice_get ds x) (sym here) ∙ is) there) in omega arith
  ];
  later = λ k d after is. (laid next k e d (omega arith) there is).0;
  visible = now e there;
} where
  early_cases : (k : ℕ) → k < next + 1 → (k < next) ⊎ (k ≡ next)
  early_cases k low = grind arith

pub none_past : (ds : List Declaration) (next at : ℕ) → length ds ≤ next → NoneLeft ds next at
none_past ds next at past k d after is = absurd (let low = slice_get_within ds k d is in omega arith)

pub none_yet : (ds : List Declaration) (next at : ℕ) (e : Declaration) → IsLaid ds → slice_get ds next ≡ Some e → at < e.start → NoneLeft ds next at
none_yet ds next at e laid there low k d after is = elim (cases k after) [
  | inl here ↦ (let s : d.start ≡ e.start = ap (λ (x : Declaration). x.start) (same_some (slice_get ds next) d e (ap (λ x. slice_get ds x) (sym here) ∙ is) there) in omega arith)
  | inr more ↦ (let s = (laid next k e d more there is).0 in omega arith)
] where
  cases : (k : ℕ) → next ≤ k → (k ≡ next) ⊎ (next < k)
  cases k h = grind arith

pub walk_begins : (ds : List Declaration) (uses : List Use) (stacks : List (Vec ℕ)) → AllEmpty stacks → Walked ds uses 0 0 stacks
walk_begins ds uses stacks empty = record {
  at = 0;
  reached = record {
    from = 0;
    low = omega arith;
    begun = λ k d never is. absurd (omega arith);
    later = λ k d h is. omega arith;
    visible = λ name stack is. subst (λ (x : List ℕ). IsVisible ds 0 0 name x) (sym (empty name stack is))
        (record { only = λ k h. absurd (none_in k h); chain = tt; all = λ k d never has named lasts. absurd (omega arith) });
  };
  ahead = λ k u h is. omega arith;
}

pub go_on : (ds : List Declaration) (uses : List Use) (seen next : ℕ) (stacks : List (Vec ℕ)) (u : Use) → slice_get uses seen ≡ Some u → Walked ds uses seen next stacks → Reached ds next u.at stacks
go_on ds uses seen next stacks u there was =
    let later = was.ahead seen u (omega arith) there in
    let r = was.reached in
    record { from = r.from; low = (let l = r.low in omega arith); begun = λ k d low is. (let b = r.begun k d low is in omega arith); later = r.later; visible = r.visible }

pub answered_more : (ds : List Declaration) (uses : List Use) (answers : List (Option ℕ)) (k : ℕ) (u : Use) (answer : Option ℕ) → slice_get uses k ≡ Some u → length answers ≡ k
    → ((j : ℕ) (v : Use) → j < k → slice_get uses j ≡ Some v → Answers ds v (get_or answers j None)) → Answers ds u answer
    → (j : ℕ) (v : Use) → j < k + 1 → slice_get uses j ≡ Some v → Answers ds v (get_or (answers ++ answer ∷ []) j None)
answered_more ds uses answers k u answer there size so_far this j v low is = elim (cases low) [
  | inl old ↦ subst (λ (x : Option ℕ). Answers ds v x) (sym (get_or-append answers (answer ∷ []) None j (omega arith))) (so_far j v old is)
  | inr here ↦ subst (λ (x : Option ℕ). Answers ds v x) (sym (ap (λ i. get_or (answers ++ answer ∷ []) i None) (here ∙ sym size) ∙ get_or-append_seam answers answer [] None))
      (subst (λ (x : Use). Answers ds x answer) (same_some (slice_get uses k) u v there (ap (λ i. slice_get uses i) (sym here) ∙ is)) this)
] where
  cases : j < k + 1 → (j < k) ⊎ (j ≡ k)
  cases h = grind arith

pub empty_more : (stacks : List (Vec ℕ)) (new : Vec ℕ) → AllEmpty stacks → new.items ≡ [] → AllEmpty (stacks ++ new ∷ [])
empty_more [] new was empty zero stack is = let e : new ≡ stack = same_some (Some new) new stack refl is in ap (λ (x : Vec ℕ). x.items) (sym e) ∙ empty
empty_more [] new was empty (suc i) stack is = absurd (let h = slice_get_within (new ∷ []) (suc i) stack is in omega arith)
empty_more (s ∷ stacks) new was empty zero stack is = was zero stack is
empty_more (s ∷ stacks) new was empty (suc i) stack is = empty_more stacks new (λ j t e. was (suc j) t e) empty i stack is

pub none_empty : (stacks : List (Vec ℕ)) → stacks ≡ [] → AllEmpty stacks
none_empty stacks none name stack is = absurd (
    let low = slice_get_within stacks name stack is in let e : length stacks ≡ 0 = ap length none in omega arith)

pub walked_more : (ds : List Declaration) (uses : List Use) (count seen next : ℕ) (stacks : List (Vec ℕ)) (u : Use) → AreUses uses count → slice_get uses seen ≡ Some u → Reached ds next u.at stacks
    → Walked ds uses (seen + 1) next stacks
walked_more ds uses count seen next stacks u ordered there was = record {
  at = u.at;
  reached = was;
  ahead = λ k v h is. ordered.1 seen k u v (omega arith) there is;
}

pub all_answered : (ds : List Declaration) (uses : List Use) (answers : List (Option ℕ)) (k : ℕ) → length uses ≤ k → k ≤ length uses → length answers ≡ k
    → ((j : ℕ) (v : Use) → j < k → slice_get uses j ≡ Some v → Answers ds v (get_or answers j None)) → AreAnswered ds uses answers
all_answered ds uses answers k end start size all = (omega arith, λ j v is. all j v (let h = slice_get_within uses j v is in omega arith) is)

-- ---- at most one

not_later : (ds : List Declaration) → IsLaid ds → (u : Use) → (j k : ℕ) → j < k → Denotes ds u j → Denotes ds u k → ⊥
not_later ds laid u j k low a b = elim (laid j k a.d b.d low a.region.0 b.region.0).1 [
  | inl block ↦ b.region.1 (j, a.d, low, a.region.0, block, a.named ∙ sym b.named)
  | inr other ↦ elim other [
    | inl apart ↦ (let h = a.holds.1 in let g = b.holds.0 in omega arith)
    | inr inner ↦ (let w = (a.smallest k b.d b.region b.named b.holds).1 in let i = inner.1 in omega arith)
  ]
]

pub only_one : (ds : List Declaration) → IsLaid ds → (u : Use) → (j k : ℕ) → Denotes ds u j → Denotes ds u k → j ≡ k
only_one ds laid u j k a b = elim (nat_cases j k) [
  | inl same ↦ same
  | inr other ↦ absurd (elim (before j k other) [ inl low ↦ not_later ds laid u j k low a b | inr high ↦ not_later ds laid u k j high b a ])
] where
  before : (j k : ℕ) → j ≢ k → (j < k) ⊎ (k < j)
  before j k h = grind arith
