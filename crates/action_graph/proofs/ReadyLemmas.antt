-- The table of flags, and the ready nodes below a place.
use Rattle.std.proofs.Common.{◌≡◌, ℕ, ◌<◌, ◌≤◌, ◌+◌, ◌*◌, ◌⊎◌, inl, inr, Bool, true, false, Some, List, [], ◌∷◌, ◌++◌, length, slice_get, set, get_or, get_or-set_same, get_or-set_other, replicate, refl, sym, ap, ◌∙◌, subst, arith, zero, suc}
use Rattle.std.specs.List.{Contains}
use Rattle.std.proofs.Math.ListN.{length-set}
use Rattle.std.proofs.lemmas.Option.{same_Some, slice_get_within, slice_get-get_or}
use Rattle.std.proofs.lemmas.List.Elements.{Contains-push, Contains-push_cases, Contains-append_left}
use Rattle.action_graph.specs.declared.work.ActionNode.{ActionNode}
use Rattle.action_graph.specs.declared.work.ActionNode.TheVariants.{Load, Run}
use Rattle.action_graph.specs.declared.work.PackageLine.{PackageLine}
use Rattle.action_graph.specs.Work.{place_of, package_of, IsAnalyzer, IsNumbered}
use Rattle.action_graph.specs.Flags.{IsSet, IsTable, IsLoadMarked, IsRunMarked, IsMarkedAt}
use Rattle.action_graph.specs.Ready.{IsLoadReady, IsRunReady, IsReadyAt, IsReady, AreReadyBelow, AreReady}
use Rattle.gv_base.proofs.Lists.{push_cases}

-- a place has one node
pub one_node : (n m : ActionNode) → IsNumbered n → IsNumbered m → place_of n ≡ place_of m → n ≡ m
one_node (Load p) (Load q) a b h = let e : p ≡ q = omega (arith, h) in ap (λ (x : ℕ). Load x) e
one_node (Load p) (Run d q) a b h = absurd (omega (arith, h, b.0, b.1))
one_node (Run c p) (Load q) a b h = absurd (omega (arith, h, a.0, a.1))
one_node (Run c p) (Run d q) a b h =
    let e : p ≡ q = omega (arith, h, a.0, a.1, b.0, b.1) in
    let f : c ≡ d = omega (arith, h, a.0, a.1, b.0, b.1) in
    ap (λ (x : ℕ). Run x p) f ∙ ap (λ (x : ℕ). Run d x) e

same_or : (j k : ℕ) → (j ≡ k) ⊎ (j ≡ k → ⊥)
same_or j k = grind arith

nothing_set : (n k : ℕ) → get_or (replicate n false) k false ≡ true → ⊥
nothing_set zero k h = cc
nothing_set (suc n) zero h = cc
nothing_set (suc n) (suc k) h = nothing_set n k h

pub table_none : (flags : List Bool) (n : ℕ) → flags ≡ replicate n false → IsTable [] flags
table_none flags n e = record {
  right = λ m a s. absurd (nothing_set n (place_of m) (sym (ap (λ l. get_or l (place_of m) false) e) ∙ s));
  every = λ m a l c. absurd (let z : c.0 < 0 = c.1 in omega arith);
}

pub table_unnumbered : (nodes : List ActionNode) (flags : List Bool) (m : ActionNode) → (IsNumbered m → ⊥) → IsTable nodes flags → IsTable (nodes ++ m ∷ []) flags
table_unnumbered nodes flags m other is = record {
  right = λ n a s. Contains-append_left nodes (m ∷ []) n (is.right n a s);
  every = λ n a l c. elim (Contains-push_cases nodes m n c) [
    | inl old ↦ is.every n a l old
    | inr new ↦ absurd (other (subst (λ (x : ActionNode). IsNumbered x) (sym new) a))
  ];
}

pub table_outside : (nodes : List ActionNode) (flags : List Bool) (m : ActionNode) → length flags ≤ place_of m → IsTable nodes flags → IsTable (nodes ++ m ∷ []) flags
table_outside nodes flags m past is = record {
  right = λ n a s. Contains-append_left nodes (m ∷ []) n (is.right n a s);
  every = λ n a l c. elim (Contains-push_cases nodes m n c) [
    | inl old ↦ is.every n a l old
    | inr new ↦ absurd (let e : place_of m ≡ place_of n = ap place_of new in omega (arith, e, l, past))
  ];
}

pub table_marked : (nodes : List ActionNode) (flags : List Bool) (m : ActionNode) (at : ℕ) → IsNumbered m → at ≡ place_of m → at < length flags
    → IsTable nodes flags → IsTable (nodes ++ m ∷ []) (set flags at true)
table_marked nodes flags m at numbered is_place within is = record {
  right = λ n a s. elim (same_or (place_of n) at) [
    | inl e ↦ subst (λ (x : ActionNode). Contains (nodes ++ m ∷ []) x) (one_node m n numbered a (sym (e ∙ is_place))) (Contains-push nodes m)
    | inr ne ↦ Contains-append_left nodes (m ∷ []) n (is.right n a (sym (get_or-set_other flags at (place_of n) true false ne) ∙ s))
  ];
  every = λ n a l c. elim (same_or (place_of n) at) [
    | inl e ↦ ap (λ (k : ℕ). get_or (set flags at true) k false) e ∙ get_or-set_same flags at true false within
    | inr ne ↦ elim (Contains-push_cases nodes m n c) [
      | inl old ↦
          let size : length (set flags at true) ≡ length flags = length-set flags at true in
          get_or-set_other flags at (place_of n) true false ne ∙ is.every n a (omega (arith, size, l)) old
      | inr new ↦ absurd (ne (ap place_of (sym new) ∙ sym is_place))
    ]
  ];
}

load_set : (done : List ActionNode) (flags : List Bool) (q : ℕ) → IsTable done flags → IsSet flags (q * 16) → Contains done (Load q)
load_set done flags q is s = is.right (Load q) tt s

set_within : (flags : List Bool) (k : ℕ) → get_or flags k false ≡ true → k < length flags
set_within [] k h = cc
set_within (f ∷ fs) zero h = omega arith
set_within (f ∷ fs) (suc k) h = let l : k < length fs = set_within fs k h in omega (arith, l)

load_ready : (done : List ActionNode) (flags accepted : List Bool) (count : ℕ) (line : PackageLine) (env : List ℕ) (p : ℕ) → IsTable done flags → length flags ≡ count * 16 → p < count
    → IsLoadMarked flags accepted line env p → IsLoadReady done accepted count line env p
load_ready done flags accepted count line env p is size within m = record {
  sound = m.sound;
  imports = m.imports;
  waits = λ c. m.waits (is.every (Load p) tt (omega (arith, size, within)) c);
  needs = λ q c.
      let e : q * 16 + 0 ≡ q * 16 = omega arith in
      let s : IsSet flags (q * 16) = subst (λ (k : ℕ). IsSet flags k) e (m.needs q c) in
      let l : q * 16 < length flags = set_within flags (q * 16) s in
      (omega (arith, l, size), is.right (Load q) tt s);
}

load_marked : (done : List ActionNode) (flags accepted : List Bool) (count : ℕ) (line : PackageLine) (env : List ℕ) (p : ℕ) → IsTable done flags → length flags ≡ count * 16 → p < count
    → IsLoadReady done accepted count line env p → IsLoadMarked flags accepted line env p
load_marked done flags accepted count line env p is size within r = record {
  sound = r.sound;
  waits = λ s. r.waits (is.right (Load p) tt s);
  imports = r.imports;
  needs = λ q c.
      let h = r.needs q c in
      let l : q < count = h.0 in
      let e : q * 16 ≡ q * 16 + 0 = omega arith in
      subst (λ (k : ℕ). IsSet flags k) e (is.every (Load q) tt (omega (arith, size, l)) h.1);
}

run_ready : (done : List ActionNode) (flags accepted : List Bool) (count : ℕ) (line : PackageLine) (env : List ℕ) (only a p : ℕ) → IsTable done flags → length flags ≡ count * 16 → p < count
    → IsAnalyzer a → IsRunMarked flags accepted line env only a p → IsRunReady done accepted count line env only a p
run_ready done flags accepted count line env only a p is size within number m = record {
  number = number;
  fit = m.fit;
  chosen = m.chosen;
  stub = m.stub;
  waits = λ c. m.waits (is.every (Run a p) number (omega (arith, size, within, number.1)) c);
  loaded = is.right (Load p) tt m.loaded;
  needs = λ f q c.
      let s : IsSet flags (q * 16 + a) = m.needs f q c in
      let l : q * 16 + a < length flags = set_within flags (q * 16 + a) s in
      (omega (arith, l, size), is.right (Run a q) number s);
}

run_marked : (done : List ActionNode) (flags accepted : List Bool) (count : ℕ) (line : PackageLine) (env : List ℕ) (only a p : ℕ) → IsTable done flags → length flags ≡ count * 16 → p < count
    → IsRunReady done accepted count line env only a p → IsRunMarked flags accepted line env only a p
run_marked done flags accepted count line env only a p is size within r = record {
  chosen = r.chosen;
  stub = r.stub;
  fit = r.fit;
  waits = λ s. r.waits (is.right (Run a p) r.number s);
  loaded = is.every (Load p) tt (omega (arith, size, within)) r.loaded;
  needs = λ f q c.
      let h = r.needs f q c in
      let l : q < count = h.0 in
      let n = r.number in
      is.every (Run a q) r.number (omega (arith, size, l, n.1)) h.1;
}

ready_at : (done : List ActionNode) (flags accepted : List Bool) (count : ℕ) (line : PackageLine) (env : List ℕ) (only : ℕ) (n : ActionNode) → IsTable done flags → length flags ≡ count * 16
    → package_of n < count → IsNumbered n → IsMarkedAt flags accepted line env only n → IsReadyAt done accepted count line env only n
ready_at done flags accepted count line env only (Load p) is size within a m = load_ready done flags accepted count line env p is size within m
ready_at done flags accepted count line env only (Run d p) is size within a m = run_ready done flags accepted count line env only d p is size within a m

marked_at : (done : List ActionNode) (flags accepted : List Bool) (count : ℕ) (line : PackageLine) (env : List ℕ) (only : ℕ) (n : ActionNode) → IsTable done flags → length flags ≡ count * 16
    → package_of n < count → IsReadyAt done accepted count line env only n → IsMarkedAt flags accepted line env only n
marked_at done flags accepted count line env only (Load p) is size within r = load_marked done flags accepted count line env p is size within r
marked_at done flags accepted count line env only (Run d p) is size within r = run_marked done flags accepted count line env only d p is size within r

pub ready_numbered : (done : List ActionNode) (accepted : List Bool) (count : ℕ) (line : PackageLine) (env : List ℕ) (only : ℕ) (n : ActionNode) → IsReadyAt done accepted count line env only n → IsNumbered n
ready_numbered done accepted count line env only (Load p) r = tt
ready_numbered done accepted count line env only (Run a p) r = r.number

-- the tests at a node and what they read
pub record IsTested (packages : List PackageLine) (env : List (List ℕ)) (n : ActionNode) (line : PackageLine) (row : List ℕ) : Type 0 where
  pub at : slice_get packages (package_of n) ≡ Some line
  pub env_at : slice_get env (package_of n) ≡ Some row
  pub numbered : IsNumbered n

is_from : (done : List ActionNode) (flags accepted : List Bool) (packages : List PackageLine) (env : List (List ℕ)) (only : ℕ) (n : ActionNode) (line : PackageLine) (row : List ℕ)
    → IsTable done flags → length flags ≡ length packages * 16 → IsTested packages env n line row → IsMarkedAt flags accepted line row only n → IsReady done accepted packages env only n
is_from done flags accepted packages env only n line row is size t m = record {
  line = line;
  row = row;
  at = t.at;
  env_at = t.env_at;
  ready = ready_at done flags accepted (length packages) line row only n is size (slice_get_within packages (package_of n) line t.at) t.numbered m;
}

is_to : (done : List ActionNode) (flags accepted : List Bool) (packages : List PackageLine) (env : List (List ℕ)) (only : ℕ) (n : ActionNode) (line : PackageLine) (row : List ℕ)
    → IsTable done flags → length flags ≡ length packages * 16 → IsTested packages env n line row → IsReady done accepted packages env only n → IsMarkedAt flags accepted line row only n
is_to done flags accepted packages env only n line row is size t r =
    let same : r.line ≡ line = same_Some r.line line (sym r.at ∙ t.at) in
    let also : r.row ≡ row = same_Some r.row row (sym r.env_at ∙ t.env_at) in
    marked_at done flags accepted (length packages) line row only n is size (slice_get_within packages (package_of n) line t.at)
    (subst (λ (l : PackageLine). IsReadyAt done accepted (length packages) l row only n) same
    (subst (λ (l : List ℕ). IsReadyAt done accepted (length packages) r.line l only n) also r.ready))

pub below_none : (done : List ActionNode) (accepted : List Bool) (packages : List PackageLine) (env : List (List ℕ)) (only : ℕ) → AreReadyBelow done accepted packages env only 0 []
below_none done accepted packages env only = record {
  each = λ k n e. cc;
  every = λ n l r. absurd (omega (arith, l));
  below = λ k n e. cc;
  ordered = λ j k n m l e f. cc;
}

below_or : (q p : ℕ) → q < p + 1 → (q < p) ⊎ (q ≡ p)
below_or q p h = grind arith

-- a node that is ready is added
pub below_adds : (done : List ActionNode) (flags accepted : List Bool) (packages : List PackageLine) (env : List (List ℕ)) (only at : ℕ) (nodes : List ActionNode) (n : ActionNode) (line : PackageLine) (row : List ℕ)
    → IsTable done flags → length flags ≡ length packages * 16 → IsTested packages env n line row → place_of n ≡ at → IsMarkedAt flags accepted line row only n
    → AreReadyBelow done accepted packages env only at nodes → AreReadyBelow done accepted packages env only (at + 1) (nodes ++ n ∷ [])
below_adds done flags accepted packages env only at nodes n line row table size t place m is =
    let ready = is_from done flags accepted packages env only n line row table size t m in
    record {
      each = λ k x e. elim (push_cases nodes n x k e) [
        | inl was ↦ is.each k x was
        | inr new ↦ subst (λ (y : ActionNode). IsReady done accepted packages env only y) new.1 ready
      ];
      every = λ x l r. elim (below_or (place_of x) at l) [
        | inl less ↦ Contains-append_left nodes (n ∷ []) x (is.every x less r)
        | inr same ↦ subst (λ (y : ActionNode). Contains (nodes ++ n ∷ []) y)
            (one_node n x t.numbered (ready_numbered done accepted (length packages) r.line r.row only x r.ready) (place ∙ sym same)) (Contains-push nodes n)
      ];
      below = λ k x e. elim (push_cases nodes n x k e) [
        | inl was ↦ let h = is.below k x was in omega (arith, h)
        | inr new ↦ let h : place_of n ≡ place_of x = ap place_of new.1 in omega (arith, h, place)
      ];
      ordered = λ j k x y l e f. elim (push_cases nodes n x j e) [
        | inl was ↦ elim (push_cases nodes n y k f) [
          | inl too ↦ is.ordered j k x y l was too
          | inr new ↦ let h = is.below j x was in let g : place_of n ≡ place_of y = ap place_of new.1 in omega (arith, h, g, place)
        ]
        | inr last ↦ elim (push_cases nodes n y k f) [
          | inl too ↦ let h : k < length nodes = slice_get_within nodes k y too in let g = last.0 in absurd (omega (arith, h, g, l))
          | inr new ↦ let h = new.0 in let g = last.0 in absurd (omega (arith, h, g, l))
        ]
      ];
    }

-- a node that isn't is passed over
pub below_skips : (done : List ActionNode) (flags accepted : List Bool) (packages : List PackageLine) (env : List (List ℕ)) (only at : ℕ) (nodes : List ActionNode) (n : ActionNode) (line : PackageLine) (row : List ℕ)
    → IsTable done flags → length flags ≡ length packages * 16 → IsTested packages env n line row → place_of n ≡ at → (IsMarkedAt flags accepted line row only n → ⊥)
    → AreReadyBelow done accepted packages env only at nodes → AreReadyBelow done accepted packages env only (at + 1) nodes
below_skips done flags accepted packages env only at nodes n line row table size t place other is = record {
  each = is.each;
  every = λ x l r. elim (below_or (place_of x) at l) [
    | inl less ↦ is.every x less r
    | inr same ↦ absurd (other (is_to done flags accepted packages env only n line row table size t
        (subst (λ (y : ActionNode). IsReady done accepted packages env only y)
        (sym (one_node n x t.numbered (ready_numbered done accepted (length packages) r.line r.row only x r.ready) (place ∙ sym same))) r)))
  ];
  below = λ k x e. let h = is.below k x e in omega (arith, h);
  ordered = is.ordered;
}

place_within : (n : ActionNode) (count : ℕ) → IsNumbered n → package_of n < count → place_of n < count * 16
place_within (Load p) count a l = omega (arith, l)
place_within (Run d p) count a l = omega (arith, l, a.1)

-- below the last place stand all
pub below_all : (done : List ActionNode) (accepted : List Bool) (packages : List PackageLine) (env : List (List ℕ)) (only end : ℕ) (nodes : List ActionNode) → length packages * 16 ≤ end
    → AreReadyBelow done accepted packages env only end nodes → AreReady done accepted packages env only nodes
below_all done accepted packages env only end nodes past is = record {
  each = is.each;
  every = λ n r.
      let l : place_of n < length packages * 16 = place_within n (length packages) (ready_numbered done accepted (length packages) r.line r.row only n r.ready)
      (slice_get_within packages (package_of n) r.line r.at) in
      is.every n (omega (arith, l, past)) r;
  ordered = is.ordered;
}

pub tested : (packages : List PackageLine) (env : List (List ℕ)) (n : ActionNode) (line : PackageLine) (kept row : List ℕ) (i : ℕ) → package_of n ≡ i → i < length packages → length env ≡ length packages
    → line ≡ get_or packages i line → kept ≡ get_or env i kept → row ≡ kept → IsNumbered n → IsTested packages env n line row
tested packages env n line kept row i is within size at env_at same numbered =
    let inside : i < length env = omega (arith, within, size) in
    record {
      at = ap (λ (k : ℕ). slice_get packages k) is ∙ slice_get-get_or packages i line within ∙ ap (λ (x : PackageLine). Some x) (sym at);
      env_at = ap (λ (k : ℕ). slice_get env k) is ∙ slice_get-get_or env i kept inside ∙ ap (λ (x : List ℕ). Some x) (sym env_at ∙ sym same);
      numbered = numbered;
    }
