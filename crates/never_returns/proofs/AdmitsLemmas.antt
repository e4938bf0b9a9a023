-- Where more calls stop control, less is reached.
use Rattle.std.proofs.Common.{◌≡◌, inl, inr, ◌/◌, ◌%◌, ℕ, Bool, true, false, ◌&&◌, ◌==◌, List, Option, Some, refl, sym, ◌∙◌, subst, arith}
use Rattle.std.proofs.lemmas.Bool.{eqb-true}
use Rattle.go_tree.specs.declared.tree.FileTree.{FileTree}
use Rattle.flow.specs.Edges.{before}
use Rattle.flow.specs.Flow.{Leads, Flow, Reached, NeverReturns, is_stopped}
use Rattle.flow.specs.Flow.Reached.{here, further}
use Rattle.least.specs.Least.{IsMonotone}
use Rattle.least.specs.Staged.{IsLocal}
use Rattle.least.specs.Tables.{Member, home}
use Rattle.never_returns.specs.Admits.{Callee, Other, Panic, Named, stops, Body, Admits, Calls, SeeTheirCallees}

pub no_truth : {C : Type 0} → false ≡ true → C
no_truth e = absurd cc

pub by_bool : {C : Type 0} (b : Bool) → (b ≡ true → C) → (b ≡ false → C) → C
by_bool true f g = f refl
by_bool false f g = g refl

and_left : (a b : Bool) → (a && b) ≡ true → a ≡ true
and_left true b e = refl
and_left false b e = e

and_right : (a b : Bool) → (a && b) ≡ true → b ≡ true
and_right true b e = e
and_right false b e = no_truth e

and_both : (a b : Bool) → a ≡ true → b ≡ true → (a && b) ≡ true
and_both true b e f = f
and_both false b e f = no_truth e

halves : (p : ℕ) → (p % 2 == 0) ≡ true → p ≡ before (p / 2)
halves p e = let even : p % 2 ≡ 0 = eqb-true (p % 2) 0 e in omega arith

-- what stops here stops there too, at the statements to which the body's control leads
abbrev pub Covers : FileTree → List (Option ℕ) → ℕ → (ℕ → Bool) → (ℕ → Bool) → Type 0
Covers tree labels block s t = (n : ℕ) → Reached (Leads tree labels) (before block) (before n) → s n ≡ true → t n ≡ true

goes_too : (tree : FileTree) (labels : List (Option ℕ)) (block : ℕ) (s t : ℕ → Bool) → Covers tree labels block s t → (p : ℕ)
    → Reached (Leads tree labels) (before block) p → is_stopped t p ≡ false → is_stopped s p ≡ false
goes_too tree labels block s t h p r goes = by_bool (is_stopped s p)
    (λ stopped.
    let even = and_left (p % 2 == 0) (s (p / 2)) stopped in
    let there : Reached (Leads tree labels) (before block) (before (p / 2)) = subst (λ k. Reached (Leads tree labels) (before block) k) (halves p even) r in
    no_truth (sym goes ∙ and_both (p % 2 == 0) (t (p / 2)) even (h (p / 2) there (and_right (p % 2 == 0) (s (p / 2)) stopped))))
    (λ e. e)

less_reached : (tree : FileTree) (labels : List (Option ℕ)) (block : ℕ) (s t : ℕ → Bool) → Covers tree labels block s t → {p : ℕ}
    → Reached (Flow tree labels t) (before block) p → Reached (Leads tree labels) (before block) p × Reached (Flow tree labels s) (before block) p
less_reached tree labels block s t h here = (here, here)
less_reached tree labels block s t h (further {p = p} {q = q} r step) =
    let both = less_reached tree labels block s t h r in
    (further both.0 step.1, further both.1 (goes_too tree labels block s t h p both.0 step.0, step.1))

pub never_still : (tree : FileTree) (labels : List (Option ℕ)) (block : ℕ) (s t : ℕ → Bool) → Covers tree labels block s t
    → NeverReturns tree labels s block → NeverReturns tree labels t block
never_still tree labels block s t h never p exit r = never p exit (less_reached tree labels block s t h r).1

stops_too : (c : Callee) (M N : Member → Bool) → ((m : Member) → c ≡ Named m → M m ≡ true → N m ≡ true) → stops M c ≡ true → stops N c ≡ true
stops_too Other M N h is = is
stops_too Panic M N h is = refl
stops_too (Named m) M N h is = h m refl is

-- a function that is admitted by some is admitted by others that have what its body calls of them
still_admitted : (listed : Member → Bool) (bodies : Member → Option Body) (M N : Member → Bool) (m : Member)
    → ((b : Body) → bodies m ≡ Some b → (g : Member) → Calls b g → M g ≡ true → N g ≡ true) → Admits listed bodies M m → Admits listed bodies N m
still_admitted listed bodies M N m h (inl is) = inl is
still_admitted listed bodies M N m h (inr (b, has, never)) =
    inr (
      b,
      has,
      never_still b.tree b.labels b.block (λ n. stops M (b.callee n)) (λ n. stops N (b.callee n))
          (λ n there is. stops_too (b.callee n) M N (λ g e. h b has g (n, there, e)) is) never,
    )

pub monotone : (listed : Member → Bool) (bodies : Member → Option Body) → IsMonotone (Admits listed bodies)
monotone listed bodies M N m within a = still_admitted listed bodies M N m (λ b has g calls. within g) a

pub local : (env : List ℕ → List ℕ → Type 0) (listed : Member → Bool) (bodies : Member → Option Body) → SeeTheirCallees env bodies → IsLocal home env (Admits listed bodies)
local env listed bodies see M N m same a = still_admitted listed bodies M N m (λ b has g calls is. sym (same g (see m b has g calls)) ∙ is) a
