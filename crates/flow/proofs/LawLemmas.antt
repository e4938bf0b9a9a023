-- More members, less that is reached.
use Rattle.std.proofs.Common.{◌≡◌, ◌↔◌, ◌/◌, ◌%◌, ℕ, Bool, true, false, ◌&&◌, ◌==◌, List, Option, refl, sym, ◌∙◌, subst, arith}
use Rattle.std.proofs.lemmas.Bool.{eqb-true}
use Rattle.go_tree.specs.declared.tree.FileTree.{FileTree}
use Rattle.flow.specs.declared.point.Call.{Call}
use Rattle.flow.specs.declared.point.Call.TheVariants as c
use Rattle.flow.specs.Edges.{before}
use Rattle.flow.specs.Flow.{Leads, Flow, Reached, NeverReturns, Mentions, call_at, stops_by, stops_of, is_stopped}
use Rattle.flow.specs.Search.{IsGraph, StepsBy, FlowBy, NeverBy, MentionsBy}
use Rattle.flow.specs.Flow.Reached.{here, further}
use Rattle.flow.proofs.SearchLemmas.{no_truth, by_bool, reached_so}

abbrev Covers : FileTree → List (Option ℕ) → List Call → ℕ → (ℕ → Bool) → (ℕ → Bool) → Type 0
Covers tree labels calls body M N = (f : ℕ) → Mentions tree labels calls body f → M f ≡ true → N f ≡ true

stops_too : (call : Call) (M N : ℕ → Bool) → ((f : ℕ) → call ≡ c.Function f → M f ≡ true → N f ≡ true) → stops_by M call ≡ true → stops_by N call ≡ true
stops_too c.Passes M N h is = is
stops_too c.Stops M N h is = refl
stops_too (c.Function f) M N h is = h f refl is

and_left : (a b : Bool) → (a && b) ≡ true → a ≡ true
and_left true b e = refl
and_left false b e = e

and_right : (a b : Bool) → (a && b) ≡ true → b ≡ true
and_right true b e = e
and_right false b e = no_truth e

and_both : (a b : Bool) → a ≡ true → b ≡ true → (a && b) ≡ true
and_both true b e f = f
and_both false b e f = no_truth e

halves : (p : ℕ) → (p % 2 == 0) ≡ true → p ≡ before (p / 2)
halves p e = let even : p % 2 ≡ 0 = eqb-true (p % 2) 0 e in omega arith

goes_too : (tree : FileTree) (labels : List (Option ℕ)) (calls : List Call) (body : ℕ) (M N : ℕ → Bool) → Covers tree labels calls body M N → (p : ℕ)
    → Reached (Leads tree labels) (before body) p → is_stopped (stops_of calls N) p ≡ false → is_stopped (stops_of calls M) p ≡ false
goes_too tree labels calls body M N h p r goes = by_bool (is_stopped (stops_of calls M) p)
    (λ stopped.
    let even = and_left (p % 2 == 0) (stops_of calls M (p / 2)) stopped in
    let there : Reached (Leads tree labels) (before body) (before (p / 2)) = subst (λ k. Reached (Leads tree labels) (before body) k) (halves p even) r in
    let too = stops_too (call_at calls (p / 2)) M N (λ f e. h f (p / 2, there, e)) (and_right (p % 2 == 0) (stops_of calls M (p / 2)) stopped) in
    no_truth (sym goes ∙ and_both (p % 2 == 0) (stops_of calls N (p / 2)) even too))
    (λ e. e)

less_reached : (tree : FileTree) (labels : List (Option ℕ)) (calls : List Call) (body : ℕ) (M N : ℕ → Bool) → Covers tree labels calls body M N → {p : ℕ}
    → Reached (Flow tree labels (stops_of calls N)) (before body) p → Reached (Leads tree labels) (before body) p × Reached (Flow tree labels (stops_of calls M)) (before body) p
less_reached tree labels calls body M N h here = (here, here)
less_reached tree labels calls body M N h (further {p = p} {q = q} r s) =
    let both = less_reached tree labels calls body M N h r in
    (further both.0 s.1, further both.1 (goes_too tree labels calls body M N h p both.0 s.0, s.1))

pub never_still : (tree : FileTree) (labels : List (Option ℕ)) (calls : List Call) (body : ℕ) (M N : ℕ → Bool) → Covers tree labels calls body M N
    → NeverReturns tree labels (stops_of calls M) body → NeverReturns tree labels (stops_of calls N) body
never_still tree labels calls body M N h never p exit r = never p exit (less_reached tree labels calls body M N h r).1

-- The same by the rows of a graph.

goes_by : (rows : List (List ℕ)) (calls : List Call) (body : ℕ) (M N : ℕ → Bool) → ((f : ℕ) → MentionsBy rows calls body f → M f ≡ true → N f ≡ true) → (p : ℕ)
    → Reached (StepsBy rows) (before body) p → is_stopped (stops_of calls N) p ≡ false → is_stopped (stops_of calls M) p ≡ false
goes_by rows calls body M N h p r goes = by_bool (is_stopped (stops_of calls M) p)
    (λ stopped.
    let even = and_left (p % 2 == 0) (stops_of calls M (p / 2)) stopped in
    let there : Reached (StepsBy rows) (before body) (before (p / 2)) = subst (λ k. Reached (StepsBy rows) (before body) k) (halves p even) r in
    let too = stops_too (call_at calls (p / 2)) M N (λ f e. h f (p / 2, there, e)) (and_right (p % 2 == 0) (stops_of calls M (p / 2)) stopped) in
    no_truth (sym goes ∙ and_both (p % 2 == 0) (stops_of calls N (p / 2)) even too))
    (λ e. e)

less_by : (rows : List (List ℕ)) (calls : List Call) (body : ℕ) (M N : ℕ → Bool) → ((f : ℕ) → MentionsBy rows calls body f → M f ≡ true → N f ≡ true) → {p : ℕ}
    → Reached (FlowBy rows (stops_of calls N)) (before body) p → Reached (StepsBy rows) (before body) p × Reached (FlowBy rows (stops_of calls M)) (before body) p
less_by rows calls body M N h here = (here, here)
less_by rows calls body M N h (further {p = p} {q = q} r s) =
    let both = less_by rows calls body M N h r in
    (further both.0 s.1, further both.1 (goes_by rows calls body M N h p both.0 s.0, s.1))

pub never_still_by : (tree : FileTree) (rows : List (List ℕ)) (calls : List Call) (body : ℕ) (M N : ℕ → Bool) → ((f : ℕ) → MentionsBy rows calls body f → M f ≡ true → N f ≡ true)
    → NeverBy tree rows (stops_of calls M) body → NeverBy tree rows (stops_of calls N) body
never_still_by tree rows calls body M N h never p exit r = never p exit (less_by rows calls body M N h r).1

-- by the rows of the tree's graph it is the same
pub never_by_rows : (tree : FileTree) (labels : List (Option ℕ)) (rows : List (List ℕ)) (stops : ℕ → Bool) (body : ℕ) → IsGraph tree labels rows
    → NeverBy tree rows stops body ↔ NeverReturns tree labels stops body
never_by_rows tree labels rows stops body graph = (
  λ never p exit r. never p exit (reached_so (Flow tree labels stops) (FlowBy rows stops) (before body) (λ p q s. (s.0, (graph p q).1 s.1)) r),
  λ never p exit r. never p exit (reached_so (FlowBy rows stops) (Flow tree labels stops) (before body) (λ p q s. (s.0, (graph p q).0 s.1)) r),
)
