-- Functions that are called where control leads.
use Rattle.std.proofs.Common.{◌≡◌, ◌⊎◌, inl, inr, ◌<◌, ◌≤◌, ◌+◌, ◌*◌, ◌/◌, ◌%◌, ◌==◌, ◌↔◌, ℕ, zero, suc, Bool, true, false, ◌&&◌, cond, List, [], ◌∷◌, ◌++◌, length, get_or, Option, Some, None, refl, sym, ap, ◌∙◌, subst, arith}
use Rattle.std.specs.List.{Contains}
use Rattle.std.specs.Prelude.{slice_index_or}
use Rattle.std.proofs.lemmas.Bool.{cases_eq, eqb-true, eq-eqb}
use Rattle.std.proofs.lemmas.List.Elements.{Contains-push, Contains-push_cases, Contains-append_left, Contains-get_or}
use Rattle.go_tree.specs.declared.tree.FileTree.{FileTree}
use Rattle.flow.specs.declared.point.Call.{Call}
use Rattle.flow.specs.declared.point.Call.TheVariants as c
use Rattle.flow.specs.Edges.{before}
use Rattle.flow.specs.Flow.{Leads, Flow, Reached, Mentions, call_at, stops_by, stops_of, is_stopped}
use Rattle.flow.specs.Search.{IsGraph, StepsBy, MentionsBy, targets_from, function_of, called_at, with_one, AreCalled}
use Rattle.flow.proofs.AroundLemmas.{either, same_some}
use Rattle.flow.proofs.SearchLemmas.{no_truth, by_bool, reached_so, flow_by, target_by, stops_or, to_target}

pub none_called : (calls : List Call) (points found : List ℕ) → found ≡ [] → AreCalled calls points 0 found
none_called calls points found is = record {
  each = λ f c. absurd (let there = subst (λ l. Contains l f) is c in let low = there.1 in omega (arith, low));
  every = λ i f low e. absurd (omega (arith, low));
}

no_some : {C : Type 0} (f : ℕ) → None ≡ Some f → C
no_some f e = absurd cc

pub called_more : (calls : List Call) (points : List ℕ) (i : ℕ) (one : Option ℕ) (found new : List ℕ) → i < length points → one ≡ called_at calls (get_or points i 0)
    → new ≡ with_one found one → AreCalled calls points i found → AreCalled calls points (i + 1) new
called_more calls points i None found new low told is a = rw is (record {
  each = a.each;
  every = λ j f under e. either (cases_eq j i)
      (λ same. no_some f (told ∙ (ap (λ k. called_at calls (get_or points k 0)) (sym same) ∙ e)))
      (λ ne. a.every j f (omega arith) e);
})
called_more calls points i (Some g) found new low told is a = rw is (record {
  each = λ f has. either (Contains-push_cases found g f has)
      (λ was. a.each f was)
      (λ e. (get_or points i 0, Contains-get_or points i 0 low, sym told ∙ ap Some e));
  every = λ j f under e. either (cases_eq j i)
      (λ same. let is_f : g ≡ f = same_some (told ∙ (ap (λ k. called_at calls (get_or points k 0)) (sym same) ∙ e)) in
      subst (Contains (found ++ g ∷ [])) is_f (Contains-push found g))
      (λ ne. Contains-append_left found (g ∷ []) f (a.every j f (omega arith) e));
})

pub all_called : (calls : List Call) (points : List ℕ) (i : ℕ) (found : List ℕ) → length points ≤ i → AreCalled calls points i found
    → (f : ℕ) → Contains found f ↔ ((p : ℕ) × Contains points p × (called_at calls p ≡ Some f))
all_called calls points i found end a f = (
  a.each f,
  λ w. let low = w.1.1 in
      a.every w.1.0 f (omega arith) (ap (called_at calls) (default_same points w.1.0 0 w.0 w.1.1 ∙ w.1.2) ∙ w.2),
)
  where
    default_same : (xs : List ℕ) (j d e : ℕ) → j < length xs → get_or xs j d ≡ get_or xs j e
    default_same [] j d e lt = absurd (omega (arith, lt))
    default_same (x ∷ xs) zero d e lt = refl
    default_same (x ∷ xs) (suc j) d e lt = default_same xs j d e (omega arith)

and_false : (b : Bool) → (b && false) ≡ false
and_false true = refl
and_false false = refl

-- where nothing is called nothing stops
pub never_stopped : (members : ℕ → Bool) (p : ℕ) → is_stopped (stops_of [] members) p ≡ false
never_stopped members p = and_false (p % 2 == 0)

function_called : (calls : List Call) (n f : ℕ) → function_of (call_at calls n) ≡ Some f → call_at calls n ≡ c.Function f
function_called calls n f e = by_call (call_at calls n) refl e where
  by_call : (x : Call) → call_at calls n ≡ x → function_of x ≡ Some f → call_at calls n ≡ c.Function f
  by_call c.Passes at is = no_some f is
  by_call c.Stops at is = no_some f is
  by_call (c.Function g) at is = at ∙ ap c.Function (same_some is)

called_before : (calls : List Call) (p f : ℕ) → called_at calls p ≡ Some f → (p ≡ before (p / 2)) × (call_at calls (p / 2) ≡ c.Function f)
called_before calls p f e = by_bool (p % 2 == 0)
    (λ is.
    let even : p % 2 ≡ 0 = eqb-true (p % 2) 0 is in
    (omega arith, function_called calls (p / 2) f (sym (ap (λ b. cond b (function_of (call_at calls (p / 2))) None) is) ∙ e)))
    (λ isnt. no_some f (sym (ap (λ b. cond b (function_of (call_at calls (p / 2))) None) isnt) ∙ e))

before_called : (calls : List Call) (n f : ℕ) → call_at calls n ≡ c.Function f → called_at calls (before n) ≡ Some f
before_called calls n f e =
    let even : before n % 2 ≡ 0 = omega arith in
    let half : before n / 2 ≡ n = omega arith in
    ap (λ b. cond b (function_of (call_at calls (before n / 2))) None) (eq-eqb (before n % 2) 0 even) ∙ (ap (λ k. function_of (call_at calls k)) half ∙ ap function_of e)

-- what is called behind what a search without stops found is what is mentioned
pub mentions_are : (tree : FileTree) (labels : List (Option ℕ)) (rows : List (List ℕ)) (calls : List Call) (members : ℕ → Bool) (body start : ℕ) (points found : List ℕ)
    → IsGraph tree labels rows → start ≡ before body
    → ((q : ℕ) → Contains points q ↔ Reached (λ p r. Contains (targets_from rows (stops_of [] members) p) r) start q)
    → ((f : ℕ) → Contains found f ↔ ((p : ℕ) × Contains points p × (called_at calls p ≡ Some f)))
    → (f : ℕ) → Contains found f ↔ Mentions tree labels calls body f
mentions_are tree labels rows calls members body start points found graph at reached has f = (
  λ w. let p = (has f).0 w in
      let b = called_before calls p.0 f p.2 in
      let way : Reached (Leads tree labels) (before body) p.0 =
      subst (λ s. Reached (Leads tree labels) s p.0) at
      (reached_so (λ p r. Contains (targets_from rows (stops_of [] members) p) r) (Leads tree labels) start
      (λ p q c. (flow_by tree labels (stops_of [] members) rows graph p q c).1) ((reached p.0).0 p.1)) in
      (p.0 / 2, subst (λ k. Reached (Leads tree labels) (before body) k) b.0 way, b.1),
  λ m. (has f).1 (
    before m.0,
    (reached (before m.0)).1
        (reached_so (Leads tree labels) (λ p r. Contains (targets_from rows (stops_of [] members) p) r) start
        (λ p q l. target_by tree labels (stops_of [] members) rows graph p q (never_stopped members p, l))
        (subst (λ s. Reached (Leads tree labels) s (before m.0)) (sym at) m.1)),
    before_called calls m.0 f m.2,
  ),
)

-- the same by the rows alone
pub mentions_by : (rows : List (List ℕ)) (calls : List Call) (members : ℕ → Bool) (body start : ℕ) (points found : List ℕ) → start ≡ before body
    → ((q : ℕ) → Contains points q ↔ Reached (λ p r. Contains (targets_from rows (stops_of [] members) p) r) start q)
    → ((f : ℕ) → Contains found f ↔ ((p : ℕ) × Contains points p × (called_at calls p ≡ Some f)))
    → (f : ℕ) → Contains found f ↔ MentionsBy rows calls body f
mentions_by rows calls members body start points found at reached has f = (
  λ w. let p = (has f).0 w in
      let b = called_before calls p.0 f p.2 in
      let way : Reached (StepsBy rows) (before body) p.0 =
      subst (λ s. Reached (StepsBy rows) s p.0) at
      (reached_so (λ p r. Contains (targets_from rows (stops_of [] members) p) r) (StepsBy rows) start
      (λ p q c. (stops_or rows (stops_of [] members) p q c).1) ((reached p.0).0 p.1)) in
      (p.0 / 2, subst (λ k. Reached (StepsBy rows) (before body) k) b.0 way, b.1),
  λ m. (has f).1 (
    before m.0,
    (reached (before m.0)).1
        (reached_so (StepsBy rows) (λ p r. Contains (targets_from rows (stops_of [] members) p) r) start
        (λ p q l. to_target rows (stops_of [] members) p q (never_stopped members p, l))
        (subst (λ s. Reached (StepsBy rows) s (before m.0)) (sym at) m.1)),
    before_called calls m.0 f m.2,
  ),
)
