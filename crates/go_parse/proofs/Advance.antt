use Rattle.std.proofs.Common.{◌≡◌, ℕ, ◌-◌, Option, Some, None, List, [], ◌∷◌, ◌++◌, length, arith, refl, subst, sym, ap, ◌∙◌}
use Rattle.std.specs.Prelude.{reverse, option_to_list}
use Rattle.std.proofs.lemmas.List.{reverse-append, append-nil}
use Rattle.go_parse.specs.declared.parser.Task.{Task}
use Rattle.go_parse.specs.declared.parser.Task.TheVariants.{Want, Close, After}
use Rattle.go_tree.specs.Forest.{Forest}
use Rattle.go_tree.specs.Classes.{next}
use Rattle.go_tree.specs.declared.tree.Node.{Node}
use Rattle.go_tree.specs.declared.tree.NodeKind.{NodeKind}
use Rattle.go_parse.specs.State.{State, Outcome, Goes, Takes, Refuses, turned, Completes, Holds, Leads}
use Rattle.go_parse.specs.Machine.{FitsItem, topped}
use Rattle.go_parse.proofs.Arenas.{length_roots, length_heights, length_kinds}
use Rattle.go_parse.proofs.Turns.{Outcomes, under, turn_leads}

abbrev pub state : List Task → List Node → List ℕ → List ℕ → List NodeKind → State
state k ns ps hs ks = record { stack = k; nodes = ns; pending = ps; heights = hs; kinds = ks }

pub popped : (old new : List Task) (i : Task) → old ≡ new ++ i ∷ [] → reverse old ≡ i ∷ reverse new
popped old new i e = ap reverse e ∙ reverse-append new (i ∷ [])

pub chain : (n : ℕ) (xs : List ℕ) (a b : State) (o : Outcome) → Leads n xs a b → Outcomes n xs b o → Outcomes n xs a o
chain n xs a b (Goes s) f h = λ g w.
    let l = f g w in
    let m = h l.g' l.holds in
    record { g' = m.g'; holds = m.holds; goes = λ t c. m.goes t (l.goes t c); comes = λ t c. l.comes t (m.comes t c) }
chain n xs a b (Takes s) f h = (
  λ x ys e g w.
      let l = f g w in
      let m = h.0 x ys e l.g' l.holds in
      record {
        g' = m.g';
        holds = m.holds;
        goes = λ t c. m.goes t (subst (λ v. Completes n b.stack l.g' v t) e (l.goes t (subst (λ v. Completes n a.stack g v t) (sym e) c)));
        comes = λ t c. subst (λ v. Completes n a.stack g v t) e (l.comes t (subst (λ v. Completes n b.stack l.g' v t) (sym e) (m.comes t c)));
      },
  λ e g w t c. (let l = f g w in h.1 e l.g' l.holds t (l.goes t c)),
)
chain n xs a b Refuses f h = λ g w t c. (let l = f g w in h l.g' l.holds t (l.goes t c))

pub on : (n : ℕ) (xs : List ℕ) (k at : ℕ) (i : Task) (s0 b s : State) (o : Outcome) → next xs ≡ k → at ≡ n - length xs
    → b ≡ under i s → Leads n xs s0 b → o ≡ turned i k at s → Outcomes n xs s0 o
on n xs k at i s0 b s o e a q f t =
    chain n xs s0 b o f (subst (λ b. Outcomes n xs b o) (sym q) (subst (Outcomes n xs (under i s)) (sym (t ∙ ap (λ k. turned i k at s) (sym e))) (turn_leads n xs at i s a)))

pub fits : (i : Task) (s : State) (g : Forest) (m : ℕ) → Holds (under i s) g → m ≡ length s.pending → FitsItem i m
fits (Want x) s g m h e = tt
fits (Close kind a base) s g m h e = let z = ap length h.pending in let y = length_roots 0 g in omega (arith, h.based.0, z, y)
fits (After p q v a base) s g m h e = tt

pub fits_heights : (i : Task) (s : State) (g : Forest) (m : ℕ) → Holds (under i s) g → m ≡ length s.heights → FitsItem i m
fits_heights (Want x) s g m h e = tt
fits_heights (Close kind a base) s g m h e = let z = ap length h.heights in let y = length_heights g in omega (arith, h.based.0, z, y)
fits_heights (After p q v a base) s g m h e = tt

pub fits_kinds : (i : Task) (s : State) (g : Forest) (m : ℕ) → Holds (under i s) g → m ≡ length s.kinds → FitsItem i m
fits_kinds (Want x) s g m h e = tt
fits_kinds (Close kind a base) s g m h e = let z = ap length h.kinds in let y = length_kinds g in omega (arith, h.based.0, z, y)
fits_kinds (After p q v a base) s g m h e = tt

-- The state with the item that a stack's last one was, if it had one.
pub unpopped : (old new : List Task) (o : Option Task) (ns : List Node) (ps hs : List ℕ) (ks : List NodeKind) → old ≡ new ++ option_to_list o
    → topped o (state (reverse new) ns ps hs ks) ≡ state (reverse old) ns ps hs ks
unpopped old new None ns ps hs ks e = ap (λ k. state (reverse k) ns ps hs ks) (sym (e ∙ append-nil new))
unpopped old new (Some i) ns ps hs ks e = ap (λ k. state k ns ps hs ks) (sym (popped old new i e))

-- A state leads to itself.
pub stays : (n : ℕ) (xs : List ℕ) (s s' : State) → s' ≡ s → Leads n xs s s'
stays n xs s s' e = subst (λ v. Leads n xs s v) (sym e) (λ g w. record { g' = g; holds = w; goes = λ t c. c; comes = λ t c. c })

-- A turn leads on from the state with its item on the stack.
pub led : (n : ℕ) (xs : List ℕ) (k at : ℕ) (next_one : Option Task) (i : Task) (s0 s : State) (o : Outcome) → next xs ≡ k → at ≡ n - length xs
    → next_one ≡ Some i → Leads n xs s0 (topped next_one s) → o ≡ turned i k at s → Outcomes n xs s0 o
led n xs k at next_one i s0 s o e a is f t = on n xs k at i s0 (topped (Some i) s) s o e a refl (subst (λ v. Leads n xs s0 (topped v s)) is f) t
