-- The states of the machine, over the classes of tokens.
use Rattle.std.proofs.Common.{◌≡◌, Bool, true, false, ℕ, ◌+◌, ◌-◌, ◌<◌, ◌≤◌, List, [], ◌∷◌, length, drop, refl, arith, subst, sym, ◌∙◌, length-drop, get_or, drop-cons, add-one}
use Rattle.std.specs.Prelude.{◌==◌}
use Rattle.go_tree.specs.declared.grammar.Category.{Category}
use Rattle.go_tree.specs.declared.grammar.Symbol.TheVariants.{Inline}
use Rattle.go_tree.specs.Classes.{next}
use Rattle.go_tree.specs.Follow.{follow}
use Rattle.go_tree.specs.Forest.{Forest, ◌⊕◌}
use Rattle.go_tree.specs.Spells.{Spells}
use Rattle.go_parse.specs.State.{State, Completes, Holds, Fails, Passes, Stops}
use Rattle.go_parse.specs.declared.parser.Step.{Step}
use Rattle.go_parse.specs.declared.parser.Step.TheVariants as steps
use Rattle.go_parse.specs.Machine.{Built, wanting, SpellsTo, Unspelled, Stepped, Ended, Answered, is_over, stops}
use Rattle.go_parse.proofs.Forests.{beside_cancel}

-- What is left of the classes completes the state to the trees that all of them spell, over the trees before.
pub record Same (n : ℕ) (z : Category) (cs : List ℕ) (b : Forest) (xs : List ℕ) (s : State) : Type 0 where
  pub g : Forest
  pub holds : Holds s g
  pub goes : (f : Forest) → SpellsTo n z cs f → Completes n s.stack g xs (b ⊕ f)
  pub comes : (h : Forest) → Completes n s.stack g xs h → (f : Forest) × SpellsTo n z cs f × (b ⊕ f ≡ h)

at_end : (z : Category) → follow z 75 ≡ true → (c : ℕ) → c < 77 → (c == 75) ≡ true → follow z c ≡ true
at_end z e c l h = let q : c ≡ 75 = grind arith in subst (λ c. follow z c ≡ true) (sym q) e

pub begin : (n : ℕ) (z : Category) (cs : List ℕ) (b : Forest) (s : State) → follow z 75 ≡ true → Built s b → Same n z cs b cs (wanting z s)
begin n z cs b s e h = record {
  g = b;
  holds = record { nodes = h.nodes; pending = h.pending; heights = h.heights; kinds = h.kinds; orderly = (at_end z e, tt); based = tt };
  goes = λ f w. (f, [], w, (refl, refl));
  comes = λ h c. (c.0, subst (λ v. Spells n (Inline z ∷ []) c.0 cs v) c.3.0 c.2, c.3.1);
}

pub taken : (n : ℕ) (z : Category) (cs : List ℕ) (b : Forest) (xs ys : List ℕ) (x : ℕ) (s s' : State) → xs ≡ x ∷ ys → Same n z cs b xs s → Passes n xs s s' → Same n z cs b ys s'
taken n z cs b xs ys x s s' e h p =
    let m = p.0 x ys e h.g h.holds in
    record {
      g = m.g';
      holds = m.holds;
      goes = λ f c. m.goes (b ⊕ f) (subst (λ v. Completes n s.stack h.g v (b ⊕ f)) e (h.goes f c));
      comes = λ f c. h.comes f (subst (λ v. Completes n s.stack h.g v f) (sym e) (m.comes f c));
    }

pub refused : (n : ℕ) (z : Category) (cs : List ℕ) (b : Forest) (xs : List ℕ) (s : State) → Same n z cs b xs s → Fails n xs s → Unspelled n z cs
refused n z cs b xs s h r f w = r h.g h.holds (b ⊕ f) (h.goes f w)

-- The stack is empty before the classes are.
pub over_early : (n : ℕ) (z : Category) (cs : List ℕ) (b : Forest) (xs ys : List ℕ) (x : ℕ) (s s' : State) → xs ≡ x ∷ ys → Same n z cs b xs s → Stops n xs s s' → Unspelled n z cs
over_early n z cs b xs ys x s s' e h p f w =
    let m = p.0 h.g h.holds in
    let c = m.goes (b ⊕ f) (h.goes f w) in
    let c' = subst (λ k. Completes n k m.g' xs (b ⊕ f)) p.1 c in
    let z = c'.0 in cc

-- The stack and the classes are at an end: the trees are those of the state.
pub over : (n : ℕ) (z : Category) (cs : List ℕ) (b : Forest) (s s' : State) → Same n z cs b [] s → Stops n [] s s' → Ended n z cs b s'
over n z cs b s s' h p =
    let m = p.0 h.g h.holds in
    let w = h.comes m.g' (m.comes m.g' (subst (λ k. Completes n k m.g' [] m.g') (sym p.1) (refl, refl))) in
    record {
      f = w.0;
      spelled = w.1;
      built = subst (Built s') (sym w.2) (record { nodes = m.holds.nodes; pending = m.holds.pending; heights = m.holds.heights; kinds = m.holds.kinds });
      only = λ o v. beside_cancel b w.0 o (w.2 ∙ (subst (λ k. Completes n k m.g' [] (b ⊕ o)) p.1 (m.goes (b ⊕ o) (h.goes o v))).1);
    }

pub cut : (xs : List ℕ) (i : ℕ) (d : ℕ) → i < length xs → drop i xs ≡ get_or xs i d ∷ drop (i + 1) xs
cut xs i d l = rw (add-one, drop-cons xs i d) refl

pub here : (cs : List ℕ) (i : ℕ) → i ≤ length cs → i ≡ length cs - length (drop i cs)
here cs i l = let z = length-drop i cs in omega (arith, z)

-- What a step needs: the classes that are left.
pub need : (cs : List ℕ) (i k : ℕ) (z : Category) (ds : List ℕ) (b : Forest) (s : State) → i ≤ length cs → next (drop i cs) ≡ k → (h : Same (length cs) z ds b (drop i cs) s)
    → (n : ℕ) × (xs : List ℕ) × (g : Forest) × (next xs ≡ k) × (i ≡ n - length xs) × Holds s g
need cs i k z ds b s l e h = (length cs, drop i cs, h.g, e, here cs i l, h.holds)

pub none_left : (cs : List ℕ) (i : ℕ) → i ≡ length cs → drop i cs ≡ []
none_left cs i e = rw e (drop_all cs)
  where
    drop_all : (xs : List ℕ) → drop (length xs) xs ≡ []
    drop_all [] = refl
    drop_all (x ∷ xs) = drop_all xs

-- No token is left to be taken.
pub not_taken : (n : ℕ) (z : Category) (cs : List ℕ) (b : Forest) (s s' : State) → Same n z cs b [] s → Stepped steps.Taken n [] s s' → Unspelled n z cs
not_taken n z cs b s s' h p f w = p.1 refl h.g h.holds (b ⊕ f) (h.goes f w)

-- the same at the end
pub at_the_end : (cs : List ℕ) (i : ℕ) (z : Category) (ds : List ℕ) (b : Forest) (s : State) → i ≡ length cs → Same (length cs) z ds b (drop i cs) s → Same (length cs) z ds b [] s
at_the_end cs i z ds b s e h = subst (λ v. Same (length cs) z ds b v s) (none_left cs i e) h

-- To want a category leaves what was built.
pub carry : (z : Category) (s s' : State) (b : Forest) → s' ≡ wanting z s → Built s b → Built s' b
carry z s s' b e h = subst (λ v. Built v b) (sym e) (record { nodes = h.nodes; pending = h.pending; heights = h.heights; kinds = h.kinds })

pub start_same : (n : ℕ) (z : Category) (cs : List ℕ) (b : Forest) (s s' : State) → s' ≡ wanting z s → follow z 75 ≡ true → Built s' b → Same n z cs b cs s'
start_same n z cs b s s' e f h =
    let w : Built (wanting z s) b = subst (λ v. Built v b) e h in
    subst (Same n z cs b cs) (sym e) (begin n z cs b s f (record { nodes = w.nodes; pending = w.pending; heights = w.heights; kinds = w.kinds }))

end_is : (a b : ℕ) → (a == b) ≡ true → a ≡ b
end_is a b h = grind arith

end_not : (a b : ℕ) → (a == b) ≡ false → a ≤ b → a < b
end_not a b h l = grind arith

-- What the step at the end says of all.
pub last : (cs : List ℕ) (i k : ℕ) (z : Category) (ds : List ℕ) (b : Forest) (s s' : State) (t : Step) (e r : Bool) → e ≡ (i == length cs) → e ≡ true → next (drop i cs) ≡ k
    → Same (length cs) z ds b (drop i cs) s → ((n : ℕ) (xs : List ℕ) → next xs ≡ k → i ≡ n - length xs → Stepped t n xs s s') → r ≡ is_over t
    → Answered r (length cs) z ds b s'
last cs i k z ds b s s' t e r g f n h p q =
    let at : i ≡ length cs = end_is i (length cs) (sym g ∙ f) in
    let none = none_left cs i at in
    let same = at_the_end cs i z ds b s at h in
    let step : Stepped t (length cs) [] s s' = subst (λ v. Stepped t (length cs) v s s') none (p (length cs) (drop i cs) n (here cs i (omega (arith, at)))) in
    subst (λ r. Answered r (length cs) z ds b s') (sym q) (by t step)
  where
    by : (t : Step) → Stepped t (length cs) [] s s' → Answered (is_over t) (length cs) z ds b s'
    by steps.Over w = over (length cs) z ds b s s' (at_the_end cs i z ds b s (end_is i (length cs) (sym g ∙ f)) h) w
    by steps.Taken w = not_taken (length cs) z ds b s s' (at_the_end cs i z ds b s (end_is i (length cs) (sym g ∙ f)) h) w
    by steps.Refused w = refused (length cs) z ds b [] s (at_the_end cs i z ds b s (end_is i (length cs) (sym g ∙ f)) h) w

-- A step before the end that takes no token.
pub stopped : (cs : List ℕ) (i k : ℕ) (z : Category) (ds : List ℕ) (b : Forest) (s s' : State) (t : Step) (e : Bool) → e ≡ (i == length cs) → e ≡ false → i ≤ length cs → next (drop i cs) ≡ k
    → Same (length cs) z ds b (drop i cs) s → ((n : ℕ) (xs : List ℕ) → next xs ≡ k → i ≡ n - length xs → Stepped t n xs s s') → stops t ≡ true
    → Unspelled (length cs) z ds
stopped cs i k z ds b s s' t e g f l n h p q = by t q (p (length cs) (drop i cs) n (here cs i l))
  where
    by : (t : Step) → stops t ≡ true → Stepped t (length cs) (drop i cs) s s' → Unspelled (length cs) z ds
    by steps.Over q w = over_early (length cs) z ds b (drop i cs) (drop (i + 1) cs) (get_or cs i 0) s s' (cut cs i 0 (end_not i (length cs) (sym g ∙ f) l)) h w
    by steps.Refused q w = refused (length cs) z ds b (drop i cs) s h w
    by steps.Taken q w = absurd (let e = q in cc)

-- A step that takes one.
pub went : (cs : List ℕ) (i k : ℕ) (z : Category) (ds : List ℕ) (b : Forest) (s s' : State) (t : Step) (e : Bool) → e ≡ (i == length cs) → e ≡ false → i ≤ length cs → next (drop i cs) ≡ k
    → Same (length cs) z ds b (drop i cs) s → ((n : ℕ) (xs : List ℕ) → next xs ≡ k → i ≡ n - length xs → Stepped t n xs s s') → stops t ≡ false
    → Same (length cs) z ds b (drop (i + 1) cs) s'
went cs i k z ds b s s' t e g f l n h p q = by t q (p (length cs) (drop i cs) n (here cs i l))
  where
    by : (t : Step) → stops t ≡ false → Stepped t (length cs) (drop i cs) s s' → Same (length cs) z ds b (drop (i + 1) cs) s'
    by steps.Taken q w = taken (length cs) z ds b (drop i cs) (drop (i + 1) cs) (get_or cs i 0) s s' (cut cs i 0 (end_not i (length cs) (sym g ∙ f) l)) h w
    by steps.Over q w = absurd (let e = q in cc)
    by steps.Refused q w = absurd (let e = q in cc)

pub within : (cs : List ℕ) (i : ℕ) (e : Bool) → e ≡ (i == length cs) → e ≡ false → i ≤ length cs → i + 1 ≤ length cs
within cs i e g f l = let lt = end_not i (length cs) (sym g ∙ f) l in omega (arith, lt)

pub nearer : (cs : List ℕ) (i : ℕ) (e : Bool) → e ≡ (i == length cs) → e ≡ false → i ≤ length cs → length cs - (i + 1) < length cs - i
nearer cs i e g f l = let lt = end_not i (length cs) (sym g ∙ f) l in omega (arith, lt)
