-- A state becomes one forest at most.
use Rattle.std.proofs.Common.{true, ◌≡◌, ℕ, zero, suc, ◌-◌, ◌<◌, List, [], ◌∷◌, length, refl, arith, subst, sym, ◌∙◌}
use Rattle.go_parse.specs.declared.parser.Task.{Task}
use Rattle.go_tree.specs.Forest.{Forest, Empty}
use Rattle.go_tree.specs.Classes.{next}
use Rattle.go_tree.specs.declared.tree.Node.{Node}
use Rattle.go_tree.specs.declared.tree.NodeKind.{NodeKind}
use Rattle.go_parse.specs.State.{State, Outcome, Goes, Takes, Refuses, turned, Completes, Holds, Passes}
use Rattle.go_parse.specs.Machine.{wanting, SpellsTo}
use Rattle.go_tree.specs.Follow.{follow}
use Rattle.go_tree.specs.declared.grammar.Category.{Category}
use Rattle.go_parse.proofs.Steps.{turns, Shorter, turn_shorter}
use Rattle.go_parse.proofs.Turns.{Outcomes, turn_leads}
use Rattle.go_parse.proofs.Advance.{state}
use Rattle.go_parse.proofs.Parse.{begin}

-- at most one, of what is left
abbrev One : ℕ → List ℕ → Type 0
One n xs = (k : List Task) (ns : List Node) (ps hs : List ℕ) (ks : List NodeKind) (g f f' : Forest) → Holds (state k ns ps hs ks) g → Completes n k g xs f → Completes n k g xs f' → f ≡ f'

inner : (n : ℕ) (xs : List ℕ) → ((x : ℕ) (ys : List ℕ) → xs ≡ x ∷ ys → One n ys)
    → (fuel : ℕ) (k : List Task) (ns : List Node) (ps hs : List ℕ) (ks : List NodeKind) (g f f' : Forest) → turns k < fuel → Holds (state k ns ps hs ks) g → Completes n k g xs f → Completes n k g xs f' → f ≡ f'
inner n xs i zero k ns ps hs ks g f f' l h c c' = absurd (omega arith)
inner n xs i (suc fuel) [] ns ps hs ks g f f' l h c c' = sym c.1 ∙ c'.1
inner n xs i (suc fuel) (t ∷ k) ns ps hs ks g f f' l h c c' =
    go (turned t (next xs) (n - length xs) (state k ns ps hs ks)) (turn_leads n xs (n - length xs) t (state k ns ps hs ks) refl) (turn_shorter t (next xs) (n - length xs) (state k ns ps hs ks)) (inner n xs i fuel)
  where
    first_of : (zs : List ℕ) (s : State) → Passes n zs (state (t ∷ k) ns ps hs ks) s → ((x : ℕ) (ys : List ℕ) → zs ≡ x ∷ ys → One n ys) → Completes n (t ∷ k) g zs f → Completes n (t ∷ k) g zs f' → f ≡ f'
    first_of [] s p i c c' = absurd (p.1 refl g h f c)
    first_of (x ∷ ys) s p i c c' = let m = p.0 x ys refl g h in i x ys refl s.stack s.nodes s.pending s.heights s.kinds m.g' f f' m.holds (m.goes f c) (m.goes f' c')

    go : (o : Outcome) → Outcomes n xs (state (t ∷ k) ns ps hs ks) o → Shorter (turns (t ∷ k)) o
        → ((k : List Task) (ns : List Node) (ps hs : List ℕ) (ks : List NodeKind) (g f f' : Forest) → turns k < fuel → Holds (state k ns ps hs ks) g → Completes n k g xs f → Completes n k g xs f' → f ≡ f')
        → f ≡ f'
    go (Goes s) o w r = let m = o g h in r s.stack s.nodes s.pending s.heights s.kinds m.g' f f' (omega arith) m.holds (m.goes f c) (m.goes f' c')
    go (Takes s) o w r = first_of xs s o i c c'
    go Refuses o w r = absurd (o g h f c)

one : (n : ℕ) (xs : List ℕ) → One n xs
one n [] = λ k ns ps hs ks g f f' h c c'. inner n [] (λ x ys e. cc) (suc (turns k)) k ns ps hs ks g f f' (omega arith) h c c'
one n (x ∷ xs) = again (one n xs)
  where
    again : One n xs → One n (x ∷ xs)
    again i = λ k ns ps hs ks g f f' h c c'. inner n (x ∷ xs) (λ y ys e. (let q : xs ≡ ys = cc in subst (One n) q i)) (suc (turns k)) k ns ps hs ks g f f' (omega arith) h c c'

-- A category spells the same classes with one forest at most.
pub one_forest : (n : ℕ) (z : Category) (cs : List ℕ) (f f' : Forest) → follow z 75 ≡ true → SpellsTo n z cs f → SpellsTo n z cs f' → f ≡ f'
one_forest n z cs f f' e s t =
    let none : State = state [] [] [] [] [] in
    let w = begin n z cs Empty none e (record { nodes = refl; pending = refl; heights = refl; kinds = refl }) in
    one n cs (wanting z none).stack [] [] [] [] w.g f f' w.holds (w.goes f s) (w.goes f' t)
