-- One tree, and one finding.
use Rattle.std.proofs.Common.{◌≡◌, ℕ, ◌+◌, inl, inr, List, [], ◌∷◌, length, refl, arith, sym, ap, ◌∙◌}
use Rattle.go_tree.specs.declared.grammar.Stage.{Stage}
use Rattle.go_tree.specs.declared.grammar.Stage.TheVariants.{Clause}
use Rattle.go_tree.specs.declared.token.Token.{Token}
use Rattle.go_tree.specs.declared.tree.FileTree.{FileTree}
use Rattle.go_tree.specs.Arena.{arena_of, depth}
use Rattle.go_tree.specs.Classes.{classes}
use Rattle.go_tree.specs.Forest.{Forest, ◌⊕◌}
use Rattle.go_tree.specs.Pieces.{pieces, wanted, after, SpellsPiece, SpellsPieces, Spelled, Finding, Finds}
use Rattle.go_parse.specs.Chunk.{FindsOf}
use Rattle.go_parse.specs.Machine.{Built}
use Rattle.go_parse.specs.State.{State}
use Rattle.go_parse.proofs.PieceLaws.{stage_ends}
use Rattle.go_parse.proofs.Unique.{one_forest}

one_piece : (s : Stage) (at : ℕ) (p : List ℕ) (f g : Forest) → SpellsPiece s at p f → SpellsPiece s at p g → f ≡ g
one_piece s at p f g a b = one_forest (at + length p) (wanted s) p f g (stage_ends s) a b

one_file : (s : Stage) (at : ℕ) (ps : List (List ℕ)) (f g : Forest) → SpellsPieces s at ps f → SpellsPieces s at ps g → f ≡ g
one_file s at [] f g a b = absurd a
one_file s at (p ∷ []) f g a b = a.2 ∙ sym b.2
one_file s at (p ∷ (q ∷ ps)) f g a b =
    let e = one_piece s at p a.0 b.0 a.2 b.2 in
    let d = one_file (after s p) (at + length p + 1) (q ∷ ps) a.1 b.1 a.3 b.3 in
    sym a.4 ∙ ap (λ v. v ⊕ a.1) e ∙ ap (λ v. b.0 ⊕ v) d ∙ b.4

pub one_tree : (tokens : List Token) (source : List ℕ) (s t : FileTree) → Spelled tokens source s → Spelled tokens source t → s ≡ t
one_tree tokens source s t v w = sym v.arena ∙ ap (arena_of tokens) (one_file Clause 0 (pieces 0 (classes source tokens)) v.forest w.forest v.spelled w.spelled) ∙ w.arena

one_found : (s : Stage) (at : ℕ) (ps : List (List ℕ)) (v w : Finding) → Finds s at ps v → Finds s at ps w → v ≡ w
one_found s at [] v w a b = absurd a
one_found s at (p ∷ []) v w (inl a) (inl b) = a.0 ∙ sym b.0
one_found s at (p ∷ []) v w (inl a) (inr b) = absurd (b.1 (a.1, a.2))
one_found s at (p ∷ []) v w (inr a) (inl b) = absurd (a.1 (b.1, b.2))
one_found s at (p ∷ []) v w (inr a) (inr b) = a.0 ∙ sym b.0
one_found s at (p ∷ (q ∷ ps)) v w (inl a) (inl b) = a.0 ∙ sym b.0
one_found s at (p ∷ (q ∷ ps)) v w (inl a) (inr (inl b)) = absurd (a.1 b.1 b.2)
one_found s at (p ∷ (q ∷ ps)) v w (inl a) (inr (inr b)) = absurd (a.1 b.0 b.1)
one_found s at (p ∷ (q ∷ ps)) v w (inr (inl a)) (inl b) = absurd (b.1 a.1 a.2)
one_found s at (p ∷ (q ∷ ps)) v w (inr (inl a)) (inr (inl b)) = a.0 ∙ sym b.0
one_found s at (p ∷ (q ∷ ps)) v w (inr (inl a)) (inr (inr b)) = absurd (let e = ap depth (one_piece s at p a.1 b.0 a.2 b.1) in let l = a.3 in let h = b.2 in omega (arith, e, l, h))
one_found s at (p ∷ (q ∷ ps)) v w (inr (inr a)) (inl b) = absurd (b.1 a.0 a.1)
one_found s at (p ∷ (q ∷ ps)) v w (inr (inr a)) (inr (inl b)) = absurd (let e = ap depth (one_piece s at p a.0 b.1 a.1 b.2) in let l = b.3 in let h = a.2 in omega (arith, e, l, h))
one_found s at (p ∷ (q ∷ ps)) v w (inr (inr a)) (inr (inr b)) = one_found (after s p) (at + length p + 1) (q ∷ ps) v w a.3 b.3

pub one_finding : (tokens : List Token) (source : List ℕ) (v w : Finding) → FindsOf tokens source v → FindsOf tokens source w → v ≡ w
one_finding tokens source v w a b = one_found Clause 0 (pieces 0 (classes source tokens)) v w a b

-- The tree of a state that has read all.
pub whole_tree : (tokens : List Token) (source : List ℕ) (f : Forest) (s : State) → Built s f → arena_of tokens f ≡ record { tokens = tokens; nodes = s.nodes; tops = s.pending }
whole_tree tokens source f s b = let x = b.nodes in let y = b.pending in rw (x, y) refl
