-- The facts of packages, one package more at a time.
use Rattle.std.proofs.Common.{◌≡◌, ℕ, ◌+◌, ◌<◌, List, [], ◌∷◌, ◌++◌, length, take, get_or, sym, ap, ◌∙◌, arith, append_assoc}
use Rattle.std.proofs.lemmas.List.{append-nil, take_more, length-take-le}
use Rattle.analysis_core.specs.declared.reply.FactLine.{FactLine}
use Rattle.import_graph.specs.declared.pack.Package.{Package}
use Rattle.fact_lines.specs.Lines.{all_facts, package_lines}

abbrev Facts : Type 0
Facts = List (ℕ × List ℕ)

snoc : (ps : List Package) (facts : List Facts) (p : Package) (f : Facts) → length ps ≡ length facts → all_facts (ps ++ p ∷ []) (facts ++ f ∷ []) ≡ all_facts ps facts ++ package_lines p.path f
snoc [] [] p f e = append-nil (package_lines p.path f)
snoc [] (g ∷ facts) p f e = absurd (omega (arith, e))
snoc (q ∷ ps) [] p f e = absurd (omega (arith, e))
snoc (q ∷ ps) (g ∷ facts) p f e =
    ap (λ t. package_lines q.path g ++ t) (snoc ps facts p f (omega (arith, e))) ∙ sym (append_assoc (package_lines q.path g) (all_facts ps facts) (package_lines p.path f))

-- one package more
pub package-more : (ps : List Package) (facts : List Facts) (k : ℕ) (p : Package) (f : Facts) (old new : List FactLine) → k < length ps → length facts ≡ length ps → p ≡ get_or ps k p → f ≡ get_or facts k f
    → old ≡ all_facts (take k ps) (take k facts) → new ≡ old ++ package_lines p.path f → new ≡ all_facts (take (k + 1) ps) (take (k + 1) facts)
package-more ps facts k p f old new lt size p_is f_is so_far grown =
    let a : take (k + 1) ps ≡ take k ps ++ p ∷ [] = take_more ps k p lt ∙ ap (λ x. take k ps ++ x ∷ []) (sym p_is) in
    let b : take (k + 1) facts ≡ take k facts ++ f ∷ [] = take_more facts k f (omega (arith, lt, size)) ∙ ap (λ x. take k facts ++ x ∷ []) (sym f_is) in
    let l : length (take k ps) ≡ k = length-take-le k ps (omega (arith, lt)) in
    let m : length (take k facts) ≡ k = length-take-le k facts (omega (arith, lt, size)) in
    grown ∙ (ap (λ t. t ++ package_lines p.path f) so_far
    ∙ (sym (snoc (take k ps) (take k facts) p f (l ∙ sym m))
    ∙ (ap (λ t. all_facts t (take k facts ++ f ∷ [])) (sym a) ∙ ap (all_facts (take (k + 1) ps)) (sym b))))
