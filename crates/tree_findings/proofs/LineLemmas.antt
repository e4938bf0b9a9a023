-- The diagnostics of all packages, one package more at a time; they have one order.
use Rattle.std.proofs.Common.{◌≡◌, ℕ, zero, suc, ◌+◌, ◌<◌, List, [], ◌∷◌, ◌++◌, length, map, take, get_or, All, refl, sym, ap, ◌∙◌, subst, arith, append_assoc}
use Rattle.std.specs.List.{Contains}
use Rattle.std.proofs.lemmas.List.{append-nil, take_more, length-take-le}
use Rattle.std.proofs.lemmas.List.Elements.{All-contains, Contains-get_or}
use Rattle.analysis_core.specs.declared.diagnostic.Diagnostic.{Diagnostic}
use Rattle.analysis_core.specs.declared.reply.FoundLine.{FoundLine}
use Rattle.std.specs.List.Sorted.{IsStrictlySortedBy}
use Rattle.analysis_core.specs.FoundOrder.{found_order}
use Rattle.analysis_core.proofs.OneLemmas.{one_sorted}
use Rattle.analysis_core.proofs.OrderLemmas.{found_total}
use Rattle.import_graph.specs.declared.pack.Package.{Package}
use Rattle.tree_findings.specs.Lines.{line_in_tree, all_lines, IsSettled}

abbrev lines_of : Package → List Diagnostic → List FoundLine
lines_of p ds = map (line_in_tree p.path p.files) ds

snoc : (ps : List Package) (found : List (List Diagnostic)) (p : Package) (ds : List Diagnostic) → length ps ≡ length found → all_lines (ps ++ p ∷ []) (found ++ ds ∷ []) ≡ all_lines ps found ++ lines_of p ds
snoc [] [] p ds e = append-nil (lines_of p ds)
snoc [] (es ∷ found) p ds e = absurd (omega (arith, e))
snoc (q ∷ ps) [] p ds e = absurd (omega (arith, e))
snoc (q ∷ ps) (es ∷ found) p ds e =
    ap (λ t. lines_of q es ++ t) (snoc ps found p ds (omega (arith, e))) ∙ sym (append_assoc (lines_of q es) (all_lines ps found) (lines_of p ds))

-- one package more
pub lines-more : (ps : List Package) (found : List (List Diagnostic)) (k : ℕ) (p : Package) (ds : List Diagnostic) (old new : List FoundLine) → k < length ps → length found ≡ length ps → p ≡ get_or ps k p → ds ≡ get_or found k ds
    → old ≡ all_lines (take k ps) (take k found) → new ≡ old ++ lines_of p ds → new ≡ all_lines (take (k + 1) ps) (take (k + 1) found)
lines-more ps found k p ds old new lt size p_is ds_is so_far grown =
    let a : take (k + 1) ps ≡ take k ps ++ p ∷ [] = take_more ps k p lt ∙ ap (λ x. take k ps ++ x ∷ []) (sym p_is) in
    let b : take (k + 1) found ≡ take k found ++ ds ∷ [] = take_more found k ds (omega (arith, lt, size)) ∙ ap (λ x. take k found ++ x ∷ []) (sym ds_is) in
    let l : length (take k ps) ≡ k = length-take-le k ps (omega (arith, lt)) in
    let m : length (take k found) ≡ k = length-take-le k found (omega (arith, lt, size)) in
    grown ∙ (ap (λ t. t ++ lines_of p ds) so_far
    ∙ (sym (snoc (take k ps) (take k found) p ds (l ∙ sym m))
    ∙ (ap (λ t. all_lines t (take k found ++ ds ∷ [])) (sym a) ∙ ap (all_lines (take (k + 1) ps)) (sym b))))

-- what is put in order
pub settled-by : (lines old new : List FoundLine) → old ≡ lines → ((l : FoundLine) → Contains new l → Contains old l) → ((l : FoundLine) → Contains old l → Contains new l) → IsStrictlySortedBy found_order new → IsSettled lines new
settled-by lines old new same each every rises = subst (λ ls. IsSettled ls new) same (record { each = each; every = every; rises = rises })

-- lines have one order
pub one_settled : (lines a b : List FoundLine) → IsSettled lines a → IsSettled lines b → a ≡ b
one_settled lines a b x y = one_sorted found_total a b x.rises y.rises (λ l c. y.every l (x.each l c)) (λ l c. x.every l (y.each l c))

-- what holds of all lines holds of them in order
pub settled-all : (P : FoundLine → Type 0) (lines a : List FoundLine) → IsSettled lines a → All P lines → All P a
settled-all P lines a x all = λ k d lt. All-contains P lines (get_or a k d) all (x.each (get_or a k d) (Contains-get_or a k d lt))
