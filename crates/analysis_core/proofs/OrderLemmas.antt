-- The orders of diagnostics are total, and tell all of them apart.
use Rattle.std.proofs.Common.{◌≡◌, ℕ, List, [], ◌∷◌, Option, Some, None, refl, sym, ap, ◌∙◌}
use Rattle.std.specs.Cmp.{IsTotalOrder}
use Rattle.std.specs.Ordering.{ordering_then, nat_cmp}
use Rattle.std.specs.Cmp.Lexicographic.{slice_cmp}
use Rattle.std.specs.declared.cmp.Ordering.{Ordering}
use Rattle.std.specs.declared.cmp.Ordering.TheVariants.{Less, Equal, Greater}
use Rattle.std.proofs.lemmas.Cmp.{then_total, on_total, nat_cmp_total, nat_list_cmp_total, lists_total}
use Rattle.std.proofs.lemmas.Map.Lookups.{CmpEqualImpliesEq, exact_unsigned, exact_bytes}
use Rattle.gv_base.specs.declared.place.Place.{Place}
use Rattle.fix_apply.specs.declared.edits.Edit.{Edit}
use Rattle.fix_apply.specs.declared.edits.Fix.{Fix}
use Rattle.analysis_core.specs.declared.diagnostic.Diagnostic.{Diagnostic}
use Rattle.analysis_core.specs.declared.reply.FoundLine.{FoundLine}
use Rattle.analysis_core.specs.FoundOrder.{edit_order, fix_count, fix_file, fix_edits, fix_order, order, found_order}

edit_total : IsTotalOrder edit_order
edit_total =
    then_total (on_total (λ (e : Edit). e.start) nat_cmp_total)
    (then_total (on_total (λ (e : Edit). e.end) nat_cmp_total)
    (on_total (λ (e : Edit). e.text) nat_list_cmp_total))

fix_total : IsTotalOrder fix_order
fix_total =
    then_total (on_total fix_count nat_cmp_total)
    (then_total (on_total fix_file nat_cmp_total)
    (on_total fix_edits (lists_total edit_total)))

pub order_total : IsTotalOrder order
order_total =
    then_total (on_total (λ (d : Diagnostic). d.place.file) nat_cmp_total)
    (then_total (on_total (λ (d : Diagnostic). d.place.offset) nat_cmp_total)
    (then_total (on_total (λ (d : Diagnostic). d.analyzer) nat_cmp_total)
    (then_total (on_total (λ (d : Diagnostic). d.text) nat_list_cmp_total)
    (then_total (on_total (λ (d : Diagnostic). d.end) nat_cmp_total)
    (on_total (λ (d : Diagnostic). d.fix) fix_total)))))

pub found_total : IsTotalOrder found_order
found_total = then_total (on_total (λ (l : FoundLine). l.package) nat_list_cmp_total) (on_total (λ (l : FoundLine). l.diagnostic) order_total)

-- both of two orders tie
first_ties : (a b : Ordering) → ordering_then a b ≡ Equal → a ≡ Equal
first_ties Less b e = e
first_ties Equal b e = refl
first_ties Greater b e = e

pub second_ties : (a b : Ordering) → ordering_then a b ≡ Equal → b ≡ Equal
second_ties Less b e = absurd cc
second_ties Equal b e = e
second_ties Greater b e = absurd cc

lists_exact : {K : Type 0} {R : K → K → Ordering} → CmpEqualImpliesEq R → CmpEqualImpliesEq (slice_cmp R)
lists_exact exact [] [] e = refl
lists_exact exact [] (y ∷ ys) e = absurd cc
lists_exact exact (x ∷ xs) [] e = absurd cc
lists_exact exact (x ∷ xs) (y ∷ ys) e =
    ap (λ h. h ∷ xs) (exact x y (first_ties _ _ e)) ∙ ap (λ l. y ∷ l) (lists_exact exact xs ys (second_ties _ _ e))

abbrev an_edit : ℕ → ℕ → List ℕ → Edit
an_edit start end text = record { start = start; end = end; text = text }

edit_exact : CmpEqualImpliesEq edit_order
edit_exact a b e =
    let rest = second_ties _ _ e in
    ap (λ s. an_edit s a.end a.text) (exact_unsigned a.start b.start (first_ties _ _ e))
    ∙ (ap (λ s. an_edit b.start s a.text) (exact_unsigned a.end b.end (first_ties _ _ rest))
    ∙ ap (λ s. an_edit b.start b.end s) (exact_bytes a.text b.text (second_ties _ _ rest)))

abbrev a_fix : ℕ → List Edit → Option Fix
a_fix file edits = Some (record { file = file; edits = edits })

fix_exact : CmpEqualImpliesEq fix_order
fix_exact None None e = refl
fix_exact None (Some b) e = absurd cc
fix_exact (Some a) None e = absurd cc
fix_exact (Some a) (Some b) e =
    let both : ordering_then (nat_cmp a.file b.file) (slice_cmp edit_order a.edits b.edits) ≡ Equal = e in
    ap (λ n. a_fix n a.edits) (exact_unsigned a.file b.file (first_ties (nat_cmp a.file b.file) (slice_cmp edit_order a.edits b.edits) both))
    ∙ ap (λ es. a_fix b.file es) (lists_exact edit_exact a.edits b.edits (second_ties (nat_cmp a.file b.file) (slice_cmp edit_order a.edits b.edits) both))

abbrev a_diagnostic : ℕ → ℕ → ℕ → ℕ → List ℕ → Option Fix → Diagnostic
a_diagnostic file offset analyzer end text fix = record { place = record { file = file; offset = offset }; end = end; analyzer = analyzer; text = text; fix = fix }

same_parts : (a b : Diagnostic) → a.place.file ≡ b.place.file → a.place.offset ≡ b.place.offset → a.analyzer ≡ b.analyzer → a.text ≡ b.text → a.end ≡ b.end → a.fix ≡ b.fix → a ≡ b
same_parts a b file offset analyzer text end fix =
    ap (λ x. a_diagnostic x a.place.offset a.analyzer a.end a.text a.fix) file
    ∙ (ap (λ x. a_diagnostic b.place.file x a.analyzer a.end a.text a.fix) offset
    ∙ (ap (λ x. a_diagnostic b.place.file b.place.offset x a.end a.text a.fix) analyzer
    ∙ (ap (λ x. a_diagnostic b.place.file b.place.offset b.analyzer a.end x a.fix) text
    ∙ (ap (λ x. a_diagnostic b.place.file b.place.offset b.analyzer x b.text a.fix) end
    ∙ ap (λ x. a_diagnostic b.place.file b.place.offset b.analyzer b.end b.text x) fix))))

pub order_exact : CmpEqualImpliesEq order
order_exact a b e =
    let rest = second_ties _ _ e in
    let rest_2 = second_ties _ _ rest in
    let rest_3 = second_ties _ _ rest_2 in
    let rest_4 = second_ties _ _ rest_3 in
    same_parts a b
    (exact_unsigned a.place.file b.place.file (first_ties _ _ e))
    (exact_unsigned a.place.offset b.place.offset (first_ties _ _ rest))
    (exact_unsigned a.analyzer b.analyzer (first_ties _ _ rest_2))
    (exact_bytes a.text b.text (first_ties _ _ rest_3))
    (exact_unsigned a.end b.end (first_ties _ _ rest_4))
    (fix_exact a.fix b.fix (second_ties _ _ rest_4))

pub found_exact : CmpEqualImpliesEq found_order
found_exact a b e =
    ap (λ p. record { «package» = p; diagnostic = a.diagnostic }) (exact_bytes a.package b.package (first_ties _ _ e))
    ∙ ap (λ d. record { «package» = b.package; diagnostic = d }) (order_exact a.diagnostic b.diagnostic (second_ties _ _ e))
