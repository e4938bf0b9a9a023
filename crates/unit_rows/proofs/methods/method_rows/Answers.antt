use Rattle.std.proofs.Common.{◌≡◌, List, [], length, sym, ap, ◌∙◌}
use Rattle.std.proofs.lemmas.Bool.{eqb-true}
use Rattle.go_tree.specs.declared.tree.NodeRef.{NodeRef}
use Rattle.unit_read.specs.Subjects.{unit_of, kept_by}
use Rattle.unit_rows.specs.Tables.{is_listed}
use Rattle.unit_rows.proofs.MethodLemmas.{grouped, kept_all, again_all}
use Rattle.unit_read.specs.Methods.{all_methods}
use Rattle.unit_rows.proofs.GapLemmas.{none_found, none_kept, none_repeated}
use Rattle.unit_rows.proofs.methods.method_rows.Goals as goal

pub returns-clause-methods : goal.returns-clause-methods
returns-clause-methods c = λ t. ap (kept_by c.in_ok-groups.groups.items) (c.in_ok-kin.ensures t) ∙ kept_all (unit_of c.args.s.now) c.in_ok-cells.cells.items c.in_ok-groups.groups.items
    (grouped (unit_of c.args.s.now) c.in_ok-cells.cells.items c.in_ok-groups.groups.items c.in_ok-methods.methods.items c.deref.result.now c.deref-4.result.now c.in_ok-owners.owners.items c.deref-2.result.now c.deref-3.result.now
    c.in_ok-methods.ensures c.deref.ensures.value c.in_ok-owners.ensures c.deref-2.ensures.value c.in_ok-cells.ensures c.deref-3.ensures.value c.deref-4.ensures.value c.in_ok-groups.ensures) t

pub returns-clause-repeated : goal.returns-clause-repeated
returns-clause-repeated c = λ at. c.in_ok-repeated.ensures at ∙ ap (λ (list : List NodeRef). is_listed c.args.s.now.trees.now list at) (c.deref-5.ensures.value ∙ (c.in_ok-list.ensures
    ∙ again_all (unit_of c.args.s.now) c.in_ok-cells.cells.items c.in_ok-groups.groups.items
    (grouped (unit_of c.args.s.now) c.in_ok-cells.cells.items c.in_ok-groups.groups.items c.in_ok-methods.methods.items c.deref.result.now c.deref-4.result.now c.in_ok-owners.owners.items c.deref-2.result.now c.deref-3.result.now
    c.in_ok-methods.ensures c.deref.ensures.value c.in_ok-owners.ensures c.deref-2.ensures.value c.in_ok-cells.ensures c.deref-3.ensures.value c.deref-4.ensures.value c.in_ok-groups.ensures)))

pub returns-then-is_empty-clause-methods : goal.returns-then-is_empty-clause-methods
returns-then-is_empty-clause-methods c = λ t.
    let u = unit_of c.args.s.now in
    let none : all_methods u ≡ [] =
    none_found c.in_ok-methods.methods.items u c.in_ok-methods.ensures (ap length (sym c.as_slice.ensures.value) ∙ eqb-true (length c.as_slice.result.now) 0 (sym c.is_empty.ensures ∙ c.if-is_empty.true)) in
    none_kept u c.no_kin.result.groups.items c.no_kin.result.kin.items t c.no_kin.ensures.groups c.no_kin.ensures.kin none

pub returns-then-is_empty-clause-repeated : goal.returns-then-is_empty-clause-repeated
returns-then-is_empty-clause-repeated c = λ at.
    let u = unit_of c.args.s.now in
    let none : all_methods u ≡ [] =
    none_found c.in_ok-methods.methods.items u c.in_ok-methods.ensures (ap length (sym c.as_slice.ensures.value) ∙ eqb-true (length c.as_slice.result.now) 0 (sym c.is_empty.ensures ∙ c.if-is_empty.true)) in
    none_repeated u c.no_kin.result.repeated.items at c.no_kin.ensures.repeated none
