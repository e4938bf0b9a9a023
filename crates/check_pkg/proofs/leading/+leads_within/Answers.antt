use Rattle.std.proofs.Common.{◌≡◌, ◌<◌, ℕ, false, List, length, get_or, slice_get, Some, refl, sym, ap, ◌∙◌, subst, inl, arith}
use Rattle.std.proofs.lemmas.Option.{slice_get_read, slice_get-get_or}
use Rattle.go_tree.proofs.NodeLemmas.{differ}
use Rattle.mark_walk.specs.Asks.{filled}
use Rattle.typed_marks.specs.Meanings.{Quiet}
use Rattle.typed_marks.specs.States.{so_far}
use Rattle.unit_read.specs.Subjects.{unit_of, flag}
use Rattle.check_pkg.specs.Leading.{LeadsIn}
use Rattle.check_pkg.proofs.NamedLemmas.{each_more, leads_part, none_leads, part_read}
use Rattle.check_pkg.proofs.leading.+leads_within.Goals as goal

pub returns-then-leads_on : goal.returns-then-leads_on
returns-then-leads_on t c = (λ e. (c.args.n, (inl refl, sym c.leads_on.ensures ∙ c.if-leads_on.true)), λ w. refl)

pub leads_within-requires : goal.leads_within-requires
leads_within-requires t c =
    let nodes = c.args.nodes.now in
    let parts = c.as_slice-part-items.result.now in
    let there = slice_get_read nodes (length nodes) c.args.n c.index-nodes-n.result refl c.requires.node c.index-nodes-n.is in
    let low : get_or parts c.loop-part.part-index 0 < c.args.n = c.requires.tree.after c.args.n (get_or parts c.loop-part.part-index 0) (part_read nodes c.args.n c.index-nodes-n.result parts c.loop-part.part-index there c.as_slice-part-items.ensures c.loop-part-test.true) in
    let most = c.decreases in
    let size = c.requires.node in
    (omega arith, (c.requires.read, (c.requires.state, (c.requires.tree, omega arith))))

pub returns-then-leads_within : goal.returns-then-leads_within
returns-then-leads_within t c =
    let nodes = c.args.nodes.now in
    let parts = c.as_slice-part-items.result.now in
    let there = slice_get_read nodes (length nodes) c.args.n c.index-nodes-n.result refl c.requires.node c.index-nodes-n.is in
    let found = c.leads_within.ensures.0 c.if-leads_within.true in (
      λ e. (
        found.0,
        leads_part (unit_of c.args.u.now) (filled Quiet (so_far c.args.s.now)) (flag c.args.rows.now.items) c.args.file nodes c.args.n (get_or parts c.loop-part.part-index 0) found.0
            (part_read nodes c.args.n c.index-nodes-n.result parts c.loop-part.part-index there c.as_slice-part-items.ensures c.loop-part-test.true) found.1,
      ),
      λ w. refl,
    )

pub loop-part-preserved : goal.loop-part-preserved
loop-part-preserved t c =
    let parts = c.as_slice-part-items.result.now in
    each_more (λ j p. (m : ℕ) → LeadsIn (unit_of c.args.u.now) (filled Quiet (so_far c.args.s.now)) (flag c.args.rows.now.items) c.args.file c.args.nodes.now p m → ⊥) parts c.loop-part.part-index
    (get_or parts c.loop-part.part-index 0) (slice_get-get_or parts c.loop-part.part-index 0 c.loop-part-test.true)
    (λ m leads. differ c.leads_within.result c.if-leads_within.false (c.leads_within.ensures.1 (m, leads))) c.loop-part.invariant

pub returns : goal.returns
returns t c =
    let nodes = c.args.nodes.now in
    let node = c.index-nodes-n.result in
    let u = unit_of c.args.u.now in
    let marks = filled Quiet (so_far c.args.s.now) in
    let named = flag c.args.rows.now.items in
    let there = slice_get_read nodes (length nodes) c.args.n node refl c.requires.node c.index-nodes-n.is in
    let size : length c.as_slice-part-items.result.now ≡ length node.parts = ap (λ (xs : List ℕ). length xs) c.as_slice-part-items.ensures in
    let past = c.loop-part-test.false in
    let end = c.loop-part.auto.part-index-end in (
      λ e. absurd (differ false refl e),
      λ w. absurd (none_leads u marks named c.args.file nodes c.args.n node c.loop-part.part-index there (sym c.leads_on.ensures ∙ c.if-leads_on.false) (omega arith)
          (subst (λ (xs : List ℕ). (j p : ℕ) → j < c.loop-part.part-index → slice_get xs j ≡ Some p → (m : ℕ) → LeadsIn u marks named c.args.file nodes p m → ⊥) c.as_slice-part-items.ensures c.loop-part.invariant)
          w.0 w.1),
    )
