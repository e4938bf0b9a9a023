use Rattle.std.proofs.Common.{ℕ, false, List, length, refl, sym, ap, subst, arith}
use Rattle.go_tree.specs.declared.tree.Node.{Node}
use Rattle.go_tree.proofs.NodeLemmas.{differ}
use Rattle.mark_walk.specs.Asks.{filled}
use Rattle.typed_marks.specs.Meanings.{Quiet}
use Rattle.typed_marks.specs.States.{so_far}
use Rattle.unit_read.specs.Subjects.{unit_of, flag}
use Rattle.check_pkg.specs.Leading.{LeadsInVars}
use Rattle.check_pkg.proofs.NamedLemmas.{each_more, each_of}
use Rattle.check_pkg.proofs.leading.file_leads.Goals as goal

pub loop-i-preserved : goal.loop-i-preserved
loop-i-preserved c =
    let u = unit_of c.args.u.now in
    let marks = filled Quiet (so_far c.args.s.now) in
    let named = flag c.args.rows.now.items in
    each_more (λ i n. (m : ℕ) → LeadsInVars u marks named c.args.file c.args.tree.now.nodes n m → ⊥) c.args.tree.now.tops c.loop-i.i c.top_at.result c.top_at.ensures
    (λ m leads. differ c.top_leads.result c.if-top_leads.false
    (c.top_leads.ensures.1 (m, subst (λ (nodes : List Node). LeadsInVars u marks named c.args.file nodes c.top_at.result m) (sym c.as_slice-nodes.ensures) leads))) c.loop-i.invariant

pub returns-then-top_leads : goal.returns-then-top_leads
returns-then-top_leads c =
    let found = c.top_leads.ensures.0 c.if-top_leads.true in (
      λ e. (
        c.loop-i.i,
        found.0,
        (
          c.top_at.result,
          c.top_at.ensures,
          subst (λ (nodes : List Node). LeadsInVars (unit_of c.args.u.now) (filled Quiet (so_far c.args.s.now)) (flag c.args.rows.now.items) c.args.file nodes c.top_at.result found.0)
              c.as_slice-nodes.ensures found.1,
        ),
      ),
      λ w. refl,
    )

pub returns : goal.returns
returns c = let size = ap (λ (l : List ℕ). length l) c.as_slice-i-end.ensures in (
  λ e. absurd (differ false refl e),
  λ w. absurd (each_of (λ i n. (m : ℕ) → LeadsInVars (unit_of c.args.u.now) (filled Quiet (so_far c.args.s.now)) (flag c.args.rows.now.items) c.args.file c.args.tree.now.nodes n m → ⊥)
      c.args.tree.now.tops c.loop-i.i (omega arith) c.loop-i.invariant w.0 w.2.0 w.2.1 w.1 w.2.2),
)
