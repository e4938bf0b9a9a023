use Rattle.std.proofs.Common.{ℕ, false, refl, arith}
use Rattle.go_tree.specs.declared.tree.FileTree.{FileTree}
use Rattle.go_tree.proofs.NodeLemmas.{differ}
use Rattle.mark_walk.specs.Asks.{filled}
use Rattle.typed_marks.specs.Meanings.{Quiet}
use Rattle.typed_marks.specs.States.{so_far}
use Rattle.unit_read.specs.Subjects.{unit_of, flag}
use Rattle.check_pkg.specs.Leading.{LeadsInTop}
use Rattle.check_pkg.proofs.NamedLemmas.{each_more, each_of}
use Rattle.check_pkg.proofs.leading.values_lead.Goals as goal

pub loop-k-preserved : goal.loop-k-preserved
loop-k-preserved c =
    each_more (λ f (tree : FileTree). (i m : ℕ) → LeadsInTop (unit_of c.args.u.now) (filled Quiet (so_far c.args.s.now)) (flag c.args.rows.now.items) f tree i m → ⊥) c.args.u.now.trees.now c.loop-k.k
    c.tree_at.result.now c.tree_at.ensures (λ i m leads. differ c.file_leads.result c.if-file_leads.false (c.file_leads.ensures.1 (i, m, leads))) c.loop-k.invariant

pub returns-then-file_leads : goal.returns-then-file_leads
returns-then-file_leads c =
    let found = c.file_leads.ensures.0 c.if-file_leads.true in
    (λ e. (c.loop-k.k, found.1, (c.tree_at.result.now, c.tree_at.ensures, found.0, found.2)), λ w. refl)

pub returns : goal.returns
returns c = (
  λ e. absurd (differ false refl e),
  λ w. absurd (each_of (λ f (tree : FileTree). (i m : ℕ) → LeadsInTop (unit_of c.args.u.now) (filled Quiet (so_far c.args.s.now)) (flag c.args.rows.now.items) f tree i m → ⊥)
      c.args.u.now.trees.now c.loop-k.k (omega arith) c.loop-k.invariant w.0 w.2.0 w.2.1 w.2.2 w.1 w.2.3),
)
