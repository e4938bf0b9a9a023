use Rattle.std.proofs.Common.{List, ℕ, sym, subst}
use Rattle.gv_base.proofs.Lists.{same_some}
use Rattle.go_tree.specs.Pieces.{Spelled}
use Rattle.go_tree.specs.declared.tree.FileTree.{FileTree}
use Rattle.unit_read.specs.Units.{tree_at}
use Rattle.findings.specs.Passes.{unit_in, marks_in}
use Rattle.vet_never.specs.Knowing.{IsFileKnown}
use Rattle.vet_never.proofs.files.file_known.Goals as goal

pub known_of-requires-clause-bytes : goal.known_of-requires-clause-bytes
known_of-requires-clause-bytes c = c.text_in.ensures

pub known_of-requires-clause-spelled : goal.known_of-requires-clause-spelled
known_of-requires-clause-spelled c =
    let tree = c.nth_tree.result.now in
    subst (λ (b : List ℕ). Spelled tree.tokens b tree) (sym c.text_in.ensures) (c.requires.spelled c.args.file tree c.nth_tree.ensures)

pub known_of-requires-clause-small : goal.known_of-requires-clause-small
known_of-requires-clause-small c = c.requires.pass.small c.args.file c.nth_tree.result.now c.nth_tree.ensures

pub returns : goal.returns
returns c = (
  c.in_ok-one.ensures.0,
  λ tree there. subst (λ (t : FileTree). IsFileKnown (unit_in c.args.p.now) (marks_in c.args.p.now) c.args.known.now c.args.file t c.in_ok-one.ensures.0 c.in_ok-one.one)
      (same_some (tree_at (unit_in c.args.p.now) c.args.file) c.nth_tree.result.now tree c.nth_tree.ensures there) c.in_ok-one.ensures.1,
)
