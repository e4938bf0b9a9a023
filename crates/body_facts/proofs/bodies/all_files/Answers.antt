use Rattle.std.proofs.Common.{List, slice_get, sym, ap, ◌∙◌, arith}
use Rattle.go_tree.specs.declared.tree.FileTree.{FileTree}
use Rattle.unit_read.specs.Subjects.{unit_of, cell}
use Rattle.body_facts.proofs.BodyLemmas.{no_files, files_more, files_all}
use Rattle.body_facts.proofs.bodies.all_files.Goals as goal

pub loop-k-init : goal.loop-k-init
loop-k-init c = no_files (unit_of c.args.u.now) (cell c.args.meant.now.items) c.new-list.result.items c.new-list.ensures.items

pub loop-k-preserved : goal.loop-k-preserved
loop-k-preserved c =
    files_more (unit_of c.args.u.now) (cell c.args.meant.now.items) c.loop-k.k c.nth_tree-tree.result.now c.text_at-bytes.result.now c.file_of-file.result c.loop-k.list.items c.push.new.self.items
    (ap (λ (l : List FileTree). slice_get l c.loop-k.k) (sym c.requires.trees) ∙ c.nth_tree-tree.ensures) c.text_at-bytes.ensures (c.file_of-file.ensures.known, c.file_of-file.ensures.same) c.in_ok-push.ensures.items c.loop-k.invariant

pub returns : goal.returns
returns c = files_all (unit_of c.args.u.now) (cell c.args.meant.now.items) c.loop-k.k _ c.loop-k.list.items (let t = c.loop-k-test.false in let e = c.loop-k.auto.k-end in omega arith) c.loop-k.invariant

pub file_of-file-requires-clause-facts : goal.file_of-file-requires-clause-facts
file_of-file-requires-clause-facts c =
    c.requires.facts.each c.loop-k.k c.nth_tree-tree.result.now c.text_at-bytes.result.now c.facts_at.result.now
    (ap (λ (l : List FileTree). slice_get l c.loop-k.k) (sym c.requires.trees) ∙ c.nth_tree-tree.ensures) c.text_at-bytes.ensures c.facts_at.ensures
