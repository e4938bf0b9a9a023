use Rattle.std.proofs.Common.{List, length, ap, sym, subst, ◌∙◌}
use Rattle.go_tree.specs.Head.{imports_of}
use Rattle.unit_read.specs.Index.{found}
use Rattle.unit_read.specs.Subjects.{full_of}
use Rattle.check_pkg.specs.declared.import_names.Declared.{Declared}
use Rattle.check_pkg.specs.ImportLists.{AreNames, IsLeast}
use Rattle.check_pkg.proofs.ImportLemmas.{lines_size, are_names, first_of}
use Rattle.check_pkg.proofs.import_refusals.refuse_tree.Goals as goal

pub import_names-requires-clause-lines : goal.import_names-requires-clause-lines
import_names-requires-clause-lines c =
    lines_size c.args.tree.now c.text_in.result.now c.deref.result.now c.as_slice-lines.result.now (c.deref.ensures.value ∙ c.in_ok-specs.ensures)
    (c.as_slice-lines.ensures ∙ ap (λ h. h.imports) c.in_ok-head.ensures)

pub refuse_names-requires-clause-names : goal.refuse_names-requires-clause-names
refuse_names-requires-clause-names c =
    subst (λ (xs : List Declared). AreNames (full_of c.args.u.now) c.args.file xs) (sym c.deref-3.ensures.value)
    (are_names (full_of c.args.u.now) c.args.file c.args.tree.now c.deref.result.now c.as_slice-lines.result.now c.in_ok-names.names.items c.requires.tree
    (c.deref.ensures.value ∙ c.in_ok-specs.ensures)
    ((c.as_slice-lines.ensures ∙ ap (λ h. h.imports) c.in_ok-head.ensures) ∙ ap (λ text. imports_of c.args.tree.now text c.args.tree.now.tops) c.text_in.ensures)
    c.in_ok-names.ensures)

pub refuse_names-requires-clause-firsts : goal.refuse_names-requires-clause-firsts
refuse_names-requires-clause-firsts c = λ q.
    first_of (full_of c.args.u.now) c.args.file c.in_ok-names.names.items q (found c.in_ok-firsts.firsts q)
    (are_names (full_of c.args.u.now) c.args.file c.args.tree.now c.deref.result.now c.as_slice-lines.result.now c.in_ok-names.names.items c.requires.tree
    (c.deref.ensures.value ∙ c.in_ok-specs.ensures)
    ((c.as_slice-lines.ensures ∙ ap (λ h. h.imports) c.in_ok-head.ensures) ∙ ap (λ text. imports_of c.args.tree.now text c.args.tree.now.tops) c.text_in.ensures)
    c.in_ok-names.ensures)
    (subst (λ (xs : List Declared). IsLeast xs (length xs) q (found c.in_ok-firsts.firsts q)) c.deref-2.ensures.value (c.in_ok-firsts.ensures q))
