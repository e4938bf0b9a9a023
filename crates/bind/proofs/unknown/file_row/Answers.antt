use Rattle.std.proofs.Common.{Bool, length, ap, ◌∙◌, subst}
use Rattle.go_tree.specs.declared.head.Head.{Head}
use Rattle.bind.specs.Tables.{found, pairs}
use Rattle.bind.specs.Undeclared.{AreUnknown}
use Rattle.bind.proofs.StepLemmas.{file_earliest, lines_size}
use Rattle.bind.proofs.unknown.file_row.Goals as goal

pub import_names-requires-clause-lines : goal.import_names-requires-clause-lines
import_names-requires-clause-lines c =
    lines_size c.args.file.now c.deref.result.now c.as_slice.result.now (c.deref.ensures.value ∙ c.in_ok-specs.ensures) (c.as_slice.ensures ∙ ap (λ (h : Head). h.imports) c.in_ok-head.ensures)

pub returns : goal.returns
returns c = record {
  imports = found c.in_ok-imports.imports;
  earliest = file_earliest c.args.files.now c.args.named.now c.args.number c.args.file.now c.deref.result.now c.as_slice.result.now (pairs c.deref-2.result.now) (found c.in_ok-imports.imports)
      (c.deref.ensures.value ∙ c.in_ok-specs.ensures) (c.as_slice.ensures ∙ ap (λ (h : Head). h.imports) c.in_ok-head.ensures) (ap pairs c.deref-2.ensures.value ∙ c.in_ok-declared.ensures) c.in_ok-imports.ensures;
  flags = subst (λ (b : Bool). AreUnknown c.args.file.now c.args.name.now b c.in_ok-row.row.items) c.is_outside.ensures c.in_ok-row.ensures;
}
