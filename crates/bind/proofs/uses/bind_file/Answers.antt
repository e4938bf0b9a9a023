use Rattle.std.proofs.Common.{length, refl, ap, ◌∙◌}
use Rattle.go_tree.specs.declared.head.Head.{Head}
use Rattle.bind.specs.Answers.{uses_before}
use Rattle.bind.specs.Places.{placed}
use Rattle.bind.specs.Tables.{found, pairs}
use Rattle.bind.proofs.StepLemmas.{file_earliest, lines_size}
use Rattle.bind.proofs.uses.bind_file.Goals as goal

pub import_names-requires-clause-lines : goal.import_names-requires-clause-lines
import_names-requires-clause-lines c =
    lines_size c.args.file.now c.deref.result.now c.as_slice.result.now (c.deref.ensures.value ∙ c.in_ok-specs.ensures) (c.as_slice.ensures ∙ ap (λ (h : Head). h.imports) c.in_ok-head.ensures)

pub returns : goal.returns
returns c = record {
  more = uses_before c.args.file.now c.args.number (record { top_names = found c.args.top_names.now; imports = found c.in_ok-imports.imports; universe = placed c.args.universe.now }) (length c.args.file.now.tree.now.nodes);
  added = c.in_ok-push_uses.ensures;
  uses = record {
    imports = found c.in_ok-imports.imports;
    earliest = file_earliest c.args.files.now c.args.named.now c.args.number c.args.file.now c.deref.result.now c.as_slice.result.now (pairs c.deref-2.result.now) (found c.in_ok-imports.imports)
        (c.deref.ensures.value ∙ c.in_ok-specs.ensures) (c.as_slice.ensures ∙ ap (λ (h : Head). h.imports) c.in_ok-head.ensures) (ap pairs c.deref-2.ensures.value ∙ c.in_ok-declared.ensures) c.in_ok-imports.ensures;
    are = refl;
  };
}
