use Rattle.std.proofs.Common.{List, sym, ap, ◌∙◌}
use Rattle.vet_printf.specs.declared.fault.Argument.{Argument}
use Rattle.vet_printf.specs.Formats.{format_fault}
use Rattle.vet_printf.proofs.checking.checked_fault.Goals as goal

pub returns : goal.returns
returns c = record {
  arguments = c.in_ok-list.list.items;
  read = c.in_ok-read.read;
  are = c.in_ok-list.ensures;
  reads = c.in_ok-read.ensures;
  «is» = ap (λ (l : List Argument). format_fault c.args.errorf l c.in_ok-read.read) (sym c.deref.ensures.value) ∙ sym c.format_fault.ensures;
}
