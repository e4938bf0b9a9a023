use Rattle.fact_codec.specs.declared.wraps.WrapKind.{WrapKind}
use Rattle.fact_codec.specs.declared.wraps.WrapKind.TheVariants as wrap
use Rattle.findings.specs.Passes.{unit_in, marks_in}
use Rattle.vet_printf.specs.Items.{flags_as, ArePrintingFlags}
use Rattle.vet_printf.specs.declared.printing.Printing.{Printing}
use Rattle.vet_printf.proofs.printing.all_printing.Goals as goal

pub returns : goal.returns
returns c = record { each = one } where
  x : Printing
  x = record { print = c.in_ok-print.print; printf = c.in_ok-printf.printf; errorf = c.in_ok-errorf.errorf }

  one : (kind : WrapKind) → ArePrintingFlags c.args.known.now (unit_in c.args.p.now) (marks_in c.args.p.now) kind (flags_as x kind)
  one wrap.Print = c.in_ok-print.ensures
  one wrap.Printf = c.in_ok-printf.ensures
  one wrap.Errorf = c.in_ok-errorf.ensures
