use Rattle.std.proofs.Common.{List, Bool, [], length, subst}
use Rattle.least.specs.Least.{IsLeast}
use Rattle.least.specs.Work.{among, set_of}
use Rattle.vet_printf.specs.InTable.{Admits}
use Rattle.vet_printf.proofs.sets.set_over.Goals as goal

pub returns : goal.returns
returns c = subst (λ (l : List Bool). IsLeast (among (length c.args.items.now) (Admits l c.args.items.now)) (set_of c.in_ok-flags.flags.items)) c.no_fits.ensures c.in_ok-flags.ensures.least
