use Rattle.std.proofs.Common.{ℕ, List, Option, ◌++◌, sym, ap, ◌∙◌}
use Rattle.std.specs.Prelude.{slice_set}
use Rattle.vet_printf.specs.Handing.{listed_number}
use Rattle.vet_printf.specs.InTable.{row_of}
use Rattle.vet_printf.proofs.BucketLemmas.{set_back}
use Rattle.vet_printf.proofs.buckets.add_part.Goals as goal

pub returns-in-None : goal.returns-in-None
returns-in-None c =
    set_back c.args.parts.now.items c.args.i ∙ ap (λ (o : Option ℕ). slice_set c.args.parts.now.items c.args.i (row_of c.args.parts.now.items c.args.i ++ listed_number o)) (sym c.in-None.is)
