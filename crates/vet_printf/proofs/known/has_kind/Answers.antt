use Rattle.std.proofs.Common.{◌∙◌}
use Rattle.vet_printf.proofs.KnownLemmas.{kind_had}
use Rattle.vet_printf.proofs.known.has_kind.Goals as goal

pub returns : goal.returns
returns c = c.has.ensures ∙ kind_had c.args.fact.now c.args.kind
