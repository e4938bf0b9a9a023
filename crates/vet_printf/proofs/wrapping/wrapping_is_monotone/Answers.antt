use Rattle.vet_printf.specs.Wrappers.{HandsTo}
use Rattle.vet_printf.proofs.WrapperLemmas.{monotone}
use Rattle.vet_printf.proofs.wrapping.wrapping_is_monotone.Goals as goal

pub returns : goal.returns
returns c listed forwards = monotone listed (HandsTo forwards)
