use Rattle.vet_printf.specs.Wrappers.{HandsTo}
use Rattle.vet_printf.proofs.WrapNumbers.{by_items}
use Rattle.vet_printf.proofs.wrapping.wrappers_by_numbers.Goals as goal

pub returns : goal.returns
returns c listed forwards p given number name items marks are l = by_items listed (HandsTo forwards) p given number name items are marks l
