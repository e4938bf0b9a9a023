use Rattle.vet_printf.proofs.FlagLemmas.{argument_told}
use Rattle.vet_printf.proofs.by_type.argument_of.Goals as goal

pub returns : goal.returns
returns c =
    argument_told c.args.t.now c.args.id.0 c.is_integer_type-integer.result c.in_ok-asked.asked c.in_ok-classes.classes c.is_integer_type-integer.ensures c.in_ok-asked.ensures c.in_ok-classes.ensures
