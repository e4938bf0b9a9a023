use Rattle.fact_codec.specs.Tables.{fact_of}
use Rattle.vet_printf.proofs.FactLemmas.{added_new, none_of}
use Rattle.vet_printf.proofs.fact_text.put_new.Goals as goal

pub put-requires : goal.put-requires
put-requires c = record { absent = none_of (fact_of c.args.table.now c.args.name.now) c.requires }

pub returns : goal.returns
returns c = added_new c.args.table.now c.put.new.self c.args.name.now c.args.fact (none_of (fact_of c.args.table.now c.args.name.now) c.requires) c.in_ok-put.ensures.put
