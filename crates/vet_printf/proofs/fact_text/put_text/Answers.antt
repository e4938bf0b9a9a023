use Rattle.std.proofs.Common.{sym, ◌∙◌}
use Rattle.vet_printf.proofs.FactLemmas.{added_kept}
use Rattle.vet_printf.proofs.fact_text.put_text.Goals as goal

pub returns-then-has : goal.returns-then-has
returns-then-has c = added_kept c.args.table.now c.args.name.now c.args.fact (sym c.has.ensures ∙ c.if-has.true)

pub put_new-requires : goal.put_new-requires
put_new-requires c = sym c.has.ensures ∙ c.if-has.false
