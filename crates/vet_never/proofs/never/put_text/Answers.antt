use Rattle.std.proofs.Common.{sym, ◌∙◌}
use Rattle.vet_never.proofs.PutLemmas.{kept_names}
use Rattle.vet_never.proofs.never.put_text.Goals as goal

pub returns-then-has : goal.returns-then-has
returns-then-has c = λ q. kept_names c.args.table.now c.args.name.now q (sym c.has.ensures ∙ c.if-has.true)

pub put_new-requires : goal.put_new-requires
put_new-requires c = sym c.has.ensures ∙ c.if-has.false
