use Rattle.std.proofs.Common.{◌≡◌, sym, ap, subst, Some, ◌∙◌}
use Rattle.std.proofs.lemmas.Option.{none-some}
use Rattle.gv_bytes.proofs.Options.{some_is, unspelled}
use Rattle.fact_codec.specs.Texts.{AreFacts, table_in}
use Rattle.fact_codec.proofs.TextLemmas.{table_take, spelled_is_read}
use Rattle.fact_codec.proofs.table.FactTable.read.Goals as goal

pub table_of-requires : goal.table_of-requires
table_of-requires g c = (table_take g.met.F.FactKind.is_read c.args.bytes.now c.in-Ok.list.items c.in-Ok.ensures).order

pub returns-in-Ok-clause-found : goal.returns-in-Ok-clause-found
returns-in-Ok-clause-found g c = subst (λ t. AreFacts g.F.FactKind.spelling t c.args.bytes.now) (sym c.table_of.ensures) (table_take g.met.F.FactKind.is_read c.args.bytes.now c.in-Ok.list.items c.in-Ok.ensures)

pub returns-in-Ok-clause-only : goal.returns-in-Ok-clause-only
returns-in-Ok-clause-only g c = λ t h. ap Some c.table_of.ensures ∙ (sym c.in-Ok.ensures ∙ spelled_is_read g.met.F.FactKind.is_read c.args.bytes.now t h)

pub returns-in-Err-Unspelled-clause-only : goal.returns-in-Err-Unspelled-clause-only
returns-in-Err-Unspelled-clause-only g c = λ t h. absurd (none-some t (sym (unspelled c.in-Err-Unspelled.field-0 (table_in g.F.FactKind.fact_at c.args.bytes.now) c.in-Err-Unspelled.field-0-is c.in-Err-Unspelled.ensures) ∙ spelled_is_read g.met.F.FactKind.is_read c.args.bytes.now t h))
