use Rattle.std.proofs.Common.{sym}
use Rattle.fact_codec.proofs.WrapLemmas.{rest_short, wraps_found}
use Rattle.fact_codec.proofs.wraps.WrapsFactKind.decode.Goals as goal

pub overflow_sub-result : goal.overflow_sub-result
overflow_sub-result c = rest_short c.args.bytes.now c.in_ok-number.number c.in_ok-number.rest.now c.in_ok-number.ensures.value

pub returns-clause-value : goal.returns-clause-value
returns-clause-value c = wraps_found c.args.bytes.now c.in_ok-number.number c.in_ok-number.rest.now c.in_ok-wraps.wraps c.in_ok-number.ensures.value (sym c.in_ok-wraps.ensures)
