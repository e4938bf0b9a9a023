use Rattle.std.proofs.Common.{sym, ◌∙◌}
use Rattle.gv_bytes.proofs.Options.{some_is}
use Rattle.fact_codec.proofs.TextLemmas.{spelled_is_read}
use Rattle.fact_codec.proofs.laws.one_fact_text.Goals as goal

pub returns : goal.returns
returns g c = λ t u bytes p q. some_is t u (sym (spelled_is_read g.met.F.FactKind.is_read bytes t p) ∙ spelled_is_read g.met.F.FactKind.is_read bytes u q)
