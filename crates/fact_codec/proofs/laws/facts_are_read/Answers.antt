use Rattle.gv_bytes.proofs.Options.{reads_apart}
use Rattle.fact_codec.proofs.laws.facts_are_read.Goals as goal

pub returns-clause-again : goal.returns-clause-again
returns-clause-again g c = λ fact rest. g.met.F.FactKind.is_read.again fact rest tt

pub returns-clause-only : goal.returns-clause-only
returns-clause-only g c = λ bytes fact rest e. (g.met.F.FactKind.is_read.takes bytes (fact, rest) e).0

pub returns-clause-ends : goal.returns-clause-ends
returns-clause-ends g c = λ f h a b e. reads_apart g.met.F.FactKind.is_read f h a b tt tt e
