use Rattle.flow.proofs.LawLemmas.{never_still}
use Rattle.flow.proofs.laws.admission_is_monotone.Goals as goal

pub returns : goal.returns
returns c tree labels calls body M N within = never_still tree labels calls body M N (λ f m. within f)
