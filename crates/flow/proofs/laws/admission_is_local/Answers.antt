use Rattle.std.proofs.Common.{sym, ◌∙◌}
use Rattle.flow.proofs.LawLemmas.{never_still}
use Rattle.flow.proofs.laws.admission_is_local.Goals as goal

pub returns : goal.returns
returns c tree labels calls body M N same = never_still tree labels calls body M N (λ f m is. sym (same f m) ∙ is)
