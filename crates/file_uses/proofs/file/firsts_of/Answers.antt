use Rattle.std.proofs.Common.{List, subst}
use Rattle.scopes.specs.Denotes.{IsFlags}
use Rattle.scopes.specs.declared.visible.Declaration.{Declaration}
use Rattle.file_uses.proofs.file.firsts_of.Goals as goal

pub returns-clause-first : goal.returns-clause-first
returns-clause-first c = subst (λ (x : List Declaration). IsFlags x c.in_ok-first.first.items) c.deref-3.ensures.value c.in_ok-first.ensures
