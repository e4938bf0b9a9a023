use Rattle.std.proofs.Common.{List, Bool, sym, subst}
use Rattle.scopes.specs.Denotes.{IsFlags}
use Rattle.shadowed_results.proofs.shadowed.answers_of.Goals as goal

pub denoted-requires-clause-flags : goal.denoted-requires-clause-flags
denoted-requires-clause-flags c = subst (λ (l : List Bool). IsFlags c.args.declarations.now l) (sym c.deref.ensures.value) c.in_ok-first.ensures
