use Rattle.std.proofs.Common.{List, Bool, sym, subst}
use Rattle.scopes.specs.Denotes.{IsFlags}
use Rattle.scopes.specs.declared.visible.Declaration.{Declaration}
use Rattle.file_uses.proofs.file.answers_of.Goals as goal

pub denoted-requires-clause-flags : goal.denoted-requires-clause-flags
denoted-requires-clause-flags c =
    subst (λ (x : List Declaration). IsFlags x c.deref-3.result.now) (sym c.deref-2.ensures.value)
    (subst (λ (x : List Bool). IsFlags c.args.firsts.now.declarations.items x) (sym c.deref-3.ensures.value) c.requires.flags)
