use Rattle.std.proofs.Common.{sym}
use Rattle.fact_cache.proofs.KeptLemmas.{held-more}
use Rattle.fact_cache.proofs.kept.Kept.hold_again.Goals as goal

pub invariant_of-self : goal.invariant_of-self
invariant_of-self c = (held-more c.self.inside.index c.args.self.now c.self.inside.places.items c.deref.result.now c.set_uses.new.places.items c.args.n c.uses.result c.in-Some.uses c.self.inside.total
    (sym c.self.view_is) c.self.invariant c.requires c.deref.ensures.value c.uses.ensures c.in-Some.ensures.1 c.set_uses.ensures).0

pub returns-clause-held : goal.returns-clause-held
returns-clause-held c = (held-more c.self.inside.index c.args.self.now c.self.inside.places.items c.deref.result.now c.set_uses.new.places.items c.args.n c.uses.result c.in-Some.uses c.self.inside.total
    (sym c.self.view_is) c.self.invariant c.requires c.deref.ensures.value c.uses.ensures c.in-Some.ensures.1 c.set_uses.ensures).1

pub returns-clause-mixed : goal.returns-clause-mixed
returns-clause-mixed c = (held-more c.self.inside.index c.args.self.now c.self.inside.places.items c.deref.result.now c.set_uses.new.places.items c.args.n c.uses.result c.in-Some.uses c.self.inside.total
    (sym c.self.view_is) c.self.invariant c.requires c.deref.ensures.value c.uses.ensures c.in-Some.ensures.1 c.set_uses.ensures).2
