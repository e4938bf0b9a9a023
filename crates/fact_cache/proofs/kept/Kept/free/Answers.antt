use Rattle.std.proofs.Common.{sym, ◌-◌, refl}
use Rattle.fact_cache.proofs.KeptLemmas.{freed-more, freed-last, freed-within}
use Rattle.fact_cache.proofs.kept.Kept.free.Goals as goal

pub invariant_of-self : goal.invariant_of-self
invariant_of-self c = (freed-more c.self.inside.index c.args.self.now c.self.inside.places.items c.deref.result.now c.set_uses.new.places.items c.args.n c.uses-uses.result (c.uses-uses.result - 1) c.self.inside.total
    (sym c.self.view_is) c.self.invariant c.requires c.deref.ensures.value c.uses-uses.ensures refl c.if-uses-gt0.true c.set_uses.ensures).0

pub returns-then-uses-gt0-clause-freed : goal.returns-then-uses-gt0-clause-freed
returns-then-uses-gt0-clause-freed c = (freed-more c.self.inside.index c.args.self.now c.self.inside.places.items c.deref.result.now c.set_uses.new.places.items c.args.n c.uses-uses.result (c.uses-uses.result - 1) c.self.inside.total
    (sym c.self.view_is) c.self.invariant c.requires c.deref.ensures.value c.uses-uses.ensures refl c.if-uses-gt0.true c.set_uses.ensures).1

pub returns-then-uses-gt0-clause-mixed : goal.returns-then-uses-gt0-clause-mixed
returns-then-uses-gt0-clause-mixed c = (freed-more c.self.inside.index c.args.self.now c.self.inside.places.items c.deref.result.now c.set_uses.new.places.items c.args.n c.uses-uses.result (c.uses-uses.result - 1) c.self.inside.total
    (sym c.self.view_is) c.self.invariant c.requires c.deref.ensures.value c.uses-uses.ensures refl c.if-uses-gt0.true c.set_uses.ensures).2

pub overflow_sub-self : goal.overflow_sub-self
overflow_sub-self c = freed-within c.self.inside.index c.args.self.now c.self.inside.places.items c.deref-else-uses-gt0.result.now c.text.result.now c.args.n c.self.inside.total
    (sym c.self.view_is) c.self.invariant c.requires c.deref-else-uses-gt0.ensures.value c.text.ensures

pub invariant_of-self-else-uses-gt0 : goal.invariant_of-self-else-uses-gt0
invariant_of-self-else-uses-gt0 c = (freed-last c.self.inside.index c.args.self.now c.self.inside.places.items c.deref.result.now c.deref-else-uses-gt0.result.now c.text.result.now c.set_place.new.places.items c.args.n c.uses-uses.result (c.uses-uses.result - 1) c.self.inside.total 0 c.new-bytes.result
    (sym c.self.view_is) c.self.invariant c.requires c.deref.ensures.value c.uses-uses.ensures refl c.if-uses-gt0.false c.deref-else-uses-gt0.ensures.value c.text.ensures c.set_place.ensures).0

pub returns-else-uses-gt0-clause-freed : goal.returns-else-uses-gt0-clause-freed
returns-else-uses-gt0-clause-freed c = (freed-last c.self.inside.index c.args.self.now c.self.inside.places.items c.deref.result.now c.deref-else-uses-gt0.result.now c.text.result.now c.set_place.new.places.items c.args.n c.uses-uses.result (c.uses-uses.result - 1) c.self.inside.total 0 c.new-bytes.result
    (sym c.self.view_is) c.self.invariant c.requires c.deref.ensures.value c.uses-uses.ensures refl c.if-uses-gt0.false c.deref-else-uses-gt0.ensures.value c.text.ensures c.set_place.ensures).1

pub returns-else-uses-gt0-clause-mixed : goal.returns-else-uses-gt0-clause-mixed
returns-else-uses-gt0-clause-mixed c = (freed-last c.self.inside.index c.args.self.now c.self.inside.places.items c.deref.result.now c.deref-else-uses-gt0.result.now c.text.result.now c.set_place.new.places.items c.args.n c.uses-uses.result (c.uses-uses.result - 1) c.self.inside.total 0 c.new-bytes.result
    (sym c.self.view_is) c.self.invariant c.requires c.deref.ensures.value c.uses-uses.ensures refl c.if-uses-gt0.false c.deref-else-uses-gt0.ensures.value c.text.ensures c.set_place.ensures).2
