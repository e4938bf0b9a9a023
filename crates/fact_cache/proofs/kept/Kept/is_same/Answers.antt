use Rattle.fact_cache.proofs.AgainLemmas.{same-number}
use Rattle.fact_cache.proofs.kept.Kept.is_same.Goals as goal

pub returns : goal.returns
returns c = same-number c.self.inside.index c.args.self.now c.self.inside.places.items c.args.m c.args.n c.self.inside.total c.self.view_is c.self.invariant c.requires.first c.requires.second
