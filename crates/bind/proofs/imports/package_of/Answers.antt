use Rattle.bind.specs.Places.{placed}
use Rattle.bind.proofs.ImportLemmas.{leads_some, leads_none}
use Rattle.bind.proofs.imports.package_of.Goals as goal

pub returns-in-Some : goal.returns-in-Some
returns-in-Some c =
    leads_some c.args.named.now c.args.path.now (placed c.args.places.now) c.place_of.result c.in-Some.place _ c.requires.places c.place_of.ensures c.in-Some.is c.name_at.ensures

pub returns-in-None : goal.returns-in-None
returns-in-None c = leads_none c.args.named.now c.args.path.now (placed c.args.places.now) c.place_of.result c.requires.places c.place_of.ensures c.in-None.is
