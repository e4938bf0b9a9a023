use Rattle.std.proofs.Common.{◌∙◌}
use Rattle.unit_read.specs.Environments.{faces_in}
use Rattle.check_pkg.proofs.NameLemmas.{leads_some, leads_none, name_there}
use Rattle.check_pkg.proofs.import_names.package_of.Goals as goal

pub returns-in-Some : goal.returns-in-Some
returns-in-Some c =
    leads_some (faces_in c.args.env.now) c.args.path.now c.place_of.result c.in-Some.place _ (c.place_of.ensures ∙ c.requires.paths c.args.path.now) c.in-Some.is (c.name_at.ensures ∙ name_there c.args.env.now c.in-Some.place)

pub returns-in-None : goal.returns-in-None
returns-in-None c = leads_none (faces_in c.args.env.now) c.args.path.now c.place_of.result (c.place_of.ensures ∙ c.requires.paths c.args.path.now) c.in-None.is
