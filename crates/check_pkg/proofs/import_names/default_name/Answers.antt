use Rattle.std.proofs.Common.{option_map, sym, ap, ◌∙◌}
use Rattle.bind.specs.Imports.{name_or, last_segment}
use Rattle.check_pkg.proofs.import_names.default_name.Goals as goal

pub returns-in-Some : goal.returns-in-Some
returns-in-Some c = ap (λ o. name_or o (last_segment c.args.path.now)) (ap (λ o. option_map (λ n. n.now) o) (sym c.in-Some.is) ∙ c.package_of.ensures)

pub returns-in-None : goal.returns-in-None
returns-in-None c = c.last_segment.ensures ∙ ap (λ o. name_or o (last_segment c.args.path.now)) (ap (λ o. option_map (λ n. n.now) o) (sym c.in-None.is) ∙ c.package_of.ensures)
