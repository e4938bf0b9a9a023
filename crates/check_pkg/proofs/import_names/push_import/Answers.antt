use Rattle.unit_read.specs.Environments.{faces_in}
use Rattle.check_pkg.specs.Packages.{known_of}
use Rattle.std.proofs.Common.{option_map, refl, sym, ap, ◌∙◌}
use Rattle.bind.specs.Imports.{line_name}
use Rattle.check_pkg.proofs.NameLemmas.{push_listed, none_listed}
use Rattle.check_pkg.proofs.import_names.push_import.Goals as goal

pub returns-in_ok-push-in-Some : goal.returns-in_ok-push-in-Some
returns-in_ok-push-in-Some c =
    push_listed c.args.out.now.items _ _ (line_name (known_of (faces_in c.args.env.now)) c.args.line.now) c.args.at c.in_ok-push-in-Some.ensures.items
    (sym c.line_name.ensures ∙ ap (λ o. option_map (λ n. n.now) o) c.in-Some.is) refl

pub returns-in-None : goal.returns-in-None
returns-in-None c =
    none_listed c.args.out.now.items (line_name (known_of (faces_in c.args.env.now)) c.args.line.now) c.args.at (sym c.line_name.ensures ∙ ap (λ o. option_map (λ n. n.now) o) c.in-None.is)
