use Rattle.std.proofs.Common.{nat_eq, false, ◌||◌, sym, ap, ◌∙◌}
use Rattle.std.specs.Option.{option_map_or}
use Rattle.literal_rules.specs.Sets.{has}
use Rattle.literal_rules.proofs.AgainLemmas.{noted}
use Rattle.literal_rules.proofs.again.meet.Goals as goal

pub returns-in_ok-note-in-Some-clause-notes : goal.returns-in_ok-note-in-Some-clause-notes
returns-in_ok-note-in-Some-clause-notes c =
    λ n. c.in_ok-note-in-Some.ensures n ∙ (noted (nat_eq c.in-Some.at n) (has c.args.met.now n)
    ∙ ap (λ o. has c.args.met.now n || option_map_or (λ at. nat_eq at n) o false) (sym c.in-Some.is))
