use Rattle.own_functions.proofs.ListLemmas.{pushed_named}
use Rattle.own_functions.proofs.functions.push_named.Goals as goal

pub returns-in_ok-push-in-Some : goal.returns-in_ok-push-in-Some
returns-in_ok-push-in-Some c =
    pushed_named c.args.found.now.items c.push.new.self.items (record { name = c.in-Some.name; at = c.place.result }) c.args.file c.args.n c.args.name c.in_ok-push-in-Some.ensures.items c.in-Some.is
    c.place.ensures
