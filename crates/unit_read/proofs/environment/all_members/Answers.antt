use Rattle.std.proofs.Common.{Some, ap, sym, ◌∙◌}
use Rattle.std.proofs.lemmas.Option.{slice_get-get_or}
use Rattle.unit_read.proofs.EnvironmentLemmas.{members_more}
use Rattle.unit_read.proofs.environment.all_members.Goals as goal

pub loop-at-preserved : goal.loop-at-preserved
loop-at-preserved c =
    members_more c.args.interfaces.now c.loop-at.at c.loop-at.rows.items c.push.new.self.items c.index-interfaces-at.result c.in_ok-names.names c.loop-at.invariant
    (slice_get-get_or c.args.interfaces.now c.loop-at.at c.index-interfaces-at.result c.loop-at-test.true ∙ ap Some (sym c.index-interfaces-at.is))
    c.in_ok-names.ensures c.in_ok-push.ensures.items
