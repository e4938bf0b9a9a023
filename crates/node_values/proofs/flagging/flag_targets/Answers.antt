use Rattle.std.proofs.Common.{arith}
use Rattle.node_values.proofs.FlagLemmas.{none_flagged, flagged_more, all_flagged}
use Rattle.node_values.proofs.flagging.flag_targets.Goals as goal

pub loop-n-init : goal.loop-n-init
loop-n-init g c = none_flagged (g.T.Targets.Leads c.args.rule.now) c.args.count c.in_ok-flags.flags.items c.in_ok-flags.ensures

pub loop-n-preserved : goal.loop-n-preserved
loop-n-preserved g c =
    flagged_more (g.T.Targets.Leads c.args.rule.now) c.loop-n.n c.args.count c.target.result c.loop-n.flags.items c.mark.new.flags.items c.target.ensures c.mark.ensures c.loop-n.invariant

pub returns : goal.returns
returns g c = all_flagged (g.T.Targets.Leads c.args.rule.now) c.loop-n.n (g.T.Targets.count c.args.rule.now) c.args.count c.loop-n.flags.items (omega arith) c.loop-n.invariant
