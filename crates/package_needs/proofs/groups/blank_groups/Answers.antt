use Rattle.package_needs.proofs.GroupLemmas.{blank_more, blank_size}
use Rattle.package_needs.proofs.groups.blank_groups.Goals as goal

pub loop-n-preserved : goal.loop-n-preserved
loop-n-preserved c = record {
  size = blank_size _ _ c.new.result c.loop-n._n c.in_ok-push.ensures.items c.loop-n.invariant.size;
  empty = blank_more _ _ _ c.in_ok-push.ensures.items c.new.ensures.items c.loop-n.invariant.empty;
}
