use Rattle.std.proofs.Common.{refl, sym, ◌∙◌}
use Rattle.object_order.specs.Views.{world_of}
use Rattle.package_needs.specs.Follow.{bare}
use Rattle.package_needs.proofs.FollowLemmas.{unwraps_down, peels_on}
use Rattle.package_needs.proofs.follow.peel.Goals as goal

pub loop-part-init : goal.loop-part-init
loop-part-init c = λ b p. p

pub loop-part-preserved : goal.loop-part-preserved
loop-part-preserved c = peels_on (world_of c.args.view.now) c.args.start c.loop-part.at c.in-Some.part (sym c.in-Some.is ∙ c.unwrapped.ensures) c.loop-part.invariant

pub loop-part-smaller : goal.loop-part-smaller
loop-part-smaller c = unwraps_down (world_of c.args.view.now) c.loop-part.at c.in-Some.part (sym c.in-Some.is ∙ c.unwrapped.ensures)

pub returns : goal.returns
returns c = let none = sym c.unwrapped.ensures ∙ c.in_default.is in record { peels = c.loop-part.invariant c.loop-part.at (bare none refl); bare = none }
