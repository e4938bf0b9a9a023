use Rattle.std.proofs.Common.{◌∷◌, [], map}
use Rattle.package_objects.proofs.GatherLemmas.{gather_on}
use Rattle.rule_words.specs.Scenes.{type_in}
use Rattle.type_rules.proofs.params.add_types.Goals as goal

pub loop-i-preserved : goal.loop-i-preserved
loop-i-preserved c = record {
  «is» = gather_on (λ i. type_in c.args.s.now c.args.of ∷ []) c.loop-i.i (map (type_in c.args.s.now) c.args.out.now.items) _ _ c.loop-i.invariant.is c.in_ok-add_type.ensures.is;
  below = c.in_ok-add_type.ensures.below;
}
