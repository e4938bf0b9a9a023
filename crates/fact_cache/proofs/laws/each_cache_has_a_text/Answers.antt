use Rattle.std.proofs.Common.{◌≡◌, ◌∙◌, ◌<◌, ap, arith, length, subst, sym}
use Rattle.std.proofs.lemmas.List.{length-map}
use Rattle.fact_cache.specs.Caches.{AreDistinct}
use Rattle.fact_cache.specs.Numbered.{entry_in}
use Rattle.fact_cache.proofs.ValueLemmas.{none-small, small-all, small-more}
use Rattle.fact_cache.proofs.laws.each_cache_has_a_text.Goals as goal

pub loop-at-init : goal.loop-at-init
loop-at-init c = none-small c.args.cache.now

pub loop-at-preserved : goal.loop-at-preserved
loop-at-preserved c =
    let lt : c.loop-at.at < length c.cache.inside.rows.items = (let e = c.height-count.ensures in let t = c.loop-at-test.true in omega arith) in
    small-more c.cache.inside.kept c.cache.inside.rows.items c.args.cache.now c.loop-at.at c.node_of-node.result c.row_at.result.now c.cache.view_is lt c.row_at.ensures c.node_of-node.ensures c.node_of-node.type_inv c.loop-at.invariant

pub returns : goal.returns
returns c = (
  subst AreDistinct c.cache.view_is c.cache.invariant.distinct,
  small-all c.args.cache.now c.loop-at.at
      (let v : length c.args.cache.now ≡ length c.cache.inside.rows.items = ap length (sym c.cache.view_is) ∙ length-map c.cache.inside.rows.items (entry_in c.cache.inside.kept) in let e = c.height-count.ensures in let t = c.loop-at-test.false in let f = c.loop-at.auto.at-end in omega arith) c.loop-at.invariant,
)
