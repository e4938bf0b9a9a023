use Rattle.std.proofs.Common.{◌∙◌, subst}
use Rattle.fact_cache.specs.Caches.{AreDistinct}
use Rattle.fact_cache.proofs.RestoreLemmas.{all-put, times-within}
use Rattle.fact_cache.proofs.decode.put_all.Goals as goal

pub free_all-requires : goal.free_all-requires
free_all-requires c = times-within c.args.key c.put_rows.new.kept c.put_rows.new.index c.args.places.now c.put_rows.new.rows.items (c.in_ok-fresh.ensures.cache c.if-not-fresh.false)

pub invariant_of-result : goal.invariant_of-result
invariant_of-result c = (all-put c.args.key c.put_rows.new.kept c.free_all.new.kept c.put_rows.new.index c.args.places.now c.put_rows.new.rows.items
    (c.in_ok-fresh.ensures.cache c.if-not-fresh.false) c.free_all.ensures.freed (c.free_all.ensures.mixed c.args.key (c.in_ok-fresh.ensures.cache c.if-not-fresh.false).mixed)).0

pub returns-clause-some : goal.returns-clause-some
returns-clause-some c =
    let is = c.in_ok-fresh.ensures.cache c.if-not-fresh.false in
    let entries = c.in_ok-fresh.ensures.entries c.if-not-fresh.false in (
      (all-put c.args.key c.put_rows.new.kept c.free_all.new.kept c.put_rows.new.index c.args.places.now c.put_rows.new.rows.items
          is c.free_all.ensures.freed (c.free_all.ensures.mixed c.args.key is.mixed)).1 ∙ entries,
      subst AreDistinct entries is.distinct,
    )
