use Rattle.std.proofs.Common.{◌∙◌, List, ℕ, length, map, sym, ap, subst}
use Rattle.std.specs.List.{flat_map}
use Rattle.fact_cache.specs.Kept.{text_at}
use Rattle.fact_cache.specs.Numbered.{numbers_of}
use Rattle.fact_cache.specs.Placed.{AreBelow}
use Rattle.fact_cache.proofs.RestoreLemmas.{below-places}
use Rattle.fact_cache.proofs.DecodeLemmas.{restore-some, restore-none}
use Rattle.fact_cache.proofs.decode.restore.Goals as goal

pub put_all-requires-clause-below : goal.put_all-requires-clause-below
put_all-requires-clause-below c =
    subst (λ (l : List ℕ). AreBelow (length l) (flat_map numbers_of c.args.coded.now)) (sym c.deref.ensures.value)
    (below-places c.new-kept.result c.hold_texts.new.kept (map (λ t. t.now) c.args.texts.now) c.hold_texts.new.places.items c.args.coded.now (c.in_ok-apart.ensures.taken c.if-not-apart.false) c.requires.order)

pub returns-clause-some : goal.returns-clause-some
returns-clause-some c =
    let taken = c.in_ok-apart.ensures.taken c.if-not-apart.false in
    restore-some c.in_ok-cache.cache (map (text_at c.hold_texts.new.kept) c.deref.result.now) (map (λ t. t.now) c.args.texts.now) c.args.coded.now c.in_ok-cache.ensures.some
    (ap (map (text_at c.hold_texts.new.kept)) c.deref.ensures.value ∙ taken.spelled) (c.in_ok-apart.ensures.apart c.if-not-apart.false) c.requires.order

pub returns-clause-none : goal.returns-clause-none
returns-clause-none c =
    let taken = c.in_ok-apart.ensures.taken c.if-not-apart.false in
    restore-none c.in_ok-cache.cache (map (text_at c.hold_texts.new.kept) c.deref.result.now) (map (λ t. t.now) c.args.texts.now) c.args.coded.now c.in_ok-cache.ensures.none
    (ap (map (text_at c.hold_texts.new.kept)) c.deref.ensures.value ∙ taken.spelled)
