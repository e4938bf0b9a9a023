use Rattle.std.proofs.Common.{◌≡◌, List, subst}
use Rattle.fact_cache.specs.declared.kept.Place.{Place}
use Rattle.fact_cache.specs.Kept.{uses_at}
use Rattle.fact_cache.proofs.KeptLemmas.{found-revived, found-added}
use Rattle.fact_cache.proofs.kept.keep.Goals as goal

pub returns-in-Some-clause-found : goal.returns-in-Some-clause-found
returns-in-Some-clause-found c = (found-revived c.args.index.now c.args.places.now.items c.set_place.new.places.items c.in-Some.n c.head-bucket.result c.args.number c.args.bytes
    c.requires.found c.requires.absent c.in-Some.ensures.0 c.head-bucket.ensures.value c.set_place.ensures).0

pub returns-in-Some-clause-kept : goal.returns-in-Some-clause-kept
returns-in-Some-clause-kept c = (
  (found-revived c.args.index.now c.args.places.now.items c.set_place.new.places.items c.in-Some.n c.head-bucket.result c.args.number c.args.bytes
      c.requires.found c.requires.absent c.in-Some.ensures.0 c.head-bucket.ensures.value c.set_place.ensures).1,
  subst (λ (l : List Place). uses_at l c.in-Some.n ≡ 0) c.deref.ensures.value c.in-Some.ensures.1,
)

pub returns-in_ok-n-in-None-clause-found : goal.returns-in_ok-n-in-None-clause-found
returns-in_ok-n-in-None-clause-found c = (found-added c.args.index.now c.append.new.index c.args.places.now.items c.append.new.places.items c.head-bucket.result c.in_ok-n-in-None.n c.args.number c.args.bytes
    c.requires.found c.requires.absent c.head-bucket.ensures.value c.in_ok-n-in-None.ensures.index c.in_ok-n-in-None.ensures.places c.in_ok-n-in-None.ensures.at).0

pub returns-in_ok-n-in-None-clause-kept : goal.returns-in_ok-n-in-None-clause-kept
returns-in_ok-n-in-None-clause-kept c =
    let all = found-added c.args.index.now c.append.new.index c.args.places.now.items c.append.new.places.items c.head-bucket.result c.in_ok-n-in-None.n c.args.number c.args.bytes
    c.requires.found c.requires.absent c.head-bucket.ensures.value c.in_ok-n-in-None.ensures.index c.in_ok-n-in-None.ensures.places c.in_ok-n-in-None.ensures.at in
    (all.1, all.2)
