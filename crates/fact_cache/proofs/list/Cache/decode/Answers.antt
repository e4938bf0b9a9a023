use Rattle.std.proofs.Common.{◌≡◌, ◌<◌, ◌^◌, Some, length, map, arith}
use Rattle.gv_bytes.proofs.Options.{unspelled}
use Rattle.fact_cache.specs.Coded.{coded_of}
use Rattle.fact_cache.proofs.DecodeLemmas.{decode-unspelled, answer-spelled, answer-only}
use Rattle.fact_cache.proofs.list.Cache.decode.Goals as goal

pub returns-in-Err-Unspelled-clause-only : goal.returns-in-Err-Unspelled-clause-only
returns-in-Err-Unspelled-clause-only c = λ es spelled.
    let small : length c.args.bytes.now < 2 ^ 64 = omega arith in
    absurd (decode-unspelled es c.args.bytes.now spelled small (unspelled c.in-Err-Unspelled.field-0 (coded_of c.args.bytes.now) c.in-Err-Unspelled.field-0-is c.in-Err-Unspelled.ensures))

pub returns-in_ok-cache-in-Ok-clause-spelled : goal.returns-in_ok-cache-in-Ok-clause-spelled
returns-in_ok-cache-in-Ok-clause-spelled c =
    let read : coded_of c.args.bytes.now ≡ Some (map (λ t. t.now) c.deref.result.now, c.deref-in-Ok.result.now) = rw (c.deref.ensures.value, c.deref-in-Ok.ensures.value) c.in-Ok.ensures in
    answer-spelled c.in_ok-cache-in-Ok.cache c.args.bytes.now (map (λ t. t.now) c.deref.result.now) c.deref-in-Ok.result.now read c.in_ok-cache-in-Ok.ensures.some

pub returns-in_ok-cache-in-Ok-clause-only : goal.returns-in_ok-cache-in-Ok-clause-only
returns-in_ok-cache-in-Ok-clause-only c = λ es spelled.
    let small : length c.args.bytes.now < 2 ^ 64 = omega arith in
    let read : coded_of c.args.bytes.now ≡ Some (map (λ t. t.now) c.deref.result.now, c.deref-in-Ok.result.now) = rw (c.deref.ensures.value, c.deref-in-Ok.ensures.value) c.in-Ok.ensures in
    answer-only c.in_ok-cache-in-Ok.cache es c.args.bytes.now (map (λ t. t.now) c.deref.result.now) c.deref-in-Ok.result.now spelled small read c.in_ok-cache-in-Ok.ensures.some c.in_ok-cache-in-Ok.ensures.none
