use Rattle.std.proofs.Common.{◌∙◌, ◌∷◌, sym, ap, take, get_or, []}
use Rattle.std.proofs.lemmas.List.{take_more}
use Rattle.scripts.specs.declared.path.Segment.TheVariants.{Empty}
use Rattle.scripts.specs.Segments.{step, segment_after}
use Rattle.scripts.proofs.PathLaws.{after-append}
use Rattle.scripts.proofs.path.last_segment.Goals as goal

pub loop-byte-preserved : goal.loop-byte-preserved
loop-byte-preserved c =
    let bytes = c.args.bytes.now in
    let i = c.loop-byte.byte-index in
    c.next_segment-segment.ensures ∙ ap (λ z. step z (get_or bytes i 0)) c.loop-byte.invariant ∙ sym (after-append Empty (take i bytes) (get_or bytes i 0 ∷ [])) ∙ ap (segment_after Empty) (sym (take_more bytes i 0 c.loop-byte-test.true))
