use Rattle.std.proofs.Common.{◌∙◌, ◌++◌, ◌∷◌, [], sym, ap, slice_get}
use Rattle.unit_read.specs.Passages.{spans}
use Rattle.typed_marks.proofs.CellLemmas.{take_on}
use Rattle.elaborate.proofs.whole.spans_of.Goals as goal

pub loop-k-preserved : goal.loop-k-preserved
loop-k-preserved c =
    c.in_ok-push.ensures.items ∙ ap (λ xs. xs ++ c.span_at-span.result ∷ []) c.loop-k.invariant
    ∙ sym (take_on (spans c.args.u.now.passages.items) c.loop-k.k c.span_at-span.result
    (ap (λ ps. slice_get (spans ps) c.loop-k.k) (sym c.deref.ensures.value) ∙ c.span_at-span.ensures))
