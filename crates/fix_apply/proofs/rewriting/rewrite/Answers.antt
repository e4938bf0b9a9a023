use Rattle.std.proofs.Common.{◌≡◌, ◌++◌, length, sym, ap, ◌∙◌, arith}
use Rattle.std.proofs.lemmas.List.{append-nil}
use Rattle.std.specs.List.{flat_map, range_with_len}
use Rattle.fix_apply.specs.Rewriting.{inserted, kept}
use Rattle.fix_apply.proofs.Rewritings.{written_more, kept_none, kept_some, kept_end}
use Rattle.fix_apply.proofs.rewriting.rewrite.Goals as goal
use Rattle.fix_apply.proofs.rewriting.rewrite.Goals.{then-cursor-at+in_ok-push, else-cursor-at}

pub loop-at-preserved : goal.loop-at-preserved
loop-at-preserved c =
    let middle = c.write_inserted.new.new.items in
    let stands = c.in_ok-cursor.ensures.stands in
    record {
      stands = rw c.deref.ensures.value at stands;
      written = written_more c.args.bytes.now c.args.edits.now c.loop-at.at c.loop-at.new.items middle c.if-cursor-at.new.items c.loop-at.invariant.written c.in_ok-cursor.ensures.written
          (elim c.if-cursor-at.branch [
            | then-cursor-at+in_ok-push w ↦ ap (λ v. v.items) w.new-is ∙ w.in_ok-push.ensures.items ∙ ap (λ l. middle ++ l) (sym (kept_some _ _ _ _ _ stands w.if-cursor-at.true c.loop-at-test.true))
            | else-cursor-at w ↦ ap (λ v. v.items) w.new-is ∙ sym (ap (λ l. middle ++ l) (kept_none _ _ _ _ _ stands w.if-cursor-at.false) ∙ append-nil middle)
          ]);
    }

pub returns : goal.returns
returns c =
    let last : c.loop-at.at ≡ length c.args.bytes.now = omega (arith, c.loop-at-test.false) in
    let end = c.write_inserted-2.new.new.items in
    written_more c.args.bytes.now c.args.edits.now (length c.args.bytes.now) c.loop-at.new.items end end
    (c.loop-at.invariant.written ∙ ap (λ n. flat_map (λ at. inserted c.args.edits.now at ++ kept c.args.bytes.now c.args.edits.now at) (range_with_len 0 n)) last)
    c.in_ok-_cursor.ensures.written
    (sym (ap (λ l. end ++ l) (kept_end c.args.bytes.now c.args.edits.now) ∙ append-nil end))
