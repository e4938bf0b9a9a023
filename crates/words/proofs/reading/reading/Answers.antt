use Rattle.std.proofs.Common.{arith, ◌≡◌, ◌<◌, ◌≤◌, length, map, string_bytes, ◌∙◌, sym, ap, option_and_then}
use Rattle.std.proofs.lemmas.List.{length-map}
use Rattle.words.specs.Machine.{step, finish}
use Rattle.words.proofs.ReadingLaws.{read-none, read-more, read-end}
use Rattle.words.proofs.reading.reading.Goals as goal

pub returns-in-None : goal.returns-in-None
returns-in-None c =
    let ws = map string_bytes c.args.words.now in
    let l : length ws ≡ length c.args.words.now = length-map c.args.words.now string_bytes in
    let lt : c.loop-at.at < length ws = (let t = c.loop-at-test.true in omega (arith, l, t)) in
    ap (option_and_then finish) (read-none c.loop-at.draft ws c.loop-at.at lt (sym c.in-None.is ∙ c.step.ensures ∙ ap (step c.loop-at.draft) c.word_at.ensures) ∙ sym c.loop-at.invariant)

pub loop-at-preserved : goal.loop-at-preserved
loop-at-preserved c =
    let ws = map string_bytes c.args.words.now in
    let l : length ws ≡ length c.args.words.now = length-map c.args.words.now string_bytes in
    let lt : c.loop-at.at < length ws = (let t = c.loop-at-test.true in omega (arith, l, t)) in
    c.loop-at.invariant ∙ read-more c.loop-at.draft c.in-Some.next ws c.loop-at.at lt (sym c.in-Some.is ∙ c.step.ensures ∙ ap (step c.loop-at.draft) c.word_at.ensures)

pub returns : goal.returns
returns c =
    let ws = map string_bytes c.args.words.now in
    let l : length ws ≡ length c.args.words.now = length-map c.args.words.now string_bytes in
    let le : length ws ≤ c.loop-at.at = (let t = c.loop-at-test.false in omega (arith, l, t)) in
    c.finish.ensures ∙ ap (option_and_then finish) (sym (c.loop-at.invariant ∙ read-end c.loop-at.draft ws c.loop-at.at le))
