use Rattle.std.proofs.Common.{◌≡◌, List, length, ap, ◌∙◌, arith}
use Rattle.unit_read.specs.declared.passage.Passage.{Passage}
use Rattle.rule_words.proofs.SceneLemmas.{behind}
use Rattle.rule_words.proofs.under.nowhere.Goals as goal

pub returns : goal.returns
returns c =
    let passages = c.args.u.now.passages in
    let count : c.len.result ≡ length passages.items = (let l = c.len.ensures in let m = passages.ok in omega arith) in
    ap behind count ∙ ap (λ (list : List Passage). behind (length list)) c.requires.blocks
