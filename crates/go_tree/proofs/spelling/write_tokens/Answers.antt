use Rattle.std.proofs.Common.{◌≡◌, ◌++◌, ◌∙◌, [], refl, ap, sym, arith, subst}
use Rattle.go_tree.specs.Spelling.{spelled_after, gap}
use Rattle.go_tree.proofs.Spelled.{written, written_all}
use Rattle.go_tree.proofs.spelling.write_tokens.Goals as goal

pub loop-token-preserved : goal.loop-token-preserved
loop-token-preserved c =
    rw (c.in_ok-extend_from_slice.ensures.items, c.in_ok-write_gap.ensures)
    (written c.args.source.now c.loop-token.out.items c.loop-token.left.now c.token_text-text.result.now _ c.args.tokens.now c.loop-token.token-index _ _ (omega arith) refl c.token_text-text.ensures c.loop-token.invariant)

pub returns : goal.returns
returns c = written_all c.args.source.now c.loop-token.out.items c.loop-token.left.now _ c.args.tokens.now c.loop-token.token-index (omega arith) c.loop-token.invariant
