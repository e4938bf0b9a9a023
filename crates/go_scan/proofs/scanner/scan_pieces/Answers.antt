use Rattle.std.proofs.Common.{arith, sym, subst}
use Rattle.go_lexeme.proofs.Items.{no_item}
use Rattle.go_tree.specs.Lexeme.{item_of}
use Rattle.go_tree.specs.Lexed.{Lexed}
use Rattle.go_scan.proofs.Cuts.{step, step_within, finish, refuse, some_size, reaches_start}
use Rattle.go_scan.proofs.scanner.scan_pieces.Goals as goal

pub loop-at-smaller : goal.loop-at-smaller
loop-at-smaller c = omega (arith, some_size item_of no_item _ _ c.piece_at-piece.ensures, step_within item_of no_item _ _ _ c.loop-at-test.true c.piece_at-piece.ensures)

pub loop-at-preserved : goal.loop-at-preserved
loop-at-preserved c = record {
  within = step_within item_of no_item _ _ _ c.loop-at-test.true c.piece_at-piece.ensures;
  reaches = step item_of no_item _ _ _ _ _ _ _ _ c.loop-at.invariant.reaches c.piece_at-piece.ensures c.in_default.not-Wrong c.due_after-due.ensures (c.in_ok-push_token.ensures) c.item_token.ensures;
}

pub returns-in-Wrong : goal.returns-in-Wrong
returns-in-Wrong c = refuse item_of no_item _ _ _ _ _ _ c.loop-at.invariant.reaches c.piece_at-piece.ensures c.in-Wrong.is c.requires.passes

pub returns : goal.returns
returns c = subst (Lexed _) (sym c.new.ensures) (finish item_of no_item _ _ _ _ _ _ c.loop-at.invariant.reaches c.loop-at-test.false c.in_ok-push_token-2.ensures c.semicolon.ensures c.requires.passes)

pub loop-at-init : goal.loop-at-init
loop-at-init c = record {
  within = c.front_mark-at.ensures.within;
  reaches = reaches_start item_of no_item _ _ _ c.front_mark-at.ensures.mark c.in_ok-tokens.ensures.items;
}
