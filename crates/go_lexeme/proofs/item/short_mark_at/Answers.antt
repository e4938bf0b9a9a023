use Rattle.std.proofs.Common.{arith, ap, subst, sym, take, ◌∙◌}
use Rattle.go_tree.specs.Lexeme.{mark_item}
use Rattle.go_lexeme.specs.Run.{NoMark}
use Rattle.go_lexeme.proofs.Items.{one_byte, short_mark}
use Rattle.go_lexeme.proofs.item.short_mark_at.Goals as goal

pub returns-in-Some : goal.returns-in-Some
returns-in-Some c =
    let e = c.in-Some.ensures in
    record {
      some = omega (arith, e.0);
      within = omega (arith, e.0, e.1);
      is = ap (λ k. mark_item (take k c.args.rest.now)) e.0 ∙ e.2;
      none = subst (λ n. NoMark n c.args.rest.now) (sym e.0) (short_mark c.args.rest.now c.requires.short);
    }

-- one byte is always an item
pub returns : goal.returns
returns c = absurd (one_byte _ c.requires.some (c.in_default.ensures (omega arith)))
