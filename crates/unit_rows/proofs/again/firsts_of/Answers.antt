use Rattle.std.proofs.Common.{◌≡◌, true, false, sym, ◌∙◌}
use Rattle.unit_rows.proofs.again.firsts_of.Goals as goal

pub returns-then-are_few : goal.returns-then-are_few
returns-then-are_few c = λ many. let e : true ≡ false = sym c.if-are_few.true ∙ (c.are_few.ensures ∙ many) in absurd (cc e)

pub returns : goal.returns
returns c = λ many. c.in_ok-firsts.ensures
