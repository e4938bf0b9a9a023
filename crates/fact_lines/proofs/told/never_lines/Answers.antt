use Rattle.std.proofs.Common.{◌++◌, ◌∷◌, ◌∙◌, ℕ, List, [], ap}
use Rattle.fact_codec.specs.declared.units.Never.{Never}
use Rattle.fact_lines.specs.Told.{never_line}
use Rattle.fact_lines.proofs.ToldLemmas.{line-more}
use Rattle.fact_lines.proofs.told.never_lines.Goals as goal

pub loop-i-preserved : goal.loop-i-preserved
loop-i-preserved c =
    line-more (λ (e : List ℕ × Never). never_line e.0) c.args.table.now c.loop-i.i (c.at.result.0.now, c.at.result.1.now) c.loop-i.lines.items c.push.new.self.items c.at.ensures c.loop-i.invariant
    (c.in_ok-push.ensures.items ∙ ap (λ (line : List ℕ). c.loop-i.lines.items ++ line ∷ []) c.in_ok-line.ensures)
