use Rattle.std.proofs.Common.{◌∙◌, ◌++◌, codes, ap, sym, subst, Some}
use Rattle.std.specs.List.{Contains}
use Rattle.tree_report.proofs.LineLemmas.{nothing-missing, one-missing}
use Rattle.tree_report.proofs.lines.push_missing.Goals as goal

pub returns-in-Some : goal.returns-in-Some
returns-in-Some c = nothing-missing c.args.paths.now c.args.path.now c.args.file c.args.line.now c.in-Some.field-0 c.args.lines.now.items (c.in-Some.ensures ∙ ap Some c.as_slice.ensures)

pub returns-in_ok-push_at-in-None : goal.returns-in_ok-push_at-in-None
returns-in_ok-push_at-in-None c =
    one-missing c.args.paths.now c.args.path.now c.args.file c.args.line.now _ c.args.lines.now.items _ (λ h. c.in-None.ensures (subst (Contains c.args.paths.now) (sym c.as_slice.ensures) h))
    (c.deref.ensures.value ∙ c.in_ok-text-in-None.ensures ∙ ap (λ b. codes "missing import \"" ++ (b ++ codes "\"")) c.as_slice-in-None.ensures) c.in_ok-push_at-in-None.ensures
