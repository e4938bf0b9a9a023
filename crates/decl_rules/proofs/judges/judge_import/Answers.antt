use Rattle.std.proofs.Common.{Option, option_and_then, sym, ap, ◌∙◌}
use Rattle.mark_walk.specs.Telling.{tell}
use Rattle.typed_tree.specs.declared.rule.Limit.{Limit}
use Rattle.unit_read.specs.declared.lead.Lead.{Lead}
use Rattle.unit_read.specs.Subjects.{full_of}
use Rattle.unit_read.proofs.BareLemmas.{bare_limit}
use Rattle.rule_words.specs.Scenes.{sight}
use Rattle.decl_rules.specs.Rules.{limited}
use Rattle.decl_rules.proofs.judges.judge_import.Goals as goal

-- the limit of an import doesn't rest on what is known
pub returns-in-Some-clause-is : goal.returns-in-Some-clause-is
returns-in-Some-clause-is c =
    let s = c.args.s.now in
    let u = full_of c.args.u.now in
    c.limited.ensures.is
    ∙ ap (λ (limit : Option Limit). tell (sight s) (limited limit))
    (ap (option_and_then (λ (l : Lead). l.limit)) (sym c.in-Some.is ∙ c.lead_at.ensures) ∙ sym (bare_limit u c.args.at))

pub returns-in-None-clause-is : goal.returns-in-None-clause-is
returns-in-None-clause-is c =
    let s = c.args.s.now in
    let u = full_of c.args.u.now in
    c.nothing.ensures.is
    ∙ ap (λ (limit : Option Limit). tell (sight s) (limited limit))
    (ap (option_and_then (λ (l : Lead). l.limit)) (sym c.in-None.is ∙ c.lead_at.ensures) ∙ sym (bare_limit u c.args.at))
