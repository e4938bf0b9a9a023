use Rattle.std.proofs.Common.{◌∙◌, sym, ap, subst, None}
use Rattle.rule_words.specs.Scenes.{sight}
use Rattle.std.specs.Global.{Vec}
use Rattle.mark_walk.specs.Telling.{tell}
use Rattle.type_model.specs.declared.term.Method.{Method}
use Rattle.method_sets.specs.Replies.{listed_in}
use Rattle.type_questions.specs.Questions.{Listing}
use Rattle.type_questions.specs.Judging.{seen_as}
use Rattle.rule_words.specs.declared.step.Step.{Step}
use Rattle.rule_words.specs.declared.step.Rest.{Rest}
use Rattle.rule_words.specs.declared.step.Rest.TheVariants as r
use Rattle.rule_words.specs.Steps.{step_in, rest_in, IsRestOf, IsStepOf}
use Rattle.elaborate.proofs.AnswerLemmas.{told_by_methods, by_methods_over}
use Rattle.elaborate.proofs.answers.with_methods.Goals as goal

pub returns-in-HeldBy-clause-is : goal.returns-in-HeldBy-clause-is
returns-in-HeldBy-clause-is c =
    let s = c.args.s.now in
    let i = c.in-HeldBy in
    ap (step_in s) c.assign_by.ensures ∙ told_by_methods s c.args.methods i.of i.value i.to (r.Held i.good i.rule)
    ∙ ap (λ (x : Rest). tell (sight s) (rest_in s x (Listing (seen_as (λ (v : Vec Method). listed_in s.table v.items) c.args.methods)))) (sym i.is)

pub returns-in-HeldBy-clause-over : goal.returns-in-HeldBy-clause-over
returns-in-HeldBy-clause-over c =
    let s = c.args.s.now in
    let i = c.in-HeldBy in
    let over = subst (IsRestOf s) i.is c.requires.rest in
    subst (IsStepOf s) (sym c.assign_by.ensures) (by_methods_over s c.args.methods i.of i.value i.to (r.Held i.good i.rule) over.0 over.1 c.requires.methods (over.2, over.3))

pub returns-in-EitherBy-clause-is : goal.returns-in-EitherBy-clause-is
returns-in-EitherBy-clause-is c =
    let s = c.args.s.now in
    let i = c.in-EitherBy in
    ap (step_in s) c.assign_by-in-EitherBy.ensures ∙ told_by_methods s c.args.methods i.pair.x None i.pair.y (r.Either i.pair)
    ∙ ap (λ (x : Rest). tell (sight s) (rest_in s x (Listing (seen_as (λ (v : Vec Method). listed_in s.table v.items) c.args.methods)))) (sym i.is)

pub returns-in-EitherBy-clause-over : goal.returns-in-EitherBy-clause-over
returns-in-EitherBy-clause-over c =
    let s = c.args.s.now in
    let i = c.in-EitherBy in
    let over = subst (IsRestOf s) i.is c.requires.rest in
    subst (IsStepOf s) (sym c.assign_by-in-EitherBy.ensures) (by_methods_over s c.args.methods i.pair.x None i.pair.y (r.Either i.pair) over.x over.y c.requires.methods over)

pub returns-in-OtherBy-clause-is : goal.returns-in-OtherBy-clause-is
returns-in-OtherBy-clause-is c =
    let s = c.args.s.now in
    let i = c.in-OtherBy in
    ap (step_in s) c.assign_by-in-OtherBy.ensures ∙ told_by_methods s c.args.methods i.pair.y None i.pair.x (r.Other i.pair)
    ∙ ap (λ (x : Rest). tell (sight s) (rest_in s x (Listing (seen_as (λ (v : Vec Method). listed_in s.table v.items) c.args.methods)))) (sym i.is)

pub returns-in-OtherBy-clause-over : goal.returns-in-OtherBy-clause-over
returns-in-OtherBy-clause-over c =
    let s = c.args.s.now in
    let i = c.in-OtherBy in
    let over = subst (IsRestOf s) i.is c.requires.rest in
    subst (IsStepOf s) (sym c.assign_by-in-OtherBy.ensures) (by_methods_over s c.args.methods i.pair.y None i.pair.x (r.Other i.pair) over.y over.x c.requires.methods over)
