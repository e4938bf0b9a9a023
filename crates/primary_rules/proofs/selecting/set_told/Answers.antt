use Rattle.std.proofs.Common.{◌≡◌, List, map, sym, ap, ◌∙◌}
use Rattle.rule_words.specs.Scenes.{sight}
use Rattle.mark_walk.specs.Telling.{tell}
use Rattle.method_sets.specs.Members.{selector}
use Rattle.method_sets.specs.Replies.{listed_in}
use Rattle.type_model.specs.declared.term.Method.{Method}
use Rattle.type_model.specs.Parts.{GoMethod, method_of}
use Rattle.type_model.specs.Tables.{types_in}
use Rattle.type_questions.specs.declared.reached.Reached.{Reached}
use Rattle.type_questions.specs.declared.reached.Reached.TheVariants.{Got}
use Rattle.rule_words.specs.Answers.{answer_in}
use Rattle.type_answers.specs.Answering.{listed_methods}
use Rattle.type_answers.proofs.ComingLaws.{same_comes}
use Rattle.primary_rules.specs.Selecting.{in_set, set_told}
use Rattle.primary_rules.proofs.selecting.set_told.Goals as goal

pub returns-in-Got-clause-comes : goal.returns-in-Got-clause-comes
returns-in-Got-clause-comes c =
    let s = c.args.s.now in
    let name = selector c.args.name.now c.args.from.now in
    let good = answer_in s c.args.good in
    let told : listed_methods s c.args.told ≡ Got (listed_in s.table c.in-Got.methods.items) = ap (listed_methods s) c.in-Got.is in
    same_comes c.args.u.now s (set_told name good (listed_methods s c.args.told)) c.in_set.result c.requires.scene
    (c.in_set.ensures.is
    ∙ (ap (λ (l : List Method). tell (sight s) (in_set name good (map (method_of (types_in s.table)) l))) c.deref.ensures.value
    ∙ sym (ap (λ (r : Reached (List GoMethod)). tell (sight s) (set_told name good r)) told)))
