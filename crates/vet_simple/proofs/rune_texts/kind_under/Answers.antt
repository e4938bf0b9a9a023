use Rattle.std.proofs.Common.{Option, None, option_map, option_and_then, sym, ap, ◌∙◌}
use Rattle.gv_base.specs.declared.constant.Kind.{Kind}
use Rattle.type_model.specs.declared.term.TypeId.{TypeId}
use Rattle.type_model.specs.Declarations.{Declarations, under_of}
use Rattle.type_model.specs.GoTypes.{GoType}
use Rattle.rule_words.specs.Scenes.{type_in}
use Rattle.selected_methods.proofs.ChosenLemmas.{table_declares}
use Rattle.vet_simple.specs.RuneTexts.{kind_told}
use Rattle.vet_simple.proofs.rune_texts.kind_under.Goals as goal

pub returns-in-Some : goal.returns-in-Some
returns-in-Some c =
    let s = c.args.p.now.state.now in
    c.kind_told.ensures
    ∙ (ap (λ (o : Option TypeId). option_and_then kind_told (option_map (type_in s) o)) (sym c.in-Some.is)
    ∙ (ap (λ (o : Option GoType). option_and_then kind_told o) c.underlying.ensures.is
    ∙ ap (λ (d : Declarations). option_and_then kind_told (under_of d (type_in s c.args.of))) (table_declares c.args.p.now.subject.now s c.requires.pass.scene)))

pub returns-in-None : goal.returns-in-None
returns-in-None c =
    let s = c.args.p.now.state.now in
    ap (λ (o : Option TypeId). option_and_then kind_told (option_map (type_in s) o)) (sym c.in-None.is)
    ∙ (ap (λ (o : Option GoType). option_and_then kind_told o) c.underlying.ensures.is
    ∙ ap (λ (d : Declarations). option_and_then kind_told (under_of d (type_in s c.args.of))) (table_declares c.args.p.now.subject.now s c.requires.pass.scene))
