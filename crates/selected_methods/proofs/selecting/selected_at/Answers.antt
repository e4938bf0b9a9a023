use Rattle.std.proofs.Common.{sym, ap, ◌∙◌, subst, Option, option_map}
use Rattle.mark_walk.specs.Asks.{filled}
use Rattle.type_model.specs.declared.term.TypeId.{TypeId}
use Rattle.typed_marks.specs.Meanings.{Quiet}
use Rattle.typed_marks.specs.States.{so_far}
use Rattle.unit_read.specs.Subjects.{full_of, unit_of}
use Rattle.rule_words.specs.Scenes.{type_in}
use Rattle.type_model.specs.Tables.{declarations_in}
use Rattle.selected_methods.specs.Selected.{IsMethodOf}
use Rattle.selected_methods.specs.InCode.{IsWhat}
use Rattle.selected_methods.proofs.ChosenLemmas.{table_declares, what_selected, what_unselected}
use Rattle.selected_methods.proofs.selecting.selected_at.Goals as goal

pub returns-in_ok-found-in-Some : goal.returns-in_ok-found-in-Some
returns-in_ok-found-in-Some c =
    let u = unit_of c.args.u.now in
    let s = c.args.s.now in
    let marks = filled Quiet (so_far s) in
    let of = type_in s c.in-Some.of in
    let owns = sym c.owner_of.ensures.is ∙ ap (λ (o : Option TypeId). option_map (type_in s) o) c.in-Some.is in
    what_selected (full_of c.args.u.now) marks c.args.at (declarations_in s.table) of c.in_ok-found-in-Some.found owns (table_declares c.args.u.now s c.requires)
    (subst (λ n. IsWhat (IsMethodOf u (declarations_in s.table) n of) c.in_ok-found-in-Some.found) c.selected_name.ensures c.in_ok-found-in-Some.ensures)

pub returns-in-None : goal.returns-in-None
returns-in-None c =
    let s = c.args.s.now in
    let owns = sym c.owner_of.ensures.is ∙ ap (λ (o : Option TypeId). option_map (type_in s) o) c.in-None.is in
    what_unselected (full_of c.args.u.now) (filled Quiet (so_far s)) c.args.at owns
