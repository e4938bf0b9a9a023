use Rattle.std.proofs.Common.{ℕ, List, subst}
use Rattle.method_sets.specs.Levels.{SaysSelected, chosen_in}
use Rattle.method_sets.specs.Members.{selector}
use Rattle.type_model.specs.Tables.{declarations_in}
use Rattle.rule_words.specs.Scenes.{type_in}
use Rattle.findings.specs.Passes.{unit_in}
use Rattle.member_names.specs.InCode.{found_named}
use Rattle.member_names.proofs.NamedLemmas.{what_chosen}
use Rattle.member_names.proofs.selecting.selected_from.Goals as goal

pub returns : goal.returns
returns c =
    let u = unit_in c.args.p.now in
    let s = c.args.p.now.state.now in
    let of = type_in s c.args.of in
    let sel = c.in_ok-selection.selection in
    let says = c.selection_lasts.ensures.said s.table of (selector c.args.name.now c.path_text.result.now) sel c.in_ok-selection.ensures in
    let own = subst (λ (f : List ℕ). SaysSelected (declarations_in s.table) (record { of = of; name = selector c.args.name.now f }) (chosen_in s.table sel)) c.path_text.ensures says in
    what_chosen u s.table c.args.name.now of c.selection_lasts.ensures.selected.once sel (found_named c.in_ok-named.named) own c.in_ok-named.ensures
