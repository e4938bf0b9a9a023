use Rattle.std.proofs.Common.{◌≡◌, ◌↔◌, ℕ, Bool, true, List, subst, sym}
use Rattle.method_sets.specs.Levels.{SaysSelected, chosen_in}
use Rattle.method_sets.specs.Members.{selector}
use Rattle.type_model.specs.Tables.{declarations_in}
use Rattle.rule_words.specs.Scenes.{type_in}
use Rattle.findings.specs.Passes.{unit_in}
use Rattle.vet_words.specs.Called.{IsMethodOf}
use Rattle.vet_words.proofs.MethodLemmas.{method_chosen}
use Rattle.vet_words.proofs.methods.selects_from.Goals as goal

pub returns : goal.returns
returns c =
    let u = unit_in c.args.p.now in
    let s = c.args.p.now.state.now in
    let of = type_in s c.args.of in
    let sel = c.in_ok-selection.selection in
    let says = c.selection_lasts.ensures.said s.table of (selector c.args.name.now c.path_text.result.now) sel c.in_ok-selection.ensures in
    let own = subst (λ (f : List ℕ). SaysSelected (declarations_in s.table) (record { of = of; name = selector c.args.name.now f }) (chosen_in s.table sel)) c.path_text.ensures says in
    subst (λ (b : Bool). (b ≡ true) ↔ IsMethodOf u (declarations_in s.table) c.args.name.now of) (sym c.is_method.ensures)
    (method_chosen u s.table c.args.name.now of c.selection_lasts.ensures.selected.once sel own)
