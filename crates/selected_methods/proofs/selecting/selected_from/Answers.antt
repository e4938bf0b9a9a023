use Rattle.std.proofs.Common.{ℕ, List, sym, ap, ◌∙◌, subst}
use Rattle.method_sets.specs.declared.selection.Selection.{Selection}
use Rattle.method_sets.specs.Levels.{EnoughToSelect, NeedsToSelect, SaysSelected, IsSelectionIn, chosen_in}
use Rattle.method_sets.specs.Members.{selector}
use Rattle.type_growth.specs.Lasting.{IsReply}
use Rattle.type_growth.specs.declared.reply.Reply.{Reply}
use Rattle.type_growth.specs.declared.reply.Reply.TheVariants as reply
use Rattle.type_model.specs.GoTypes.{type_at}
use Rattle.type_model.specs.Tables.{types_in, declarations_in}
use Rattle.unit_read.specs.Subjects.{unit_of}
use Rattle.selected_methods.specs.InCode.{method_chosen}
use Rattle.selected_methods.proofs.ChosenLemmas.{what_chosen, what_waiting}
use Rattle.selected_methods.proofs.selecting.selected_from.Goals as goal

pub returns-in-Is : goal.returns-in-Is
returns-in-Is c =
    let u = unit_of c.args.u.now in
    let t = c.args.t.now in
    let ds = declarations_in t in
    let of = type_at (types_in t) c.args.of in
    let sel = c.in-Is.selection in
    let came = subst (λ (r : Reply Selection). IsReply EnoughToSelect NeedsToSelect (IsSelectionIn t) t (record { of = of; name = selector c.args.name.now c.path_text.result.now }) r) c.in-Is.is
    c.in_ok-reply.ensures in
    let says = c.selection_lasts.ensures.said t of (selector c.args.name.now c.path_text.result.now) sel came.1 in
    what_chosen u t c.args.name.now of c.selection_lasts.ensures.selected.once sel c.method_chosen.result
    (subst (λ (f : List ℕ). EnoughToSelect ds (record { of = of; name = selector c.args.name.now f })) c.path_text.ensures came.0)
    (subst (λ (f : List ℕ). SaysSelected ds (record { of = of; name = selector c.args.name.now f }) (chosen_in t sel)) c.path_text.ensures says)
    (c.method_chosen.ensures ∙ ap (λ (n : List ℕ). method_chosen u t n of sel) c.as_bytes.ensures.value)

-- a type that isn't declared stands in the way
pub returns-in-Waits : goal.returns-in-Waits
returns-in-Waits c =
    let u = unit_of c.args.u.now in
    let t = c.args.t.now in
    let ds = declarations_in t in
    let of = type_at (types_in t) c.args.of in
    let came = subst (λ (r : Reply Selection). IsReply EnoughToSelect NeedsToSelect (IsSelectionIn t) t (record { of = of; name = selector c.args.name.now c.path_text.result.now }) r) c.in-Waits.is
    c.in_ok-reply.ensures in
    what_waiting u ds c.args.name.now of (λ enough. c.selection_lasts.ensures.selected.apart ds (record { of = of; name = selector c.args.name.now c.path_text.result.now }) came.0
    (subst (λ (f : List ℕ). EnoughToSelect ds (record { of = of; name = selector c.args.name.now f })) (sym c.path_text.ensures) enough) came.3)
