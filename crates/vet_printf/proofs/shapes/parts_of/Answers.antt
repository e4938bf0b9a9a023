use Rattle.std.proofs.Common.{◌≡◌, ◌<◌, List, ℕ, ◌++◌, ap, ◌∙◌, sym, Option, option_map}
use Rattle.type_model.specs.declared.term.TypeId.{TypeId}
use Rattle.type_model.specs.GoTypes.{type_at}
use Rattle.type_model.specs.Tables.{types_in, count}
use Rattle.vet_printf.specs.InTable.{ids_of}
use Rattle.vet_printf.proofs.EachLemmas.{if_some}
use Rattle.vet_printf.proofs.PartLemmas.{parts_under, no_parts}
use Rattle.vet_printf.proofs.shapes.parts_of.Goals as goal

pub returns-in_ok-push_ids-in-Some : goal.returns-in_ok-push_ids-in-Some
returns-in_ok-push_ids-in-Some c =
    let t = c.args.t.now in
    let u = c.in-Some.u in
    parts_under t c.args.id.0 u c.term.result.now c.push_ids.new.ids.items
    (sym c.underlying.ensures.is ∙ ap (λ (o : Option TypeId). option_map (λ (id : TypeId). type_at (types_in t) id) o) c.in-Some.is)
    (if_some (λ (id : TypeId). id.0 < count t) c.underlying.result u c.in-Some.is c.underlying.ensures.within)
    c.term.ensures.is c.term.ensures.over (c.in_ok-push_ids-in-Some.ensures ∙ ap (λ (l : List ℕ). l ++ ids_of c.term.result.now) c.new-ids.ensures.items)

pub returns-in-None : goal.returns-in-None
returns-in-None c =
    let t = c.args.t.now in
    no_parts t c.args.id.0 c.new-ids.result.items (sym c.underlying.ensures.is ∙ ap (λ (o : Option TypeId). option_map (λ (id : TypeId). type_at (types_in t) id) o) c.in-None.is) c.new-ids.ensures.items
