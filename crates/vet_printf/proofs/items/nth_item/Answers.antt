use Rattle.std.proofs.Common.{◌≡◌, ℕ, List, Bool, ◌||◌, not, sym, ap, ◌∙◌}
use Rattle.findings.specs.Passes.{unit_in, marks_in}
use Rattle.own_functions.specs.Functions.{declared_at}
use Rattle.vet_printf.specs.Forwards.{is_listed}
use Rattle.vet_printf.specs.InTable.{flag_at, row_of}
use Rattle.vet_printf.specs.Wraps.{number_of}
use Rattle.vet_printf.proofs.ItemLemmas.{item_told}
use Rattle.vet_printf.proofs.items.nth_item.Goals as goal

pub returns : goal.returns
returns c =
    let p = c.args.p.now in
    let u = unit_in p in
    let kind = number_of c.args.kind in
    let b = c.args.buckets.now in
    item_told c.args.known.now u (marks_in p) c.requires.known kind c.args.i c.first_of-first.result b c.item.result c.is_listed-listed.result c.first_of-first.ensures c.requires.filled
    (c.is_listed-listed.ensures ∙ (ap (λ (j : ℕ). is_listed (declared_at u) u (marks_in p) j c.nth_name.result.now) c.number_of.ensures ∙ ap (λ (q : List ℕ). is_listed (declared_at u) u (marks_in p) kind q) c.nth_name.ensures))
    (c.item.ensures.parted ∙ ap (λ (x : Bool). not (c.is_listed-listed.result || x)) (c.flag.ensures ∙ ap (λ (l : List Bool). flag_at l c.first_of-first.result) c.deref.ensures.value))
    (c.item.ensures.parts ∙ c.in_ok-parts.ensures)
