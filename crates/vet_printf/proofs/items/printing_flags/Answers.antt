use Rattle.std.proofs.Common.{◌≡◌, ◌<◌, ◌^◌, ℕ, List, [], length, ap, sym, ◌∙◌, subst, arith}
use Rattle.findings.specs.Passes.{unit_in, marks_in}
use Rattle.least.specs.Least.{IsLeast}
use Rattle.least.specs.Work.{among, set_of}
use Rattle.vet_printf.specs.declared.shapes.Shape.{Shape}
use Rattle.vet_printf.specs.InTable.{Admits, AreBelow}
use Rattle.vet_printf.specs.Wraps.{number_of}
use Rattle.vet_printf.proofs.ItemLemmas.{items_below, flags_are}
use Rattle.vet_printf.proofs.items.printing_flags.Goals as goal

pub printing-requires-clause-few : goal.printing-requires-clause-few
printing-requires-clause-few c =
    let size = c.in_ok-items.ensures.size in
    let few = c.requires.known.few in
    let same : length c.deref.result.now ≡ length c.in_ok-items.items.items = ap length c.deref.ensures.value in
    omega (arith, size, few, same)

pub printing-requires-clause-below : goal.printing-requires-clause-below
printing-requires-clause-below c =
    let p = c.args.p.now in
    subst (λ (l : List Shape). AreBelow l) (sym c.deref.ensures.value) (items_below c.args.known.now (unit_in p) (marks_in p) c.requires.known (number_of c.args.kind) c.in_ok-items.items.items c.in_ok-items.ensures)

pub returns : goal.returns
returns c =
    let p = c.args.p.now in
    flags_are c.args.known.now (unit_in p) (marks_in p) c.requires.known c.args.kind c.in_ok-items.items.items c.in_ok-flags.flags.items c.in_ok-items.ensures
    (subst (λ (l : List Shape). IsLeast (among (length l) (Admits [] l)) (set_of c.in_ok-flags.flags.items)) c.deref.ensures.value c.in_ok-flags.ensures)
