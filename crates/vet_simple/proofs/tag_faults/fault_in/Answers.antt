use Rattle.std.proofs.Common.{List, Option, option_map, sym, ap, ◌∙◌}
use Rattle.std.specs.Global.{Vec}
use Rattle.std.specs.Option.{option_or}
use Rattle.findings.specs.Passes.{unit_in}
use Rattle.vet_simple.specs.declared.tags.Pair.{Pair}
use Rattle.vet_simple.specs.StructTags.{if_hidden}
use Rattle.vet_simple.specs.TagSpots.{again_told, fault_in}
use Rattle.vet_simple.proofs.tag_faults.fault_in.Goals as goal

pub returns-in_ok-text-in-Some : goal.returns-in_ok-text-in-Some
returns-in_ok-text-in-Some c =
    let u = unit_in c.args.p.now in
    let paths = c.args.s.now.paths.now in
    let name = c.args.name.now in
    let t = c.args.t.now in
    c.in_ok-text-in-Some.ensures
    ∙ (ap (λ (pairs : List Pair). option_or (if_hidden c.args.node.now name pairs) (again_told paths u c.args.file c.args.parts.now c.args.i c.args.j name t)) c.deref.ensures.value
    ∙ ap (λ (o : Option (Vec Pair)). fault_in paths u c.args.file c.args.parts.now c.args.i c.args.j c.args.node.now name t (option_map (λ (v : Vec Pair). v.items) o)) (sym c.in-Some.is))
