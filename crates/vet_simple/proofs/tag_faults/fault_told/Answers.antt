use Rattle.std.proofs.Common.{ℕ, List, option_map, ap, ◌∙◌}
use Rattle.std.specs.Global.{Vec}
use Rattle.findings.specs.Passes.{unit_in}
use Rattle.vet_simple.specs.declared.tags.Pair.{Pair}
use Rattle.vet_simple.specs.StructTags.{field_name}
use Rattle.vet_simple.specs.TagSpots.{ToldOf, fault_in}
use Rattle.vet_simple.proofs.tag_faults.fault_told.Goals as goal

pub returns : goal.returns
returns c =
    let u = unit_in c.args.p.now in
    let paths = c.args.s.now.paths.now in
    c.in_ok-text.ensures
    ∙ (ap (λ (name : List ℕ). fault_in paths u c.args.file c.args.parts.now c.args.i c.args.j c.args.node.now name c.args.t.now (option_map (λ (v : Vec Pair). v.items) c.t.inside.pairs)) c.field_name-name.ensures
    ∙ ap (λ (q : ToldOf). fault_in paths u c.args.file c.args.parts.now c.args.i c.args.j c.args.node.now (field_name u c.args.file c.args.node.now c.args.j) c.args.t.now q.pairs) c.t.view_is)
