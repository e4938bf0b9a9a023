use Rattle.std.proofs.Common.{false, Option, map, ap, ◌∙◌}
use Rattle.std.specs.Option.{option_map_or}
use Rattle.unit_read.specs.Subjects.{unit_of}
use Rattle.rule_words.specs.declared.read.Read.{Read}
use Rattle.rule_words.specs.Parts.{Part, part_at}
use Rattle.rule_words.specs.Scenes.{parts_in}
use Rattle.type_rules.specs.Elements.{method_in}
use Rattle.type_rules.specs.Joining.{clash_at}
use Rattle.type_rules.proofs.joining.nth_clash.Goals as goal

pub returns-in_ok-found-in-Some : goal.returns-in_ok-found-in-Some
returns-in_ok-found-in-Some c =
    let s = c.args.s.now in
    let u = unit_of c.args.u.now in
    let methods = map (method_in s) c.args.methods.now in
    c.in_ok-found-in-Some.ensures
    ∙ (ap (λ (p : Part). clash_at u c.args.file methods p c.in-Some.r) c.part_at-p.ensures.is
    ∙ ap (λ (o : Option Read). option_map_or (clash_at u c.args.file methods (part_at (parts_in s c.args.parts.now) c.args.k)) o false) c.in-Some.ensures)
