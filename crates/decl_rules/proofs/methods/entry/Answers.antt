use Rattle.std.proofs.Common.{map, refl, sym}
use Rattle.mark_walk.specs.Asks.{done}
use Rattle.typed_marks.specs.declared.item.Stage.TheVariants as st
use Rattle.unit_read.specs.Subjects.{unit_of}
use Rattle.rule_words.specs.Asking.{mark_ask}
use Rattle.rule_words.specs.Scenes.{sight, said}
use Rattle.type_rules.specs.Elements.{method_in}
use Rattle.decl_rules.specs.Methods.{told_method}
use Rattle.decl_rules.proofs.GiveLemmas.{gives_told}
use Rattle.decl_rules.proofs.methods.entry.Goals as goal

pub returns-in_ok-add_told-in-Is-clause-gives : goal.returns-in_ok-add_told-in-Is-clause-gives
returns-in_ok-add_told-in-Is-clause-gives c =
    let s = c.args.s.now in
    let u = unit_of c.args.u.now in
    gives_told (sight s) (mark_ask u st.Placed c.args.at.file c.args.entry) (λ r. done (told_method u c.args.name.now (said s c.args.m) r)) (said s c.in-Is.r) (told_method u c.args.name.now (said s c.args.m) (said s c.in-Is.r))
    (map (method_in s) c.args.out.now.items) _ (sym c.in-Is.ensures.is) refl c.in_ok-add_told-in-Is.ensures.is
