use Rattle.std.proofs.Common.{Some, ◌∙◌, sym, ap}
use Rattle.method_sets.proofs.Shows.{struct_shown}
use Rattle.type_model.specs.GoTypes.{GoType}
use Rattle.type_model.specs.Tables.{types_in}
use Rattle.rule_words.specs.Scenes.{type_in}
use Rattle.primary_rules.specs.Selecting.{embedded_type}
use Rattle.primary_rules.proofs.PassLemmas.{field_at}
use Rattle.primary_rules.proofs.passing.embedded_type.Goals as goal

pub returns-in-Struct-clause-is : goal.returns-in-Struct-clause-is
returns-in-Struct-clause-is c =
    let s = c.args.s.now in
    let types = types_in s.table in
    let list = c.as_slice.result.now in
    let shown = struct_shown types (type_in s c.args.under) c.term.result.now c.in-Struct.fields list c.term.ensures.is c.in-Struct.is c.as_slice.ensures in
    c.field_type.ensures.is ∙ (sym (field_at types list c.args.k) ∙ sym (ap (λ (of : GoType). embedded_type (Some of) c.args.k) shown))
