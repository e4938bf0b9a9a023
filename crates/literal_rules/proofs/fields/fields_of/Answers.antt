use Rattle.std.proofs.Common.{sym, ap, ◌∙◌}
use Rattle.type_model.specs.Tables.{types_in}
use Rattle.rule_words.specs.Scenes.{type_in}
use Rattle.method_sets.proofs.Shows.{struct_shown}
use Rattle.literal_rules.specs.InCode.{fields_in}
use Rattle.literal_rules.proofs.FieldLemmas.{listed_fields}
use Rattle.literal_rules.proofs.fields.fields_of.Goals as goal

pub returns-in-Struct-clause-is : goal.returns-in-Struct-clause-is
returns-in-Struct-clause-is c =
    let s = c.args.s.now in
    listed_fields s c.as_slice.result.now
    ∙ sym (ap fields_in (struct_shown (types_in s.table) (type_in s c.args.of) c.term.result.now c.in-Struct.fields c.as_slice.result.now c.term.ensures.is c.in-Struct.is c.as_slice.ensures))
