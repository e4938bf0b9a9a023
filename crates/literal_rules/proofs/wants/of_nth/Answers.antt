use Rattle.std.proofs.Common.{sym, ap, ◌∙◌}
use Rattle.std.specs.Option.{option_copied, option_map_or}
use Rattle.type_model.specs.Tables.{count}
use Rattle.literal_rules.specs.Wants.{of_field}
use Rattle.literal_rules.proofs.FieldLemmas.{nth_in, none_in, field_below}
use Rattle.literal_rules.proofs.wants.of_nth.Goals as goal

pub returns-in-Some-clause-is : goal.returns-in-Some-clause-is
returns-in-Some-clause-is c =
    let s = c.args.s.now in
    c.field_wanted.ensures.is ∙ sym (ap (of_field c.args.braces) (nth_in s c.args.fields.now c.args.i c.in-Some.f.now (sym c.nth_field.ensures ∙ ap option_copied c.in-Some.is)))

pub returns-in-None-clause-is : goal.returns-in-None-clause-is
returns-in-None-clause-is c =
    let s = c.args.s.now in
    c.nothing_wanted.ensures.is ∙ sym (ap (of_field c.args.braces) (none_in s c.args.fields.now c.args.i (sym c.nth_field.ensures ∙ ap option_copied c.in-None.is)))

pub field_wanted-requires : goal.field_wanted-requires
field_wanted-requires c = field_below (count c.args.s.now.table) c.args.fields.now c.args.i c.in-Some.f.now c.requires (sym c.nth_field.ensures ∙ ap option_copied c.in-Some.is)
