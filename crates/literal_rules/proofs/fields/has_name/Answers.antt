use Rattle.std.proofs.Common.{false, sym, ap, ◌∙◌}
use Rattle.std.specs.Option.{option_copied, option_map_or}
use Rattle.type_model.specs.Parts.{GoField}
use Rattle.std.specs.Str.{bytes_eq}
use Rattle.literal_rules.proofs.FieldLemmas.{nth_in, none_in}
use Rattle.literal_rules.proofs.fields.has_name.Goals as goal

pub returns-in-Some : goal.returns-in-Some
returns-in-Some c =
    let s = c.args.s.now in
    c.is_named.ensures ∙ sym (ap (λ o. option_map_or (λ (f : GoField). bytes_eq f.name c.args.name.now) o false) (nth_in s c.args.fields.now c.args.i c.in-Some.f.now (sym c.nth_field.ensures ∙ ap option_copied c.in-Some.is)))

pub returns-in-None : goal.returns-in-None
returns-in-None c =
    let s = c.args.s.now in
    sym (ap (λ o. option_map_or (λ (f : GoField). bytes_eq f.name c.args.name.now) o false) (none_in s c.args.fields.now c.args.i (sym c.nth_field.ensures ∙ ap option_copied c.in-None.is)))
