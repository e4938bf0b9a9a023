use Rattle.std.proofs.Common.{if◌then◌else◌, Some, None, option_and_then, sym, ap, ◌∙◌}
use Rattle.std.specs.Option.{option_copied, option_map_or}
use Rattle.type_model.specs.Parts.{GoField}
use Rattle.literal_rules.specs.Structs.{is_visible}
use Rattle.literal_rules.proofs.FieldLemmas.{nth_in, none_in}
use Rattle.literal_rules.proofs.fields.if_visible.Goals as goal

pub returns-in-Some : goal.returns-in-Some
returns-in-Some c =
    let s = c.args.s.now in
    c.keep_visible.ensures ∙ sym (ap (λ o. option_and_then (λ (f : GoField). if is_visible c.args.path.now f then Some c.args.n else None) o) (nth_in s c.args.fields.now c.args.n c.in-Some.f.now (sym c.nth_field.ensures ∙ ap option_copied c.in-Some.is)))

pub returns-in-None : goal.returns-in-None
returns-in-None c =
    let s = c.args.s.now in
    sym (ap (λ o. option_and_then (λ (f : GoField). if is_visible c.args.path.now f then Some c.args.n else None) o) (none_in s c.args.fields.now c.args.n (sym c.nth_field.ensures ∙ ap option_copied c.in-None.is)))
