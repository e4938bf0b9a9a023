use Rattle.std.proofs.Common.{true, sym, ap, ◌∙◌}
use Rattle.std.specs.Option.{option_copied, option_map_or}
use Rattle.literal_rules.specs.Structs.{is_visible}
use Rattle.literal_rules.proofs.FieldLemmas.{nth_in, none_in}
use Rattle.literal_rules.proofs.structs.is_open.Goals as goal

pub returns-in-Some : goal.returns-in-Some
returns-in-Some c =
    let s = c.args.s.now in
    c.is_visible.ensures ∙ sym (ap (λ o. option_map_or (is_visible c.args.path.now) o true) (nth_in s c.args.fields.now c.args.i c.in-Some.f.now (sym c.nth_field.ensures ∙ ap option_copied c.in-Some.is)))

pub returns-in-None : goal.returns-in-None
returns-in-None c =
    let s = c.args.s.now in
    sym (ap (λ o. option_map_or (is_visible c.args.path.now) o true) (none_in s c.args.fields.now c.args.i (sym c.nth_field.ensures ∙ ap option_copied c.in-None.is)))
