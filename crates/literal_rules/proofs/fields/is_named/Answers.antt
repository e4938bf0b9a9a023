use Rattle.std.proofs.Common.{sym, ap, ◌∙◌}
use Rattle.std.specs.Str.{bytes_eq}
use Rattle.literal_rules.proofs.FieldLemmas.{ends_apart}
use Rattle.literal_rules.proofs.fields.is_named.Goals as goal

pub returns-then-not-end_alike : goal.returns-then-not-end_alike
returns-then-not-end_alike c =
    sym (ends_apart c.name_of-own.result.now c.args.name.now (sym c.end_alike.ensures ∙ c.if-not-end_alike.true)) ∙ ap (λ n. bytes_eq n c.args.name.now) c.name_of-own.ensures
