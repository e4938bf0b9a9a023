use Rattle.std.proofs.Common.{Option, ℕ, is_some, slice_get, sym, ap, ◌∙◌}
use Rattle.std.specs.Prelude.{option_and_then}
use Rattle.fact_codec.specs.Tables.{fact_of}
use Rattle.handed_facts.proofs.lookup.Handed.has.Goals as goal

pub returns-in-Some : goal.returns-in-Some
returns-in-Some g c =
    let tables = c.args.self.now.tables.items in
    c.has_at.ensures ∙ ap (λ (o : Option ℕ). is_some (option_and_then (λ t. fact_of t c.args.name.now) (option_and_then (slice_get tables) o))) (sym c.in-Some.is ∙ (c.find.ensures ∙ c.requires.places c.args.path.now))

pub returns-in-None : goal.returns-in-None
returns-in-None g c =
    let tables = c.args.self.now.tables.items in
    ap (λ (o : Option ℕ). is_some (option_and_then (λ t. fact_of t c.args.name.now) (option_and_then (slice_get tables) o))) (sym c.in-None.is ∙ (c.find.ensures ∙ c.requires.places c.args.path.now))
