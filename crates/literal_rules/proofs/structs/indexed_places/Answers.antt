use Rattle.std.proofs.Common.{List, ℕ, ap, ◌∙◌}
use denote.Ref.{Bor}
use Rattle.unit_read.specs.Index.{texts_of}
use Rattle.go_tree.specs.Lexeme.{place_of}
use Rattle.literal_rules.proofs.FieldLemmas.{names_of_fields}
use Rattle.literal_rules.proofs.structs.indexed_places.Goals as goal

pub all_places-requires : goal.all_places-requires
all_places-requires c =
    λ q. c.in_ok-names.ensures q ∙ (ap (λ (l : List (Bor (List ℕ))). place_of (texts_of l) q) c.deref.ensures.value
    ∙ ap (λ (l : List (List ℕ)). place_of l q) (c.in_ok-list.ensures ∙ names_of_fields c.args.s.now c.args.fields.now))
