use Rattle.std.proofs.Common.{ap, ◌∙◌}
use Rattle.go_tree.specs.Lexeme.{place_of}
use Rattle.unit_read.specs.Index.{texts_of}
use Rattle.handed_facts.proofs.lookup.places_of.Goals as goal

pub returns : goal.returns
returns c = λ q. c.in_ok-places.ensures q ∙ ap (λ xs. place_of xs q) (ap texts_of c.deref.ensures.value ∙ c.in_ok-paths.ensures)
