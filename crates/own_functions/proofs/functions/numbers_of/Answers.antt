use Rattle.std.proofs.Common.{ap, ◌∙◌}
use Rattle.go_tree.specs.Lexeme.{place_of}
use Rattle.unit_read.specs.Index.{texts_of}
use Rattle.own_functions.proofs.functions.numbers_of.Goals as goal

pub returns : goal.returns
returns c = λ q. c.in_ok-numbers.ensures q ∙ ap (λ xs. place_of xs q) (ap texts_of c.deref.ensures.value ∙ c.in_ok-names.ensures)
