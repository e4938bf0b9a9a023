use Rattle.std.proofs.Common.{ℕ, List, sym, ap, ◌∙◌}
use Rattle.go_tree.specs.Lexeme.{place_of}
use Rattle.unit_read.specs.Index.{texts_of}
use Rattle.unit_read.proofs.FaceLemmas.{paths_are}
use Rattle.unit_read.proofs.environment.path_index.Goals as goal

pub returns : goal.returns
returns c = λ types q.
    c.in_ok-paths.ensures q
    ∙ ap (λ (xs : List (List ℕ)). place_of xs q) (ap texts_of c.deref.ensures.value ∙ (c.in_ok-list.ensures ∙ sym (paths_are types c.args.interfaces.now)))
