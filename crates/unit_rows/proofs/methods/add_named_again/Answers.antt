use Rattle.std.proofs.Common.{◌++◌, ℕ, List, ap, ◌∙◌}
use Rattle.unit_read.specs.Index.{texts_of}
use Rattle.unit_read.specs.Members.{all_again}
use Rattle.unit_rows.proofs.methods.add_named_again.Goals as goal

pub returns : goal.returns
returns c =
    c.in_ok-add_again.ensures ∙ ap (λ (names : List (List ℕ)). c.args.out.now.items ++ all_again names c.args.methods.now) (ap texts_of c.deref.ensures.value ∙ c.in_ok-names.ensures)
