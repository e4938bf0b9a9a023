use Rattle.std.proofs.Common.{ℕ, Bool, List, ap, ◌∙◌, ◌++◌}
use Rattle.mark_walk.specs.Asks.{filled}
use Rattle.typed_marks.specs.Meanings.{Quiet}
use Rattle.typed_marks.specs.States.{so_far}
use Rattle.duplicate_cases.specs.Duplicates.{is_type_switch, placed_in}
use Rattle.duplicate_cases.specs.InCode.{duplicates_of}
use Rattle.duplicate_cases.proofs.nodes.add_switch.Goals as goal

pub returns : goal.returns
returns c =
    let placed = placed_in (filled Quiet (so_far c.args.s.now)) c.args.file in
    c.in_ok-add_duplicates.ensures
    ∙ (ap (λ (b : Bool). c.args.out.now.items ++ duplicates_of b placed c.args.file c.deref.result.now) c.is_type_switch.ensures
    ∙ ap (λ (l : List ℕ). c.args.out.now.items ++ duplicates_of (is_type_switch c.args.switch.now.kind) placed c.args.file l) (c.deref.ensures.value ∙ c.in_ok-list.ensures))
