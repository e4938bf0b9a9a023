use Rattle.std.proofs.Common.{ap, ◌∙◌}
use Rattle.type_model.specs.Declarations.{Declarations}
use Rattle.rule_words.specs.Scenes.{type_in}
use Rattle.selected_methods.proofs.ChosenLemmas.{table_declares}
use Rattle.lock_types.specs.InTable.{holds_type}
use Rattle.vet_locks.proofs.held.may_lock.Goals as goal

pub returns : goal.returns
returns c =
    let p = c.args.p.now in
    c.may_be_lock.ensures.is ∙ ap (λ (ds : Declarations). holds_type ds (type_in p.state.now c.args.id)) (table_declares p.subject.now p.state.now c.requires.pass.scene)
