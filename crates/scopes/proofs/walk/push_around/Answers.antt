use Rattle.std.proofs.Common.{◌++◌, sym, ap, ◌∙◌}
use Rattle.scopes.specs.Regions.{handed_around}
use Rattle.scopes.specs.declared.scope.Handed.{Handed}
use Rattle.scopes.proofs.walk.push_around.Goals as goal

pub returns-in_ok-push_all_names_of-in-Switch : goal.returns-in_ok-push_all_names_of-in-Switch
returns-in_ok-push_all_names_of-in-Switch c = λ s e m f shows.
    c.in_ok-push_all_names_of-in-Switch.ensures m f shows ∙ ap (λ (h : Handed). c.args.names.now.items ++ handed_around h s m f) (sym c.in-Switch.is)
