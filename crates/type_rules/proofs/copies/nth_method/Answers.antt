use Rattle.std.proofs.Common.{Some, sym, ap, ◌∙◌}
use Rattle.std.proofs.lemmas.Option.{slice_get-get_or}
use Rattle.type_model.specs.declared.term.Method.{Method}
use Rattle.type_rules.proofs.copies.nth_method.Goals as goal

pub returns : goal.returns
returns c = slice_get-get_or c.args.methods.now c.args.i c.index-methods-i.result c.requires ∙ ap (λ (m : Method). Some m) (sym c.index-methods-i.is)
