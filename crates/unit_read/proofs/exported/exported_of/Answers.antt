use Rattle.std.proofs.Common.{Option, IfSome, sym, ap, ◌∙◌, length, subst}
use Rattle.package_faces.specs.declared.interface.Exported.{Exported}
use Rattle.type_model.specs.GoTypes.{types_of}
use Rattle.unit_read.specs.Exports.{uses_in, IsUseIn}
use Rattle.unit_read.specs.Subjects.{full_of}
use Rattle.unit_read.proofs.BareLemmas.{bare_exports}
use Rattle.unit_read.proofs.FaceLemmas.{uses_are, uses_within}
use Rattle.unit_read.proofs.exported.exported_of.Goals as goal

pub returns-clause-is : goal.returns-clause-is
returns-clause-is c =
    ap (uses_in (types_of c.args.s.now.env.now.types.now)) c.object_of.ensures ∙ (uses_are c.args.s.now c.requires c.args.name.now c.args.object ∙ sym (bare_exports (full_of c.args.s.now) c.args.name.now c.args.object))

pub returns-clause-within : goal.returns-clause-within
returns-clause-within c =
    subst (λ (o : Option Exported). IfSome o (IsUseIn (length c.args.s.now.env.now.types.now))) (sym c.object_of.ensures) (uses_within c.args.s.now c.requires c.args.name.now c.args.object)
