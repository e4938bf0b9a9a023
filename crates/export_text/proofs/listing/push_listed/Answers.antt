use Rattle.std.proofs.Common.{None, refl, subst}
use Rattle.std.specs.Prelude.{Option}
use Rattle.package_faces.specs.declared.interface.ExportedType.{ExportedType}
use Rattle.export_text.specs.Listing.{IsListed}
use Rattle.export_text.proofs.listing.push_listed.Goals as goal

pub returns-in-None-clause-is : goal.returns-in-None-clause-is
returns-in-None-clause-is c =
    (None, subst (λ (o : Option ExportedType). IsListed c.args.table.now c.args.path.now c.args.id o) c.in-None.is c.in_ok-own.ensures.is, refl)
