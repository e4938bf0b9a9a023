-- The interface of a package as it is gathered: it is what the package exports, and its lists are in order.
use Rattle.std.specs.Prelude.{ℕ, IsTrue, List}
use Rattle.std.specs.List.{Contains}
use Rattle.std.specs.List.Sorted.{IsSortedBy}
use Rattle.type_model.specs.GoTypes.{GoType}
use Rattle.type_model.specs.Declarations.{Declarations}
use Rattle.package_faces.specs.Orders.{rises, defined_before, method_before}
use Rattle.package_faces.specs.Faces.{ObjectOut, DefinedOut, Face}
use Rattle.export_text.specs.Listing.{CanBeListed}
use Rattle.package_faces.specs.Reaching.{Reaches, roots, IsExportOf}

-- each defined type of the package that is reached is of package level and declared
pub record CanBeExported (ds : Declarations) (path : List ℕ) (objects : List ObjectOut) : Type 0 where
  pub each : (of : GoType) → Reaches ds path (roots path objects) of → CanBeListed ds path of

pub record IsGathered (ds : Declarations) (path name : List ℕ) (objects : List ObjectOut) (f : Face) : Type 0 where
  pub export : IsExportOf ds path name objects f
  pub rise : IsTrue (rises defined_before f.types)
  pub sorted : (d : DefinedOut) → Contains f.types d → IsSortedBy method_before d.methods
