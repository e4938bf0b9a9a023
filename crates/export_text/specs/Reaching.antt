-- The export text of a package: the text of what it exports.
use Rattle.std.specs.Prelude.{ℕ, List, None}
use Rattle.type_model.specs.Declarations.{Declarations}
use Rattle.package_faces.specs.Faces.{ObjectOut, Face}
use Rattle.package_faces.specs.Reaching.{IsExportOf}
use Rattle.export_text.specs.Faces.{IsFaceText}

-- nothing is followed into what it is declared with: a type leads to its parts alone
abbrev pub nothing_declared : Declarations
nothing_declared name = None

-- the bytes are the export text of the package
pub record IsExportText (ds : Declarations) (path name : List ℕ) (objects : List ObjectOut) (bytes : List ℕ) : Type 0 where
  pub face : Face
  pub export : IsExportOf ds path name objects face
  pub text : IsFaceText face bytes
