-- What is kept from load to load: of each path the text that was read last, and its interface over one table.
use Rattle.std.specs.Prelude.{◌≡◌, ℕ, List, Some, IfSome, Option, String}
use Rattle.std.specs.HashMap.{HashMap, get_by_text}
use Rattle.export_text.specs.Faces.{IsFaceText}
use Rattle.package_faces.specs.Interfaces.{face_of, IsInterfaceIn}
use Rattle.type_model.specs.declared.table.TypeTable.{TypeTable}
use Rattle.type_model.specs.Tables.{count, types_in}
use Rattle.typed_tree.specs.Basics.{HasBasics}
use Rattle.go_kit.specs.declared.kept.Known.{Known}
use Rattle.go_kit.specs.declared.kept.Kept.{Kept}

-- the interface stands in the table and is what the text spells
pub record IsKnown (t : TypeTable) (k : Known) : Type 0 where
  pub within : IsInterfaceIn (count t) (types_in t) k.face
  pub spelled : IsFaceText (face_of (types_in t) k.face) k.text

-- so are all
pub record AreKnown {A S : Type 0} (t : TypeTable) (known : HashMap (String A) Known S) : Type 0 where
  pub each : (path : List ℕ) (k : Known) → get_by_text known path ≡ Some k → IsKnown t k

-- a table with the predeclared types, and what is known over it
pub record IsKept (kept : Kept) : Type 0 where
  pub basics : HasBasics kept.table
  pub known : AreKnown kept.table kept.known

-- nothing is kept, or such a table
abbrev pub IsStore : Option Kept → Type 0
IsStore kept = IfSome kept IsKept
