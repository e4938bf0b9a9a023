-- Where the diagnostics of a package stand.
use Rattle.std.specs.Prelude.{◌≡◌, ℕ, ◌<◌, ◌≤◌, true, List, length, Option, Some, None, slice_get}
use Rattle.fix_apply.specs.declared.edits.Fix.{Fix}
use Rattle.fix_apply.specs.Rewriting.{LieIn, AreApart}
use Rattle.go_tree.specs.declared.tree.Node.{Node}
use Rattle.package_objects.specs.Declares.{part}
use Rattle.unit_read.specs.Units.{Unit, text_in, nodes_at}
use Rattle.analysis_core.specs.declared.diagnostic.Diagnostic.{Diagnostic}
use Rattle.vet_words.specs.Diagnosing.{start_of, end_of}
use Rattle.vet_words.specs.Forms.{is_plain_call}
use Rattle.vet_simple.specs.Assigning.{is_assign}

-- Tokens lie in the text of their file; an assignment begins before it ends; and so does what a call has as its first argument, which isn't empty.
pub record NodesStand (u : Unit) : Type 0 where
  pub begin : (f i : ℕ) → start_of u f i ≤ length (text_in u f)
  pub finish : (f i : ℕ) → end_of u f i ≤ length (text_in u f)
  pub assigned : (f n : ℕ) (node : Node) → slice_get (nodes_at u f) n ≡ Some node → is_assign node.kind ≡ true → start_of u f node.first ≤ end_of u f node.last
  pub passed : (f n m : ℕ) (node other : Node) → slice_get (nodes_at u f) n ≡ Some node → is_plain_call node.kind ≡ true → part node 1 ≡ Some m → slice_get (nodes_at u f) m ≡ Some other
      → start_of u f other.first < end_of u f other.last

-- a fix of this file, whose edits lie in these bytes, no two overlapping
pub record IsFixOf (file : ℕ) (bytes : List ℕ) (fix : Fix) : Type 0 where
  pub file_is : fix.file ≡ file
  pub lie : LieIn bytes fix.edits
  pub apart : AreApart fix.edits

abbrev pub CanBeMade : ℕ → List ℕ → Option Fix → Type 0
CanBeMade file bytes None = Prim.Unit {0}
CanBeMade file bytes (Some fix) = IsFixOf file bytes fix

-- of this analyzer, in a file of the package, at its end at most; and where it has a fix, that can be made there
pub record Stands (u : Unit) (number : ℕ) (d : Diagnostic) : Type 0 where
  pub analyzer : d.analyzer ≡ number
  pub file : d.place.file < length u.trees
  pub offset : d.place.offset ≤ length (text_in u d.place.file)
  pub fix : CanBeMade d.place.file (text_in u d.place.file) d.fix
