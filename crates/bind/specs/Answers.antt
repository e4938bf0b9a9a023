-- What is known of the files that are read, and what a node denotes by it.
use Rattle.std.specs.Prelude.{ℕ, zero, suc, ◌<◌, ◌≤◌, ◌^◌, ◌++◌, [], ◌∷◌, ◌≡◌, nat_lt, cond, List, length, Option, Some, None, slice_get, get_or, option_map, option_and_then, bytes_eq, codes, false}
use Rattle.std.specs.Global.{Vec}
use Rattle.go_tree.specs.Arena.{arena_of}
use Rattle.go_tree.specs.Forest.{Forest}
use Rattle.go_tree.specs.Pieces.{Spelled}
use Rattle.go_tree.specs.declared.bindings.Object.{Object}
use Rattle.go_tree.specs.declared.bindings.Object.TheVariants.{Universe, Import, Local, Package}
use Rattle.go_tree.specs.declared.tree.FileTree.{FileTree}
use Rattle.go_tree.specs.declared.tree.NodeRef.{NodeRef}
use Rattle.scopes.specs.Regions.{file_names}
use Rattle.scopes.specs.declared.scope.Named.{Named}
use Rattle.file_uses.specs.Numbers.{name_in}
use Rattle.file_uses.specs.Read.{AreLocals}
use Rattle.file_uses.specs.declared.file.Locals.{Locals}
use Rattle.bind.specs.Package.{ref}
use Rattle.bind.specs.Sources.{Source, AreFiles}
use Rattle.bind.specs.declared.file.File.{File}

-- each tree is spelled by the tokens of its source
pub record AreSpelled (files : List FileTree) (sources : List (List ℕ × List ℕ)) : Type 0 where
  pub size : length files ≡ length sources
  pub spelled : (i : ℕ) (t : FileTree) (e : List ℕ × List ℕ) → slice_get files i ≡ Some t → slice_get sources i ≡ Some e → Spelled t.tokens e.1 t

-- each tree has at most 2^32 nodes
abbrev pub AreSmall : List FileTree → Type 0
AreSmall files = (i : ℕ) (t : FileTree) → slice_get files i ≡ Some t → length t.nodes ≤ 2 ^ 32

abbrev pub AreFit : List File → Type 0
AreFit fs = (i : ℕ) (f : File) → slice_get fs i ≡ Some f → length f.tree.now.nodes ≤ 2 ^ 32

-- the file was read
pub record IsRead (f : File) (s : Source) : Type 0 where
  pub path : f.path.now ≡ s.path
  pub bytes : f.bytes.now ≡ s.bytes
  pub tree : f.tree.now ≡ s.tree
  pub locals : AreLocals s.bytes s.tree s.forest f.locals
  pub fit : length s.tree.nodes ≤ 2 ^ 32

-- the first few files were read, and no others
pub record AreReadTo (n : ℕ) (fs : List File) (ss : List Source) : Type 0 where
  pub size : length fs ≡ n
  pub each : (i : ℕ) (s : Source) → i < n → slice_get ss i ≡ Some s → (f : File) × (slice_get fs i ≡ Some f) × IsRead f s

pub record AreRead (fs : List File) (ss : List Source) : Type 0 where
  pub size : length fs ≡ length ss
  pub each : (i : ℕ) (s : Source) → slice_get ss i ≡ Some s → (f : File) × (slice_get fs i ≡ Some f) × IsRead f s

-- each file has the names that the trees of its nodes declare
abbrev pub AreNamed : List FileTree → List File → Type 0
AreNamed files fs = (i : ℕ) (t : FileTree) (f : File) → slice_get files i ≡ Some t → slice_get fs i ≡ Some f → (g : Forest) → arena_of t.tokens g ≡ t → f.locals.names.items ≡ file_names g

-- the names of each file, in the order in which their regions begin
pub record HaveNames (files : List FileTree) (rows : List (Vec Named)) : Type 0 where
  pub size : length rows ≡ length files
  pub each : (i : ℕ) (t : FileTree) (row : Vec Named) → slice_get files i ≡ Some t → slice_get rows i ≡ Some row → (g : Forest) → arena_of t.tokens g ≡ t → row.items ≡ file_names g

-- the first few files of a call were read
pub record AreReadOf (files : List FileTree) (sources : List (List ℕ × List ℕ)) (n : ℕ) (fs : List File) : Type 0 where
  pub count : length fs ≡ n
  pub fit : AreFit fs
  pub named : AreNamed files fs
  pub read : (ss : List Source) → AreFiles files sources ss → AreReadTo n fs ss

-- ---- what a node denotes

abbrev pub unless_blank : Option (List ℕ) → Option (List ℕ)
unless_blank None = None
unless_blank (Some name) = cond (bytes_eq name (codes "_")) None (Some name)

-- the name that the node uses, if it is a use
abbrev pub used_name : File → ℕ → Option (List ℕ)
used_name f n = cond (get_or f.locals.uses.items n false) (unless_blank (name_in f.bytes.now f.tree.now n)) None

-- the node of the declaration within a function that a name denotes
abbrev pub local_node : Locals → ℕ → Option ℕ
local_node l n = option_and_then (λ k. option_map (λ (d : Named). d.node) (slice_get l.names.items k)) (get_or l.answers.items n None)

abbrev pub narrow_byte : ℕ → ℕ
narrow_byte n = cond (nat_lt n 256) n 0

-- what a name denotes that isn't declared within the function
abbrev pub outside : Option NodeRef → Option NodeRef → Option ℕ → Option Object
outside (Some n) i u = Some (Package n)
outside None (Some n) u = Some (Import n)
outside None None (Some k) = Some (Universe (narrow_byte k))
outside None None None = None

abbrev pub chosen : Option NodeRef → Option Object → Option Object
chosen (Some n) other = Some (Local n)
chosen None other = other

-- the tables of a file's names
pub record Tables : Type 0 where
  pub top_names : List ℕ → Option NodeRef
  pub imports : List ℕ → Option NodeRef
  pub universe : List ℕ → Option ℕ

abbrev pub named_answer : File → ℕ → Tables → ℕ → Option (List ℕ) → Option Object
named_answer f number t n None = None
named_answer f number t n (Some q) = chosen (option_map (ref number) (local_node f.locals n)) (outside (t.top_names q) (t.imports q) (t.universe q))

abbrev pub answer_of : File → ℕ → Tables → ℕ → Option Object
answer_of f number t n = named_answer f number t n (used_name f n)

-- the use with its object, where there is one
abbrev pub entry : NodeRef → Option Object → List (NodeRef × Object)
entry at None = []
entry at (Some o) = (at, o) ∷ []

-- the uses among the first few nodes of a file
abbrev pub uses_before : File → ℕ → Tables → ℕ → List (NodeRef × Object)
uses_before f number t zero = []
uses_before f number t (suc n) = uses_before f number t n ++ entry (ref number n) (answer_of f number t n)
