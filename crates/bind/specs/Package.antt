-- The names that files declare outside functions, in a list.
use Rattle.std.specs.Prelude.{ℕ, zero, suc, ◌==◌, ◌++◌, nat_lt, cond, List, [], ◌∷◌, length, Option, Some, None, slice_get, bytes_eq, codes}
use Rattle.go_tree.specs.declared.tree.NodeRef.{NodeRef}
use Rattle.scopes.specs.declared.scope.Named.{Named}
use Rattle.file_uses.specs.Numbers.{name_in}
use Rattle.bind.specs.declared.file.File.{File}

abbrev pub narrow : ℕ → ℕ
narrow n = cond (nat_lt n 4294967296) n 0

-- a node of a file
abbrev pub ref : ℕ → ℕ → NodeRef
ref file node = record { file = file; node = narrow node }

abbrev pub unless_init : Option (List ℕ) → Option (List ℕ)
unless_init None = None
unless_init (Some name) = cond (bytes_eq name (codes "init")) None (Some name)

abbrev pub top_name : File → Named → Option (List ℕ)
top_name f d = cond (d.end == length f.tree.now.nodes) (unless_init (name_in f.bytes.now f.tree.now d.node)) None

-- the name with a node, where there is one
abbrev pub listed : Option (List ℕ) → NodeRef → List (List ℕ × NodeRef)
listed None at = []
listed (Some name) at = (name, at) ∷ []

abbrev pub top_of : File → ℕ → Named → List (List ℕ × NodeRef)
top_of f number d = listed (top_name f d) (ref number d.node)

abbrev pub tops_of : File → ℕ → List Named → List (List ℕ × NodeRef)
tops_of f number [] = []
tops_of f number (d ∷ ds) = top_of f number d ++ tops_of f number ds

abbrev pub tops_at : Option File → ℕ → List (List ℕ × NodeRef)
tops_at (Some f) number = tops_of f number f.locals.names.items
tops_at None number = []

-- the names of the first few files
abbrev pub tops_before : List File → ℕ → List (List ℕ × NodeRef)
tops_before fs zero = []
tops_before fs (suc i) = tops_before fs i ++ tops_at (slice_get fs i) (narrow i)
