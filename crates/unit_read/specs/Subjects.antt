-- What is kept of a package that has been read.
use Rattle.std.specs.Prelude.{◌≡◌, ℕ, Bool, false, List, [], Option, Some, option_and_then, option_map, slice_get, slice_index_or}
use Rattle.std.specs.Option.{option_map_or}
use Rattle.std.specs.Global.{Vec}
use Rattle.type_model.specs.declared.term.TypeName.{TypeName}
use Rattle.go_tree.specs.declared.tree.NodeRef.{NodeRef}
use Rattle.object_order.specs.Views.{group_in}
use Rattle.unit_read.specs.declared.subject.Subject.{Subject}
use Rattle.unit_read.specs.Entries.{entry}
use Rattle.unit_read.specs.Environments.{IsEnvironment, faces_in}
use Rattle.unit_read.specs.Imports.{lead_at, bare}
use Rattle.unit_read.specs.Index.{texts_of, found}
use Rattle.unit_read.specs.Passages.{passages}
use Rattle.unit_read.specs.Texts.{AreTexts}
use Rattle.unit_read.specs.Units.{Unit, object_at, place_at, spec_at, defined, type_name, type_name_at, named_by, copy_at}
use Rattle.unit_read.specs.Members.{is_repeat}
use Rattle.unit_read.specs.Methods.{methods_of, is_repeated_method}

-- what a table of rows, one for each file, has for a node
abbrev pub cell : {X : Type 0} → List (Vec (Option X)) → NodeRef → Option X
cell {X} rows at = option_and_then (λ (row : Vec (Option X)). option_and_then (λ (o : Option X). o) (slice_get row.items at.node)) (slice_get rows at.file)

-- what a table of flags, a row for each file, has for a node
abbrev pub flag : List (Vec Bool) → NodeRef → Bool
flag rows at = option_map_or (λ (row : Vec Bool). slice_index_or row.items at.node false) (slice_get rows at.file) false

-- the package of a subject, over its whole environment
abbrev pub full_of : Subject → Unit
full_of s = record { path = s.path.now; texts = texts_of s.texts.now; trees = s.trees.now; uses = s.uses.now; env = faces_in s.env.now; redeclared = flag s.redeclared.items; cyclic = flag s.cyclic.items; circular = flag s.circular.items; owner = cell s.owners.items }

-- the package as its rules read it
abbrev pub unit_of : Subject → Unit
unit_of s = bare (full_of s)

-- the name of a defined type of a package that is declared at package level
abbrev pub top_name : Unit → List ℕ → TypeName
top_name u name = record { «package» = u.path; name = name; local = 0 }

-- the methods in the list of a number
abbrev pub kept_by : List (Vec NodeRef) → Option ℕ → List NodeRef
kept_by groups number = option_map_or (group_in groups) number []

-- the methods that are kept for a type
abbrev pub kept_methods : List (Vec NodeRef) → List (List (ℕ × ℕ)) → NodeRef → List NodeRef
kept_methods groups kin t = kept_by groups (entry kin t)

-- each row has what is said of its nodes, and names are texts
pub record IsRead (s : Subject) : Type 0 where
  pub blocks : s.passages.items ≡ passages s.trees.now
  pub objects : (at : NodeRef) → cell s.objects.items at ≡ object_at (unit_of s) at
  pub places : (at : NodeRef) → cell s.places.items at ≡ place_at (unit_of s) at
  pub specs : (at : NodeRef) → entry s.specs.items at ≡ spec_at (unit_of s) at
  pub env : IsEnvironment s.env.now
  pub leads : (at : NodeRef) → entry s.leads.items at ≡ lead_at (full_of s) at
  pub types : s.defined.items ≡ defined (unit_of s)
  pub locals : (k : ℕ) (at : NodeRef) → slice_get (defined (unit_of s)) k ≡ Some at → entry s.locals.items at ≡ Some (type_name (unit_of s) at).local
  pub inside : (at : NodeRef) → entry s.locals.items at ≡ option_map (λ (n : TypeName). n.local) (type_name_at (unit_of s) at)
  pub repeats : (at : NodeRef) → flag s.repeats.items at ≡ is_repeat (unit_of s) at
  pub methods : (t : NodeRef) → kept_methods s.groups.items s.kin.items t ≡ methods_of (unit_of s) t
  pub repeated : (at : NodeRef) → flag s.repeated.items at ≡ is_repeated_method (unit_of s) at
  pub copies : (at : NodeRef) → entry s.copies.items at ≡ copy_at (unit_of s) at
  pub named : (q : List ℕ) → found s.named q ≡ named_by (unit_of s) (top_name (unit_of s) q) (defined (unit_of s))
  pub texts : AreTexts s.path.now (texts_of s.texts.now) s.trees.now
