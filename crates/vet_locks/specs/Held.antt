-- What may be told: a suspect whose type is a struct or an array, of which alone there are lock types.
use Rattle.std.specs.Prelude.{◌≡◌, ◌<◌, ℕ, true, length, Some, slice_get}
use Rattle.go_tree.specs.declared.tree.Node.{Node}
use Rattle.type_model.specs.GoTypes.{GoType}
use Rattle.typed_marks.specs.declared.item.Item.{Item}
use Rattle.typed_marks.specs.Meanings.{Meaning}
use Rattle.unit_read.specs.Units.{Unit, nodes_at}
use Rattle.selected_methods.specs.Selected.{declared_by}
use Rattle.lock_types.specs.InTable.{holds_type}
use Rattle.vet_locks.specs.Suspects.{count_of, suspect_at}
use Rattle.vet_locks.specs.CopyLocks.{suspect_type}
use Rattle.vet_locks.specs.declared.suspected.Suspect.{Suspect}

-- its type may be a lock type
abbrev pub MayLock : Unit → (Item → Meaning) → ℕ → Suspect → Type 0
MayLock u marks f s = (of : GoType) × (suspect_type marks f s ≡ Some of) × (holds_type (declared_by u marks) of ≡ true)

-- the i-th of a node is there, and may be told
abbrev pub MayTellNth : Unit → (Item → Meaning) → ℕ → Node → ℕ → Type 0
MayTellNth u marks f node i = (s : Suspect) × (suspect_at u f node i ≡ Some s) × MayLock u marks f s

-- some of the first few numbers is so
abbrev pub AnyBelow : ℕ → (ℕ → Type 0) → Type 0
AnyBelow few Nth = (k : ℕ) × (k < few) × Nth k

abbrev pub MayTellAt : Unit → (Item → Meaning) → ℕ → Node → Type 0
MayTellAt u marks f node = AnyBelow (count_of u f node) (MayTellNth u marks f node)

-- something of the node of a number
abbrev pub MayTellNode : Unit → (Item → Meaning) → ℕ → ℕ → Type 0
MayTellNode u marks f n = (node : Node) × (slice_get (nodes_at u f) n ≡ Some node) × MayTellAt u marks f node

-- something of a file
abbrev pub MayTellIn : Unit → (Item → Meaning) → ℕ → Type 0
MayTellIn u marks f = AnyBelow (length (nodes_at u f)) (MayTellNode u marks f)

-- Something of a package may be told.
abbrev pub MayTell : Unit → (Item → Meaning) → Type 0
MayTell u marks = AnyBelow (length u.trees) (MayTellIn u marks)
