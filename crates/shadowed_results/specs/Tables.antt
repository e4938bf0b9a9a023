-- The names of results by function, as they are kept.
use Rattle.std.specs.Prelude.{ℕ, ◌<◌, ◌≡◌, ◌⊎◌, ◌&&◌, List, Option, Some, None, bytes_eq, nat_eq, option_and_then, cond, if◌then◌else◌, get_or, codes}
use denote.Ref.{Bor}
use Rattle.std.specs.HashMap.{HashMap, get_by}
use Rattle.go_tree.specs.declared.tree.FileTree.{FileTree}
use Rattle.file_uses.specs.Numbers.{name_in}
use Rattle.shadowed_results.specs.declared.results.Stage.{Stage}
use Rattle.shadowed_results.specs.declared.results.Stage.TheVariants as s
use Rattle.shadowed_results.specs.Stages.{is_named}

-- the result that is kept for a function and a name
abbrev pub found : {S : Type 0} → HashMap (ℕ × Bor (List ℕ)) ℕ S → ℕ → List ℕ → Option ℕ
found table function name = get_by (λ key. nat_eq function key.0 && bytes_eq name key.1.now) table

abbrev pub unless_blank : Option (List ℕ) → Option (List ℕ)
unless_blank None = None
unless_blank (Some name) = if bytes_eq name (codes "_") then None else Some name

-- the name of a result that a node is
abbrev pub result_name : List ℕ → FileTree → List Stage → ℕ → Option (List ℕ)
result_name bytes tree stages n = if is_named (get_or stages n s.Outside) then unless_blank (name_in bytes tree n) else None

-- n is a name in the function f
abbrev pub IsOf : (ℕ → Option (List ℕ)) → (ℕ → Option ℕ) → ℕ → ℕ → List ℕ → Type 0
IsOf name function n f q = (name n ≡ Some q) × (function n ≡ Some f)

-- If n is one, it is kept for its function and its name. All else stays.
abbrev pub Keeps : (ℕ → Option (List ℕ)) → (ℕ → Option ℕ) → ℕ → (ℕ → List ℕ → Option ℕ) → (ℕ → List ℕ → Option ℕ) → Type 0
Keeps name function n old new = (f : ℕ) (q : List ℕ) → (IsOf name function n f q × (new f q ≡ Some n)) ⊎ ((IsOf name function n f q → ⊥) × (new f q ≡ old f q))

-- one of the nodes below i, or none where there is none
abbrev pub KeptBelow : (ℕ → Option (List ℕ)) → (ℕ → Option ℕ) → ℕ → ℕ → List ℕ → Option ℕ → Type 0
KeptBelow name function i f q None = (n : ℕ) → n < i → IsOf name function n f q → ⊥
KeptBelow name function i f q (Some n) = (n < i) × IsOf name function n f q

abbrev pub AreKept : (ℕ → Option (List ℕ)) → (ℕ → Option ℕ) → ℕ → (ℕ → List ℕ → Option ℕ) → Type 0
AreKept name function i table = (f : ℕ) (q : List ℕ) → KeptBelow name function i f q (table f q)

abbrev pub of_nodes : List (Option ℕ) → ℕ → Option ℕ
of_nodes functions n = get_or functions n None
