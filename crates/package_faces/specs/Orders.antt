-- The order of names, and of names with their packages, in byte order.
use Rattle.std.specs.Prelude.{ℕ, Bool, true, false, List, [], ◌∷◌, if◌then◌else◌}
use Rattle.std.specs.Ordering.{is_lt, nat_cmp, ordering_then}
use Rattle.std.specs.Cmp.Lexicographic.{slice_cmp}
use Rattle.type_model.specs.Parts.{GoMethod}
use Rattle.package_faces.specs.Faces.{ObjectOut, DefinedOut, Face}

abbrev pub comes_before : List ℕ → List ℕ → Bool
comes_before name other = is_lt (slice_cmp nat_cmp name other)

-- by the names, and by the packages where the names are one
abbrev pub stands_before : List ℕ → List ℕ → List ℕ → List ℕ → Bool
stands_before name owner other its_owner = is_lt (ordering_then (slice_cmp nat_cmp name other) (slice_cmp nat_cmp owner its_owner))

-- each stands before the next
abbrev pub rises_after : {A : Type 0} → (A → A → Bool) → A → List A → Bool
rises_after before x [] = true
rises_after before x (y ∷ ys) = if before x y then rises_after before y ys else false

abbrev pub rises : {A : Type 0} → (A → A → Bool) → List A → Bool
rises before [] = true
rises before (x ∷ xs) = rises_after before x xs

abbrev pub object_before : ObjectOut → ObjectOut → Bool
object_before a b = comes_before a.name b.name

abbrev pub defined_before : DefinedOut → DefinedOut → Bool
defined_before a b = comes_before a.name b.name

abbrev pub method_before : GoMethod → GoMethod → Bool
method_before a b = stands_before a.name a.owner b.name b.owner
