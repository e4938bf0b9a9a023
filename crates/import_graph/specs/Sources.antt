-- Which files of a tree are source files, and of which package each is.
use Rattle.std.specs.Prelude.{ℕ, List, [], ◌∷◌, ◌++◌, length, take, drop, ◌-◌, codes, Bool, not, ◌&&◌, ◌||◌, ◌==◌, if◌then◌else◌, bytes_eq, nat_eq, nat_le}
use Rattle.std.specs.List.{list_all, list_any, starts_with, ends_with}
use Rattle.gv_base.specs.Paths.{slash}

abbrev pub is_slash : ℕ → Bool
is_slash b = b == slash

-- a byte in front of the first of some segments
abbrev pub onto_first : ℕ → List (List ℕ) → List (List ℕ)
onto_first b [] = (b ∷ []) ∷ []
onto_first b (segment ∷ segments) = (b ∷ segment) ∷ segments

-- what stands between the slashes of a path
abbrev pub segments_of : List ℕ → List (List ℕ)
segments_of [] = [] ∷ []
segments_of (b ∷ bs) = if is_slash b then [] ∷ segments_of bs else onto_first b (segments_of bs)

-- what stands up to the last slash of a path
abbrev pub directory_of : List ℕ → List ℕ
directory_of [] = []
directory_of (b ∷ bs) = if list_any is_slash (b ∷ bs) then b ∷ directory_of bs else []

-- a segment that begins with `_` or `.`, or is `testdata` or `vendor`, hides what stands in it
abbrev pub is_plain : List ℕ → Bool
is_plain segment =
    not (starts_with nat_eq segment (codes "_") || starts_with nat_eq segment (codes ".")
    || bytes_eq segment (codes "testdata") || bytes_eq segment (codes "vendor"))

-- A source file's path ends in `.go` and not in `_test.go`, and nothing in it hides it. (A last segment that
-- ends in `.go` is neither `testdata` nor `vendor`.)
abbrev pub is_source : List ℕ → Bool
is_source path =
    ends_with nat_eq path (codes ".go") && not (ends_with nat_eq path (codes "_test.go")) && list_all is_plain (segments_of path)

-- The files of one directory are one package. A directory is written with the slash at its end, the root as nothing.

-- a directory without the slash at its end
abbrev pub bare : List ℕ → List ℕ
bare dir = take (length dir - 1) dir

-- what stands in a directory of `std` is a stub
abbrev pub is_stub : List ℕ → Bool
is_stub dir = starts_with nat_eq dir (codes "std/") && nat_le 6 (length dir)

-- the module's package: the module path, and for all but the root a slash and the directory
abbrev pub module_package : List ℕ → List ℕ → List ℕ
module_package root dir = if length dir == 0 then root else root ++ slash ∷ bare dir

-- the package of a directory: of `std/d` it is `d`
abbrev pub package_of : List ℕ → List ℕ → List ℕ
package_of root dir = if is_stub dir then bare (drop 4 dir) else module_package root dir
