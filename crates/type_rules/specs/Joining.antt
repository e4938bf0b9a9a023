-- What an interface embeds, beside its other elements (Go 1.17, "Interface types"): "The method set of T is the union of the method sets of T's
-- explicitly declared methods and of T's embedded interfaces. A union of method sets contains the (exported and non-exported) methods of each
-- method set exactly once, and methods with the same names must have identical signatures."
use Rattle.std.specs.Prelude.{ℕ, zero, suc, nat_lt, ◌&&◌, ◌||◌, not, Bool, true, false, if◌then◌else◌, List, [], ◌∷◌, length, Option, slice_get}
use Rattle.std.specs.Option.{option_map_or}
use Rattle.std.specs.Str.{bytes_eq}
use Rattle.go_tree.specs.declared.tree.Node.{Node}
use Rattle.package_objects.specs.Declares.{gather, part, kind_at}
use Rattle.type_model.specs.GoTypes.{GoType}
use Rattle.type_model.specs.Parts.{GoMethod}
use Rattle.same_types.specs.Same.{same_signature}
use Rattle.mark_walk.specs.Asks.{done, bind}
use Rattle.typed_marks.specs.declared.item.Stage.TheVariants as s
use Rattle.typed_marks.specs.Meanings.{Known, Meaning}
use Rattle.unit_read.specs.Units.{Unit, nodes_at}
use Rattle.rule_words.specs.declared.read.How.TheVariants as h
use Rattle.rule_words.specs.declared.read.Read.{Read}
use Rattle.rule_words.specs.Asking.{Rule, parts_ask, under_ask}
use Rattle.rule_words.specs.Parts.{Part, part_at, read_as}
use Rattle.rule_words.specs.Words.{need_type, test}
use Rattle.typed_tree.specs.declared.rule.TheConstants.{DUPLICATE_MEMBER, EMBEDS_NO_INTERFACE}
use Rattle.rule_words.specs.Good.{known_told}
use Rattle.type_rules.specs.Interfaces.{is_interface, is_method, elem_at, methods_told}

-- ---- methods with the same names

abbrev pub any : {A : Type 0} → (A → Bool) → List A → Bool
any f [] = false
any f (x ∷ xs) = f x || any f xs

-- "Uniqueness of identifiers": a name that isn't exported is one of its package
abbrev pub same_names : GoMethod → GoMethod → Bool
same_names a b = bytes_eq a.name b.name && bytes_eq a.owner b.owner

-- they have one name, and their signatures aren't identical
abbrev pub differs : GoMethod → GoMethod → Bool
differs a b = same_names a b && not (same_signature a.of b.of)

abbrev pub differs_among : List GoMethod → GoMethod → Bool
differs_among others m = any (differs m) others

abbrev pub clash : List GoMethod → List GoMethod → Bool
clash others methods = any (differs_among others) methods

-- ---- the other elements

-- What is written comes before what is embedded, wherever it stands, and that comes in the order in which it stands: of two elements that don't go
-- together the later one is refused.
abbrev pub comes_before : List Node → ℕ → ℕ → ℕ → Bool
comes_before nodes i j n = is_method (kind_at nodes n) || nat_lt j i

abbrev pub other_reads : List Node → ℕ → ℕ → ℕ → List Read
other_reads nodes i j n = if comes_before nodes i j n then read_as h.TypeAndUnder n ∷ [] else []

abbrev pub nth_reads : List Node → Node → ℕ → ℕ → List Read
nth_reads nodes around i j = option_map_or (other_reads nodes i j) (part around j) []

-- what comes before the element of this number
abbrev pub others : List Node → Node → ℕ → List Read
others nodes around i = gather (nth_reads nodes around i) (length around.parts)

abbrev pub clash_at : Unit → ℕ → List GoMethod → Part → Read → Bool
clash_at u file methods p r = clash (elem_at u file p r.node) methods

abbrev pub nth_clash : Unit → ℕ → List GoMethod → List Read → List Part → ℕ → Bool
nth_clash u file methods reads ps k = option_map_or (clash_at u file methods (part_at ps k)) (slice_get reads k) false

-- with one of the first n
abbrev pub clash_among : Unit → ℕ → List GoMethod → List Read → List Part → ℕ → Bool
clash_among u file methods reads ps zero = false
clash_among u file methods reads ps (suc n) = clash_among u file methods reads ps n || nth_clash u file methods reads ps n

-- ---- the mark of what is embedded

abbrev pub joined : Unit → ℕ → List Read → Meaning → List GoMethod → List Part → Rule
joined u file reads m methods ps = test (not (clash_among u file methods reads ps (length reads))) DUPLICATE_MEMBER (done m)

abbrev pub after_others : Unit → ℕ → ℕ → List Read → Meaning → GoType → Rule
after_others u block file reads m under = bind (parts_ask u s.Placed block reads) (λ ps. joined u file reads m (methods_told under) ps)

abbrev pub elem_of : Unit → ℕ → ℕ → List Read → Meaning → GoType → Rule
elem_of u block file reads m under = test (is_interface under) EMBEDS_NO_INTERFACE (after_others u block file reads m under)

abbrev pub elem_with : Unit → ℕ → ℕ → List Read → Meaning → Option GoType → Rule
elem_with u block file reads m under = need_type under (elem_of u block file reads m)

abbrev pub elem_known : Unit → ℕ → ℕ → List Read → Meaning → Known → Rule
elem_known u block file reads m x = bind (under_ask u x.of) (λ under. elem_with u block file reads m under)

abbrev pub elem_by : Unit → ℕ → ℕ → List Read → Meaning → Rule
elem_by u block file reads m = option_map_or (elem_known u block file reads m) (known_told m) (done m)

-- E15, then E14, of a type name that is the element of this number of an interface, from the mark that it has as a type; what isn't good stays
abbrev pub element_rule : Unit → ℕ → ℕ → Node → ℕ → Meaning → Rule
element_rule u block file around i m = elem_by u block file (others (nodes_at u file) around i) m
