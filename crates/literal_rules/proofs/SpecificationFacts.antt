-- Examples of the specification (Go 1.17, "Composite literals"), by the definitions of this crate.
use Rattle.std.proofs.Common.{◌≡◌, ℕ, Bool, true, false, nat_eq, List, [], ◌∷◌, length, Option, Some, None, codes, refl, pos, negsuc}
use Rattle.gv_base.specs.declared.constant.Const.{Const}
use Rattle.gv_base.specs.declared.constant.Const.TheVariants as const
use Rattle.gv_base.specs.declared.constant.Kind.TheVariants as kind
use Rattle.type_model.specs.GoTypes.{GoType, BasicType, ArrayOf, SliceOf, MapOf, PointerTo}
use Rattle.type_model.specs.Parts.{GoField}
use Rattle.typed_tree.specs.declared.mark.Mode.TheVariants as mode
use Rattle.typed_marks.specs.Meanings.{Meaning, Right}
use Rattle.typed_tree.specs.declared.rule.TheConstants.{DUPLICATE_KEY, BAD_INDEX_KEY, INDEX_OUT_OF_RANGE, MISSING_KEY, UNKNOWN_FIELD, WRONG_NUMBER_OF_FIELDS, IMPLICIT_FIELD_NOT_EXPORTED}
use Rattle.literal_rules.specs.Again.{has_again}
use Rattle.literal_rules.specs.Rows.{positions, row_fault, end_of}
use Rattle.literal_rules.specs.Maps.{map_fault}
use Rattle.literal_rules.specs.Structs.{field_place, named_fault, unkeyed_fault}
use Rattle.literal_rules.specs.Shapes.{shape_of, Row, Other}

-- a constant as a key
abbrev key : GoType → Const → Option Meaning
key of c = Some (Right (record { mode = mode.Constant; of = of; value = Some c; last = of }))

abbrev int_key : ℕ → Option Meaning
int_key n = key (BasicType kind.Int) (const.Int (pos n))

-- filter := [10]float32{-1, 4: -0.1, -0.1, 9: -1}: "the array [10]float32{-1, 0, 0, 0, -0.1, -0.1, 0, 0, 0, -1}"
abbrev filter : List (Option Meaning)
filter = None ∷ int_key 4 ∷ None ∷ int_key 9 ∷ []

a_filter_has_its_elements_there : positions filter ≡ Some 0 ∷ Some 4 ∷ Some 5 ∷ Some 9 ∷ []
a_filter_has_its_elements_there = refl

a_filter_is_right : row_fault 10 (positions filter) ≡ None
a_filter_is_right = refl

of_nine_it_lies_beyond : row_fault 9 (positions filter) ≡ Some INDEX_OUT_OF_RANGE
of_nine_it_lies_beyond = refl

-- days := [...]string{"Sat", "Sun"}: "len(days) == 2"
days_are_two : end_of (positions (None ∷ None ∷ [])) ≡ 2
days_are_two = refl

-- vowels := [128]bool{'a': true, 'e': true, 'i': true, 'o': true, 'u': true, 'y': true}
vowels_are_right : row_fault 128 (positions (int_key 97 ∷ int_key 101 ∷ int_key 105 ∷ int_key 111 ∷ int_key 117 ∷ int_key 121 ∷ [])) ≡ None
vowels_are_right = refl

-- [...]int{5: 1, 2}
the_greatest_index_counts : end_of (positions (int_key 5 ∷ None ∷ int_key 1 ∷ [])) ≡ 7
the_greatest_index_counts = refl

-- []int{1, 0: 2}
an_index_stands_twice : row_fault 9223372036854775808 (positions (None ∷ int_key 0 ∷ [])) ≡ Some DUPLICATE_KEY
an_index_stands_twice = refl

-- []int{-1: 0}
a_negative_index_is_none : row_fault 9223372036854775808 (positions (key (BasicType kind.Int) (const.Int (negsuc 0)) ∷ [])) ≡ Some BAD_INDEX_KEY
a_negative_index_is_none = refl

-- []int{"a": 0}
a_text_is_no_index : row_fault 9223372036854775808 (positions (key (BasicType kind.Text) (const.Text (codes "a")) ∷ [])) ≡ Some BAD_INDEX_KEY
a_text_is_no_index = refl

-- noteFrequency := map[string]float32{"C0": 16.35, "D0": 18.35}
abbrev text_key : List ℕ → Option Meaning
text_key text = key (BasicType kind.Text) (const.Text text)

notes_are_right : map_fault (text_key (codes "C0") ∷ text_key (codes "D0") ∷ []) ≡ None
notes_are_right = refl

-- "A" and "\x41" are one key
one_text_stands_twice : map_fault (text_key (codes "A") ∷ int_key 1 ∷ text_key (65 ∷ []) ∷ []) ≡ Some DUPLICATE_KEY
one_text_stands_twice = refl

-- map[interface{}]int{1: 0, int8(1): 0}
other_types_are_other_keys : map_fault (int_key 1 ∷ key (BasicType kind.Int8) (const.Int (pos 1)) ∷ []) ≡ None
other_types_are_other_keys = refl

a_map_wants_keys : map_fault (int_key 1 ∷ None ∷ []) ≡ Some MISSING_KEY
a_map_wants_keys = refl

-- type Point3D struct { x, y, z float64 }: Point3D{}, Point3D{1, 2}
abbrev coordinate : List ℕ → GoField
coordinate name = record { name = name; owner = codes "p"; embedded = false; of = BasicType kind.Int; tag = [] }

abbrev point : List GoField
point = coordinate (codes "x") ∷ coordinate (codes "y") ∷ coordinate (codes "z") ∷ []

the_zero_point_is_right : unkeyed_fault (codes "p") point 0 ≡ None
the_zero_point_is_right = refl

a_point_has_three : unkeyed_fault (codes "p") point 2 ≡ Some WRONG_NUMBER_OF_FIELDS
a_point_has_three = refl

a_point_of_another_package_is_hidden : unkeyed_fault (codes "q") point 3 ≡ Some IMPLICIT_FIELD_NOT_EXPORTED
a_point_of_another_package_is_hidden = refl

-- Line{origin, Point3D{y: -4}}
y_is_the_second : field_place (codes "p") point 0 (codes "y") ≡ Some 1
y_is_the_second = refl

elsewhere_it_is_unknown : field_place (codes "q") point 1 (codes "y") ≡ None
elsewhere_it_is_unknown = refl

a_field_stands_twice : named_fault (Some 1 ∷ Some 0 ∷ Some 1 ∷ []) ≡ Some DUPLICATE_KEY
a_field_stands_twice = refl

an_unknown_field_comes_first : named_fault (Some 1 ∷ None ∷ Some 1 ∷ []) ≡ Some UNKNOWN_FIELD
an_unknown_field_comes_first = refl

no_literal_has_a_basic_type : shape_of (BasicType kind.Int) ≡ Other
no_literal_has_a_basic_type = refl
