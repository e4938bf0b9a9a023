-- Examples of the Go specification, of the definitions.
use Rattle.std.proofs.Common.{◌≡◌, ℕ, [], ◌∷◌, true, false, None, Some, refl}
use Rattle.std.specs.Prelude.{pos, negsuc}
use Rattle.gv_base.specs.declared.constant.Const.TheVariants as const
use Rattle.gv_base.specs.declared.constant.Kind.TheVariants as kind
use Rattle.type_model.specs.declared.term.Dir.TheVariants as d
use Rattle.type_model.specs.GoTypes.{GoType, BasicType, SliceOf, MapOf, ChanOf}
use Rattle.typed_tree.specs.declared.mark.Mode.TheVariants as mode
use Rattle.typed_marks.specs.Meanings.{Meaning, Right}
use Rattle.rule_words.specs.Parts.{Part, no_part}
use Rattle.rule_words.specs.Answers.{constant}
use Rattle.rule_words.specs.Types.{counted, is_of}
use Rattle.builtin_rules.specs.declared.lines.Builtin.TheVariants as b
use Rattle.builtin_rules.specs.Builtins.{line_of, takes_as_many, may_spread}
use Rattle.builtin_rules.specs.Musts.{is_slice, is_map, is_chan, has_length, has_capacity, is_sender, copies, argument_at, one_size, two_sizes, is_made}

abbrev text : GoType
text = BasicType kind.Text

abbrev byte : GoType
byte = BasicType kind.Uint8

abbrev int : GoType
int = BasicType kind.Int

-- ---- "Appending to and copying slices"

-- `n3 := copy(b, "Hello, World!")`
pub hello_is_copied : copies (SliceOf byte) text ≡ true
unfolding copies is_of
hello_is_copied = refl

pub bytes_into_a_text : copies text (SliceOf byte) ≡ false
unfolding copies
bytes_into_a_text = refl

pub text_into_runes : copies (SliceOf (BasicType kind.Int32)) text ≡ false
unfolding copies is_of
text_into_runes = refl

-- `b = append(b, "bar"...)`, and nothing else beside
pub bar_is_appended : takes_as_many (line_of b.Append) true 2 ≡ true
unfolding takes_as_many line_of
bar_is_appended = refl

pub more_is_appended : takes_as_many (line_of b.Append) true 3 ≡ false
unfolding takes_as_many line_of
more_is_appended = refl

pub len_is_spread : may_spread (line_of b.Len) true ≡ false
unfolding line_of
len_is_spread = refl

-- ---- "Length and capacity"

pub map_has_a_length : has_length (MapOf text int) ≡ true
unfolding has_length
map_has_a_length = refl

pub map_has_no_capacity : has_capacity (MapOf text int) ≡ false
unfolding has_capacity
map_has_no_capacity = refl

-- ---- "Close"

pub receiver_is_closed : is_sender (ChanOf d.Receive int) ≡ false
unfolding is_sender
receiver_is_closed = refl

-- ---- "Making slices, maps and channels"

abbrev type_part : GoType → Part
type_part of = record { mark = Right (record { mode = mode.TypeName; of = of; value = None; last = of }); under = Some of }

abbrev size_part : Meaning → Part
size_part m = record { mark = m; under = Some int }

abbrev size : ℕ → Part
size n = size_part (constant int int (const.Int (pos n)))

-- `s := make([]int, 10, 100)`
pub made : is_made (no_part ∷ type_part (SliceOf int) ∷ size 10 ∷ size 100 ∷ []) (SliceOf int) ≡ true
unfolding is_made is_slice one_size two_sizes argument_at counted is_of
made = refl

-- `s := make([]int, 10, 0)` is illegal: len(s) > cap(s)
pub long_for_its_capacity : is_made (no_part ∷ type_part (SliceOf int) ∷ size 10 ∷ size 0 ∷ []) (SliceOf int) ≡ false
unfolding is_made is_slice one_size two_sizes argument_at counted is_of
long_for_its_capacity = refl

-- `make([]int, -1)`
pub less_than_nothing : is_made (no_part ∷ type_part (SliceOf int) ∷ size_part (constant int int (const.Int (negsuc 0))) ∷ []) (SliceOf int) ≡ false
unfolding is_made is_slice one_size argument_at counted is_of
less_than_nothing = refl

-- `make([]int, n < 2)`: the comparison takes `int`, and is no integer
pub truth_as_a_size : is_made (no_part ∷ type_part (SliceOf int) ∷ size_part (Right (record { mode = mode.Value; of = BasicType kind.UntypedBool; value = None; last = int })) ∷ []) (SliceOf int) ≡ false
unfolding is_made is_slice one_size argument_at is_of counted
truth_as_a_size = refl

pub slice_without_length : is_made (no_part ∷ type_part (SliceOf int) ∷ []) (SliceOf int) ≡ false
unfolding is_made is_slice one_size argument_at counted is_of
slice_without_length = refl

-- `m := make(map[string]int)`
pub map_without_size : is_made (no_part ∷ type_part (MapOf text int) ∷ []) (MapOf text int) ≡ true
unfolding is_made is_slice is_map is_chan
map_without_size = refl
