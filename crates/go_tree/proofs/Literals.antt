-- Why the steps over a literal keep their values in bounds, and how a loop goes over one.
use Rattle.std.proofs.Common.{◌≡◌, ℕ, ◌+◌, ◌*◌, ◌<◌, ◌≤◌, Bool, true, false, cond, not, ◌&&◌, ◌||◌, List, [], ◌∷◌, ◌++◌, length, get_or, drop, refl, sym, ap, ◌⊎◌, ◌-◌, inl, inr, ⊎_elim, ◌∙◌, arith, nat_lt, nat_le, nat_eq, append_assoc, append-nil, suc}
use Rattle.std.specs.List.{fold, list_any}
use Rattle.std.specs.Char.{digit_value, InScalarRange}
use Rattle.std.specs.Str.{byte}
use Rattle.std.proofs.lemmas.Bool.{cond-true, cond-false, ltb-true, ltb-false}
use Rattle.std.proofs.Math.Nat.{le-mul_of_pos_right}
use Rattle.std.proofs.Math.Seq.{drop-cons}
use Rattle.std.proofs.lemmas.List.{drop_all}
use Rattle.go_tree.specs.declared.class.Escape.{Escape}
use Rattle.go_tree.specs.declared.class.Escape.TheVariants.{Plain, Slash, Octal, Hex, Point, Bad}
use Rattle.go_tree.specs.Escapes.{double_quote, single_quote, is_plain, point_end, escape_step, lone_step}
use Rattle.go_tree.specs.Values.{number_with, IsEnding, unit_value, gives_char, lone_value, added, text_from, unit_bytes, simple_value}

-- A byte that ends an escape.

not_bad : (t : Bool) (e : Escape) → is_plain (cond t Bad e) ≡ true → (t ≡ false) × (is_plain e ≡ true)
not_bad true e plain = absurd (let p = plain in cc)
not_bad false e plain = (refl, plain)

neither : (a b : Bool) → (a || b) ≡ false → (a ≡ false) × (b ≡ false)
neither true b none = absurd (let n = none in cc)
neither false b none = (refl, none)

not_false : (b : Bool) → not b ≡ false → b ≡ true
not_false true is = refl
not_false false is = absurd (let n = is in cc)

-- a value within its limit, and a digit of its base
in_limit : (limit base value digit : ℕ) (e : Escape) → is_plain (cond (nat_lt limit value || not (nat_lt digit base)) Bad e) ≡ true → (value ≤ limit) × (digit < base) × (is_plain e ≡ true)
in_limit limit base value digit e plain =
    let parts = not_bad (nat_lt limit value || not (nat_lt digit base)) e plain in
    let both = neither (nat_lt limit value) (not (nat_lt digit base)) parts.0 in
    (ltb-false limit value both.0, ltb-true digit base (not_false (nat_lt digit base) both.1), parts.1)

not_both : (a b : Bool) → (a && b) ≡ false → (a ≡ false) ⊎ (b ≡ false)
not_both true b none = inr none
not_both false b none = inl refl

end_scalar : (value : ℕ) → value ≤ 0x10FFFF → is_plain (point_end value) ≡ true → InScalarRange value
end_scalar value most plain =
    let parts = not_bad (nat_lt 0xD7FF value && nat_lt value 0xE000) Plain plain in
    ⊎_elim (λ low. let le = ltb-false 0xD7FF value low in inl (omega (arith, le))) (λ high. let le = ltb-false value 0xE000 high in inr (omega (arith, le), omega (arith, most))) (not_both (nat_lt 0xD7FF value) (nat_lt value 0xE000) parts.0)

last_of : (t : Bool) (e f : Escape) → is_plain f ≡ false → is_plain (cond t e f) ≡ true → is_plain e ≡ true
last_of true e f more plain = plain
last_of false e f more plain = absurd (let p = plain in cc)

pub ending_of : (quote : ℕ) (state : Escape) (b : ℕ) → is_plain (escape_step quote state b) ≡ true → IsEnding state b
unfolding escape_step
ending_of quote Plain b plain = tt
ending_of quote Slash b plain = tt
ending_of quote (Octal left value) b plain = let within = in_limit 31 8 value (digit_value b) _ plain in (within.0, omega (arith, within.1))
ending_of quote (Hex left value) b plain = let within = in_limit 15 16 value (digit_value b) _ plain in (within.0, omega (arith, within.1))
ending_of quote (Point left value) b plain =
    let within = in_limit 0x10FFF 16 value (digit_value b) _ plain in
    let digit : digit_value b ≤ 15 = omega (arith, within.1) in
    let ends = last_of (nat_le left 1) (point_end (value * 16 + digit_value b)) (Point (left - 1) (value * 16 + digit_value b)) refl within.2 in
    (within.0, digit, end_scalar (value * 16 + digit_value b) (omega (arith, within.0, digit)) ends)
ending_of quote Bad b plain = let p = plain in cc

either_below : (t : Bool) (x y n : ℕ) → x < n → y < n → cond t x y < n
either_below true x y n first second = first
either_below false x y n first second = second

simple_small : (b : ℕ) → b < 256 → simple_value b < 256
simple_small b small =
    either_below _ 7 _ 256 (omega arith) (either_below _ 8 _ 256 (omega arith) (either_below _ 12 _ 256 (omega arith) (either_below _ 10 _ 256 (omega arith)
    (either_below _ 13 _ 256 (omega arith) (either_below _ 9 _ 256 (omega arith) (either_below _ 11 _ 256 (omega arith) small))))))

-- what gives no character gives a byte
pub unit_small : (state : Escape) (b : ℕ) → IsEnding state b → gives_char state ≡ false → b < 256 → unit_value state b < 256
unfolding unit_value
unit_small Plain b ending other small = small
unit_small Slash b ending other small = simple_small b small
unit_small (Octal left value) b ending other small = omega (arith, ending.0, ending.1)
unit_small (Hex left value) b ending other small = omega (arith, ending.0, ending.1)
unit_small (Point left value) b ending other small = absurd (let o = other in cc)
unit_small Bad b ending other small = absurd ending

pub unit_scalar : (state : Escape) (b : ℕ) → IsEnding state b → gives_char state ≡ true → InScalarRange (unit_value state b)
unfolding unit_value
unit_scalar Plain b ending char = absurd (let c = char in cc)
unit_scalar Slash b ending char = absurd (let c = char in cc)
unit_scalar (Octal left value) b ending char = absurd (let c = char in cc)
unit_scalar (Hex left value) b ending char = absurd (let c = char in cc)
unit_scalar (Point left value) b ending char = ending.2
unit_scalar Bad b ending char = absurd ending

-- The digits of a number.

either_most : (t : Bool) (n x y : ℕ) → n ≤ x → n ≤ y → n ≤ cond t x y
either_most true n x y first second = first
either_most false n x y first second = second

grows : (base n b : ℕ) → 0 < base → n ≤ number_with base n b
unfolding number_with
grows base n b some = let more = le-mul_of_pos_right n some in either_most (nat_eq b (byte "_")) n n (n * base + digit_value b) (omega arith) (omega (arith, more))

grows_on : (base : ℕ) → 0 < base → (digits : List ℕ) (n : ℕ) → n ≤ fold (number_with base) n digits
grows_on base some [] n = omega arith
grows_on base some (b ∷ digits) n = omega (arith, grows base n b some, grows_on base some digits (number_with base n b))

-- a number that is wide stays so
pub stays_wide : (base n k limit all : ℕ) (digits : List ℕ) → 0 < base → k < length digits → fold (number_with base) n (drop k digits) ≡ all → limit ≤ number_with base n (get_or digits k 0) → limit ≤ all
stays_wide base n k limit all digits some lt comes wide =
    let next : fold (number_with base) (number_with base n (get_or digits k 0)) (drop (suc k) digits) ≡ all = ap (fold (number_with base) n) (sym (drop-cons digits k 0 lt)) ∙ comes in
    omega (arith, wide, next, grows_on base some (drop (suc k) digits) (number_with base n (get_or digits k 0)))

-- The escape of a rune.

lone_ending_by : (t : Bool) (state : Escape) (b : ℕ) → is_plain (cond t Bad (escape_step single_quote state b)) ≡ true → IsEnding state b
lone_ending_by true state b plain = absurd (let p = plain in cc)
lone_ending_by false state b plain = ending_of single_quote state b plain

pub lone_ending : (state : Escape) (b : ℕ) → is_plain (lone_step state b) ≡ true → IsEnding state b
unfolding lone_step
lone_ending state b plain = lone_ending_by (is_plain state) state b plain

lone_turn : (bytes : List ℕ) (state : Escape) (k : ℕ) → k < length bytes → lone_value state (drop k bytes) ≡ cond (is_plain (lone_step state (get_or bytes k 0))) (unit_value state (get_or bytes k 0)) (lone_value (lone_step state (get_or bytes k 0)) (drop (suc k) bytes))
unfolding lone_value
lone_turn bytes state k lt = ap (lone_value state) (drop-cons bytes k 0 lt)

pub lone_stop : (bytes : List ℕ) (state : Escape) (k all : ℕ) → k < length bytes → lone_value state (drop k bytes) ≡ all → is_plain (lone_step state (get_or bytes k 0)) ≡ true → unit_value state (get_or bytes k 0) ≡ all
lone_stop bytes state k all lt comes plain = sym (cond-true _ _ _ plain) ∙ sym (lone_turn bytes state k lt) ∙ comes

pub lone_on : (bytes : List ℕ) (state next : Escape) (k all : ℕ) → k < length bytes → lone_value state (drop k bytes) ≡ all → next ≡ lone_step state (get_or bytes k 0) → is_plain next ≡ false → lone_value next (drop (k + 1) bytes) ≡ all
lone_on bytes state next k all lt comes is other =
    let plain : is_plain (lone_step state (get_or bytes k 0)) ≡ false = ap is_plain (sym is) ∙ other in
    let e : suc k ≡ k + 1 = omega arith in
    (λ i. lone_value (is i) (drop (sym e i) bytes)) ∙ sym (cond-false _ _ _ plain) ∙ sym (lone_turn bytes state k lt) ∙ comes

pub lone_end : (bytes : List ℕ) (state : Escape) (k all : ℕ) → length bytes ≤ k → lone_value state (drop k bytes) ≡ all → 0 ≡ all
unfolding lone_value
lone_end bytes state k all past comes = ap (lone_value state) (sym (drop_all k bytes past)) ∙ comes

-- The bytes of a text.

-- without a backslash they are those that are written
pub plain_text : (body : List ℕ) → list_any (λ b. nat_eq b 92) body ≡ false → text_from Plain body ≡ body
unfolding text_from escape_step unit_value
plain_text [] none = refl
plain_text (b ∷ body) none =
    let parts = neither (nat_eq b 92) (list_any (λ b. nat_eq b 92) body) none in
    let step : escape_step double_quote Plain b ≡ Plain = cond-false _ _ _ parts.0 in
    (λ i. cond (is_plain (step i)) (unit_bytes Plain b) [] ++ text_from (step i) body) ∙ ap (λ rest. b ∷ rest) (plain_text body parts.1)

pub text_turn : (bytes text : List ℕ) (state : Escape) (k : ℕ) (all : List ℕ) → k < length bytes → text ++ text_from state (drop k bytes) ≡ all → (more : List ℕ) → more ≡ text ++ added state (get_or bytes k 0) → (next : Escape) → next ≡ escape_step double_quote state (get_or bytes k 0) → more ++ text_from next (drop (k + 1) bytes) ≡ all
unfolding text_from
text_turn bytes text state k all lt comes more is_more next is_next =
    let e : suc k ≡ k + 1 = omega arith in
    let b = get_or bytes k 0 in
    (λ i. is_more i ++ text_from (is_next i) (drop (sym e i) bytes)) ∙ append_assoc text (added state b) (text_from (escape_step double_quote state b) (drop (suc k) bytes)) ∙ ap (λ rest. text ++ text_from state rest) (sym (drop-cons bytes k 0 lt)) ∙ comes

pub text_end : (bytes text : List ℕ) (state : Escape) (k : ℕ) (all : List ℕ) → length bytes ≤ k → text ++ text_from state (drop k bytes) ≡ all → text ≡ all
unfolding text_from
text_end bytes text state k all past comes = sym (append-nil text) ∙ ap (λ rest. text ++ text_from state rest) (sym (drop_all k bytes past)) ∙ comes
