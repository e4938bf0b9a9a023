-- Fields of struct types.
use Rattle.std.proofs.Common.{◌≡◌, ◌<◌, ◌≤◌, ◌+◌, ℕ, zero, suc, Bool, true, false, true≢false, nat_eq, cond, List, [], ◌∷◌, map, drop, length, slice_get, Option, Some, None, refl, sym, ap, ◌∙◌, subst, arith, All}
use Rattle.std.specs.List.{position_from}
use Rattle.std.proofs.lemmas.Bool.{eq-eqb}
use Rattle.std.proofs.lemmas.Slice.Eq.{bytes_eq-Decides}
use Rattle.std.proofs.lemmas.List.Elements.{All-head, All-tail}
use Rattle.std.specs.Str.{bytes_eq}
use Rattle.go_tree.specs.Lexeme.{place_of}
use Rattle.type_model.specs.declared.term.Field.{Field}
use Rattle.type_model.specs.GoTypes.{FieldsBelow, fields_of}
use Rattle.type_model.specs.Parts.{GoField, field_list}
use Rattle.type_model.specs.Tables.{types_in}
use Rattle.typed_marks.specs.declared.state.State.{State}
use Rattle.literal_rules.specs.Structs.{field_names}
use Rattle.literal_rules.specs.InCode.{field_in, last_byte}

-- names that don't end alike are others
pub ends_apart : (a b : List ℕ) → nat_eq (last_byte a) (last_byte b) ≡ false → bytes_eq a b ≡ false
ends_apart a b apart = by (bytes_eq a b) refl where
  by : (c : Bool) → bytes_eq a b ≡ c → c ≡ false
  by false e = refl
  by true e = absurd (true≢false (sym (eq-eqb (last_byte a) (last_byte b) (ap last_byte ((bytes_eq-Decides a b).0 e))) ∙ apart))

pub listed_fields : (s : State) (fields : List Field) → map (field_in s) fields ≡ field_list (fields_of (types_in s.table) fields)
listed_fields s [] = refl
listed_fields s (f ∷ fields) = ap (λ l. field_in s f ∷ l) (listed_fields s fields)

pub names_of_fields : (s : State) (fields : List Field) → map (λ (f : Field). f.name) fields ≡ field_names (map (field_in s) fields)
names_of_fields s [] = refl
names_of_fields s (f ∷ fields) = ap (λ l. f.name ∷ l) (names_of_fields s fields)

pub nth_in : (s : State) (fields : List Field) (i : ℕ) (f : Field) → slice_get fields i ≡ Some f → slice_get (map (field_in s) fields) i ≡ Some (field_in s f)
nth_in s [] i f e = absurd cc
nth_in s (x ∷ fields) zero f e = let same : x ≡ f = cc in ap (λ (y : Field). Some (field_in s y)) same
nth_in s (x ∷ fields) (suc i) f e = nth_in s fields i f e

pub none_in : (s : State) (fields : List Field) (i : ℕ) → slice_get fields i ≡ None → slice_get (map (field_in s) fields) i ≡ None
none_in s [] i e = refl
none_in s (x ∷ fields) zero e = absurd cc
none_in s (x ∷ fields) (suc i) e = none_in s fields i e

pub field_below : (n : ℕ) (fields : List Field) (i : ℕ) (f : Field) → FieldsBelow n fields → slice_get fields i ≡ Some f → f.of.0 < n
field_below n [] i f below e = absurd cc
field_below n (x ∷ fields) zero f below e = let same : x ≡ f = cc in subst (λ (y : Field). y.of.0 < n) same (All-head (λ (y : Field). y.of.0 < n) x fields below)
field_below n (x ∷ fields) (suc i) f below e = field_below n fields i f (All-tail (λ (y : Field). y.of.0 < n) x fields below) e

-- ---- the first field of a name

abbrev pub scan : State → List Field → List ℕ → ℕ → Option ℕ
scan s fields name i = position_from (λ spelling. bytes_eq spelling name) i (field_names (map (field_in s) (drop i fields)))

drop_at : (fields : List Field) (i : ℕ) (f : Field) → slice_get fields i ≡ Some f → drop i fields ≡ f ∷ drop (i + 1) fields
drop_at [] i f is = absurd cc
drop_at (x ∷ fields) zero f is = let same : x ≡ f = cc in ap (λ (y : Field). y ∷ fields) same
drop_at (x ∷ fields) (suc i) f is = let e : suc i + 1 ≡ suc (i + 1) = omega arith in rw e (drop_at fields i f is)

drop_end : (fields : List Field) (i : ℕ) → length fields ≤ i → drop i fields ≡ []
drop_end [] zero low = refl
drop_end [] (suc i) low = refl
drop_end (x ∷ fields) zero low = absurd (omega arith)
drop_end (x ∷ fields) (suc i) low = drop_end fields i (omega arith)

scan_at : (s : State) (fields : List Field) (name : List ℕ) (i : ℕ) (f : Field) → slice_get fields i ≡ Some f
    → scan s fields name i ≡ cond (bytes_eq f.name name) (Some i) (scan s fields name (i + 1))
scan_at s fields name i f is = ap (λ (l : List Field). position_from (λ spelling. bytes_eq spelling name) i (field_names (map (field_in s) l))) (drop_at fields i f is)

pub scan_here : (s : State) (fields : List Field) (name : List ℕ) (i : ℕ) (f : Field) → slice_get fields i ≡ Some f → bytes_eq f.name name ≡ true → scan s fields name i ≡ Some i
scan_here s fields name i f is yes_is = scan_at s fields name i f is ∙ ap (λ b. cond b (Some i) (scan s fields name (i + 1))) yes_is

pub scan_on : (s : State) (fields : List Field) (name : List ℕ) (i : ℕ) (f : Field) → slice_get fields i ≡ Some f → bytes_eq f.name name ≡ false
    → scan s fields name i ≡ scan s fields name (i + 1)
scan_on s fields name i f is no_is = scan_at s fields name i f is ∙ ap (λ b. cond b (Some i) (scan s fields name (i + 1))) no_is

pub scan_end : (s : State) (fields : List Field) (name : List ℕ) (i : ℕ) → length fields ≤ i → scan s fields name i ≡ None
scan_end s fields name i low = ap (λ (l : List Field). position_from (λ spelling. bytes_eq spelling name) i (field_names (map (field_in s) l))) (drop_end fields i low)
