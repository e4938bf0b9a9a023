-- The first value that isn't before a node.
use Rattle.std.proofs.Common.{◌≡◌, ℕ, zero, suc, ◌+◌, ◌<◌, ◌≤◌, Bool, true, false, if◌then◌else◌, nat_le, nat_lt, List, [], ◌∷◌, length, slice_get, Option, Some, None, refl, sym, ap, arith}
use Rattle.std.specs.Option.{option_map_or}
use Rattle.std.proofs.lemmas.Bool.Decides.{nat_tests}
use Rattle.const_tree.specs.declared.constant.Spec.{Spec}
use Rattle.const_tree.specs.Constants.{values_of}
use Rattle.unit_read.specs.declared.passage.Passage.{Passage}
use Rattle.unit_read.specs.Units.{Unit, nodes_at}
use Rattle.check_pkg.specs.Faults.{value_before, value_from, value_in}

le_true : (m n : ℕ) → nat_le m n ≡ true → m ≤ n
le_true m n h = grind (arith, nat_tests)

le_false : (m n : ℕ) → nat_le m n ≡ false → n < m
le_false m n h = grind (arith, nat_tests)

true_le : (m n : ℕ) → m ≤ n → nat_le m n ≡ true
true_le m n h = grind (arith, nat_tests)

-- it is one of them, or there is none
value_low : (values : List ℕ) (n : ℕ) → value_before values n ≤ length values
value_low [] n = omega arith
value_low (v ∷ values) n = by (nat_le n v) (value_low values n) where
  by : (b : Bool) → value_before values n ≤ length values → (if b then 0 else suc (value_before values n)) ≤ suc (length values)
  by true low = omega arith
  by false low = omega arith

-- a value that isn't before the node is the first, if none before it is
value_here : (values : List ℕ) (n value at : ℕ) → value ≤ value_before values n → slice_get values value ≡ Some at → n ≤ at → value ≡ value_before values n
value_here [] n value at low there past = absurd cc
value_here (v ∷ values) n zero at low there past =
    let same : v ≡ at = cc in
    let test : nat_le n v ≡ true = true_le n v (omega arith) in
    ap (λ b. if b then 0 else suc (value_before values n)) (sym test)
value_here (v ∷ values) n (suc value) at low there past = by (nat_le n v) low (λ less. value_here values n value at less there past) where
  by : (b : Bool) → suc value ≤ (if b then 0 else suc (value_before values n)) → (value ≤ value_before values n → value ≡ value_before values n) → suc value ≡ (if b then 0 else suc (value_before values n))
  by true low rest = absurd (omega arith)
  by false low rest = ap suc (rest (omega arith))

-- one that is before it is passed
value_past : (values : List ℕ) (n value at : ℕ) → value ≤ value_before values n → slice_get values value ≡ Some at → at < n → value + 1 ≤ value_before values n
value_past [] n value at low there past = absurd cc
value_past (v ∷ values) n zero at low there past = by (nat_le n v) refl where
  by : (b : Bool) → nat_le n v ≡ b → 0 + 1 ≤ (if b then 0 else suc (value_before values n))
  by true e = let same : v ≡ at = cc in let up = le_true n v e in absurd (omega arith)
  by false e = omega arith
value_past (v ∷ values) n (suc value) at low there past = by (nat_le n v) low (λ less. value_past values n value at less there past) where
  by : (b : Bool) → suc value ≤ (if b then 0 else suc (value_before values n)) → (value ≤ value_before values n → value + 1 ≤ value_before values n) → suc value + 1 ≤ (if b then 0 else suc (value_before values n))
  by true low rest = absurd (omega arith)
  by false low rest = let more = rest (omega arith) in omega arith

none_low : (values : List ℕ) (value : ℕ) → slice_get values value ≡ None → length values ≤ value
none_low [] value none = omega arith
none_low (v ∷ values) zero none = absurd cc
none_low (v ∷ values) (suc value) none = let more = none_low values value none in omega arith

-- where there is none, none is
pub value_none : (values : List ℕ) (n value : ℕ) → value ≤ value_before values n → slice_get values value ≡ None → value ≡ value_before values n
value_none values n value low none = let end = value_low values n in let past = none_low values value none in omega arith

lt_true : (m n : ℕ) → nat_lt m n ≡ true → m < n
lt_true m n h = grind (arith, nat_tests)

lt_false : (m n : ℕ) → nat_lt m n ≡ false → n ≤ m
lt_false m n h = grind (arith, nat_tests)

pub past_if : (values : List ℕ) (n value at : ℕ) → value ≤ value_before values n → slice_get values value ≡ Some at → nat_lt at n ≡ true → value + 1 ≤ value_before values n
past_if values n value at low there less = value_past values n value at low there (lt_true at n less)

pub here_if : (values : List ℕ) (n value at : ℕ) → value ≤ value_before values n → slice_get values value ≡ Some at → nat_lt at n ≡ false → value ≡ value_before values n
here_if values n value at low there not = value_here values n value at low there (lt_false at n not)

-- all values are passed
pub value_end : (values : List ℕ) (n value count : ℕ) → value ≤ value_before values n → count ≡ length values → count ≤ value → count ≡ value_before values n
value_end values n value count low size past = let end = value_low values n in omega arith

-- a later node stands in the same value or in a later one
pub value_rises : (values : List ℕ) (n : ℕ) → value_before values n ≤ value_before values (n + 1)
value_rises [] n = omega arith
value_rises (v ∷ values) n = by (nat_le n v) refl (nat_le (n + 1) v) refl (value_rises values n) where
  by : (b : Bool) → nat_le n v ≡ b → (c : Bool) → nat_le (n + 1) v ≡ c → value_before values n ≤ value_before values (n + 1)
      → (if b then 0 else suc (value_before values n)) ≤ (if c then 0 else suc (value_before values (n + 1)))
  by true e c f rest = omega arith
  by false e true f rest = let up = le_true (n + 1) v f in let down = le_false n v e in absurd (omega arith)
  by false e false f rest = omega arith

pub value_goes_on : (u : Unit) (p : Passage) (n : ℕ) → value_in u p n ≤ value_in u p (n + 1)
value_goes_on u p n = by p.spec where
  by : (o : Option Spec) → option_map_or (value_from u p.file n) o 0 ≤ option_map_or (value_from u p.file (n + 1)) o 0
  by None = omega arith
  by (Some spec) = value_rises (values_of (nodes_at u p.file) spec) n
