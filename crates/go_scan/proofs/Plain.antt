-- A text without the bytes that the tests of a whole text look for passes them.
use Rattle.std.proofs.Common.{◌≡◌, ℕ, ◌<◌, Bool, true, false, ◌&&◌, ◌||◌, zero, suc, List, [], ◌∷◌, Some, None, length, take, drop, refl, sym, ap, ◌∙◌, arith, nat_eq, nat_lt, eq-eqb}
use Rattle.std.specs.Prelude.{slice_index}
use Rattle.std.specs.List.{list_any, starts_with}
use Rattle.std.specs.Cmp.{first_so, second_so}
use Rattle.std.specs.Str.Lossy.{utf8_valid_len}
use Rattle.std.proofs.lemmas.Bool.{cond-false}
use Rattle.std.proofs.lemmas.Bool.Decides.{Decides-eqb}
use Rattle.std.proofs.lemmas.List.Folds.{list_any_at}
use Rattle.go_tree.specs.Lexed.{byte_order_mark, fault_at, Passes}
use Rattle.go_scan.specs.Scan.{IsPlain}

refuted : (b : Bool) → (b ≡ true → ⊥) → b ≡ false
refuted true h = absurd (h refl)
refuted false h = refl

-- a byte order mark somewhere begins with its first byte
mark_front : (text : List ℕ) (at : ℕ) → starts_with nat_eq (drop at text) byte_order_mark ≡ true → list_any (λ b. nat_eq b 239) text ≡ true
mark_front [] zero here = absurd (let e = here in cc)
mark_front [] (suc at) here = absurd (let e = here in cc)
mark_front (b ∷ text) zero here =
    let first : nat_eq 239 b ≡ true = first_so _ _ here in
    ap (λ t. t || list_any (λ b. nat_eq b 239) text) (eq-eqb b 239 (sym ((Decides-eqb 239 b).0 first)))
mark_front (b ∷ text) (suc at) here = go (nat_eq b 239) (mark_front text at here)
  where
    go : (t : Bool) → list_any (λ b. nat_eq b 239) text ≡ true → (t || list_any (λ b. nat_eq b 239) text) ≡ true
    go true more = refl
    go false more = more

pub plain_passes : (text : List ℕ) (valid : ℕ) → valid ≡ utf8_valid_len text → IsPlain text valid → Passes text
plain_passes text valid is plain at lt =
    let within : nat_eq at (utf8_valid_len text) ≡ false = refuted _ (λ same. let e = (Decides-eqb at (utf8_valid_len text)).0 same in let whole = plain.whole in omega (arith, e, whole, is, lt)) in
    let some : nat_eq (slice_index text at) 0 ≡ false = refuted _ (λ nul. let e = list_any_at (λ b. nat_eq b 0) text at 0 lt nul in let none = plain.nul in cc) in
    let other : (nat_lt 0 at && starts_with nat_eq (drop at text) byte_order_mark) ≡ false =
    refuted _ (λ mark. let e = mark_front text at (second_so (nat_lt 0 at) (starts_with nat_eq (drop at text) byte_order_mark) mark) in let none = plain.front in cc) in
    cond-false _ _ _ within ∙ (cond-false _ _ _ some ∙ cond-false _ _ _ other)
