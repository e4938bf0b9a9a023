-- The readers of names, truths, directions, kinds and constants.
use Rattle.std.proofs.Common.{◌≡◌, ℕ, zero, suc, ◌-◌, ◌^◌, ◌<◌, ◌≤◌, Bool, true, false, cond, eqb, ltb, List, [], ◌∷◌, ◌++◌, length, Some, None, refl, sym, ap, subst, ◌∙◌, arith, inl, inr}
use Rattle.std.proofs.lemmas.Bool.{eqb-true, ltb-false, le-ltb}
use Rattle.std.specs.Str.{IsUtf8, is_utf8}
use Rattle.std.proofs.lemmas.Str.{IsUtf8-from_is_utf8, is_utf8-from_IsUtf8}
use Rattle.std.proofs.lemmas.Option.{cond_some}
use Rattle.gv_base.specs.declared.constant.Const.{Const}
use Rattle.gv_base.specs.declared.constant.Const.TheVariants as const
use Rattle.gv_base.specs.Kinds.{kind_number, kind_numbered}
use Rattle.gv_base.proofs.KindNumbers.{kind_kept, number_small, number_kept}
use Rattle.gv_bytes.specs.Spelling.{natural, text, IsText}
use Rattle.gv_bytes.specs.Reading.{◌>>=◌, Reads, number_at, text_at}
use Rattle.gv_bytes.proofs.Options.{bind_some, guard_some, chosen, some_is, just}
use Rattle.gv_bytes.proofs.Numbers.{naturals, numbers, texts}
use Rattle.type_model.specs.declared.term.Dir.{Dir}
use Rattle.type_model.specs.declared.term.Dir.TheVariants as dir
use Rattle.type_texts.specs.Fields.{truth_of, dir_number, dir_numbered, value, IsConst, IsName, utf8_of, name_at, bit_at, dir_at, kind_at, size_at, truth_at, int_at, const_text_at, value_at}
use Rattle.type_texts.proofs.Readers.{via, again_as}

pub utf8_some : (bytes text : List ℕ) → text ≡ bytes → IsUtf8 bytes → utf8_of bytes ≡ Some text
utf8_some bytes text same good = rw (is_utf8-from_IsUtf8 bytes good, same) refl

utf8_refused : (bytes : List ℕ) (b : Bool) → is_utf8 bytes ≡ b → (IsUtf8 bytes → ⊥) → cond b (just bytes) None ≡ None
utf8_refused bytes true e bad = absurd (bad (IsUtf8-from_is_utf8 bytes e))
utf8_refused bytes false e bad = refl

pub utf8_none : (bytes : List ℕ) → (IsUtf8 bytes → ⊥) → utf8_of bytes ≡ None
utf8_none bytes bad = utf8_refused bytes (is_utf8 bytes) refl bad

name_take : (bytes : List ℕ) (x : List ℕ × List ℕ) → name_at bytes ≡ Some x → (bytes ≡ text x.0 ++ x.1) × IsName x.0
unfolding name_at
name_take bytes x e =
    let a = bind_some (text_at bytes) (λ t. utf8_of t.0 >>= λ name. Some (name, t.1)) x e in
    let b = bind_some (utf8_of a.0.0) (λ name. Some (name, a.0.1)) x a.2 in
    let t = texts.takes bytes a.0 a.1 in
    let g = cond_some (is_utf8 a.0.0) a.0.0 b.0 b.1 in
    let good : IsUtf8 a.0.0 = IsUtf8-from_is_utf8 a.0.0 g.0 in
    let same : (a.0.0, a.0.1) ≡ x = ap (λ (n : List ℕ). (n, a.0.1)) g.1 ∙ some_is (b.0, a.0.1) x b.2 in
    subst (λ (y : List ℕ × List ℕ). (bytes ≡ text y.0 ++ y.1) × IsName y.0) same (t.0, (t.1, good))

name_again : (name rest : List ℕ) → IsName name → name_at (text name ++ rest) ≡ Some (name, rest)
unfolding name_at
name_again name rest fits = rw (texts.again name rest fits.0, is_utf8-from_IsUtf8 name fits.1) refl

pub names : Reads IsName text name_at
names = record { takes = name_take; again = name_again }

-- ---- truths

truth_kept : (n : ℕ) → n ≤ 1 → truth_of (eqb n 1) ≡ n
truth_kept zero h = refl
truth_kept (suc zero) h = refl
truth_kept (suc (suc n)) h = absurd (omega arith)

truth_small : (b : Bool) → truth_of b ≤ 1
truth_small true = omega arith
truth_small false = omega arith

truth_back : (b : Bool) → eqb (truth_of b) 1 ≡ b
truth_back true = refl
truth_back false = refl

pub bits : Reads (λ b. Unit {0}) (λ b. natural (truth_of b)) bit_at
bits = again_as (λ b h. tt) (λ b h. truth_small b) (via (λ n. eqb n 1) truth_of truth_kept truth_back (naturals 1 (omega arith)))

-- ---- directions

dir_kept : (n : ℕ) → n ≤ 2 → dir_number (dir_numbered n) ≡ n
dir_kept zero h = refl
dir_kept (suc zero) h = refl
dir_kept (suc (suc zero)) h = refl
dir_kept (suc (suc (suc n))) h = absurd (omega arith)

dir_small : (d : Dir) → dir_number d ≤ 2
dir_small dir.Both = omega arith
dir_small dir.Send = omega arith
dir_small dir.Receive = omega arith

dir_back : (d : Dir) → dir_numbered (dir_number d) ≡ d
dir_back dir.Both = refl
dir_back dir.Send = refl
dir_back dir.Receive = refl

pub dirs : Reads (λ d. Unit {0}) (λ d. natural (dir_number d)) dir_at
dirs = again_as (λ d h. tt) (λ d h. dir_small d) (via dir_numbered dir_number dir_kept dir_back (naturals 2 (omega arith)))

-- ---- kinds

pub kinds : Reads (λ k. Unit {0}) (λ k. natural (kind_number k)) kind_at
kinds = again_as (λ k h. tt) (λ k h. number_small k) (via kind_numbered kind_number number_kept kind_kept (naturals 17 (omega arith)))

-- ---- sizes

size_up : (n : ℕ) → n ≤ 2 ^ 64 - 1 → n < 2 ^ 64
size_up n h = omega (arith, h)

size_down : (n : ℕ) → n < 2 ^ 64 → n ≤ 2 ^ 64 - 1
size_down n h = omega (arith, h)

pub sizes : Reads (λ n. n < 2 ^ 64) natural size_at
sizes = again_as size_up size_down (naturals (2 ^ 64 - 1) (omega arith))

-- ---- values

abbrev Takes : List ℕ → Const × List ℕ → Type 0
Takes bytes y = (bytes ≡ value y.0 ++ y.1) × IsConst y.0

truth_take : (bytes : List ℕ) (x : Const × List ℕ) → truth_at bytes ≡ Some x → Takes (113 ∷ bytes) x
unfolding value
truth_take bytes x e =
    let a = bind_some (bit_at bytes) (λ y. Some (const.Truth y.0, y.1)) x e in
    let t = bits.takes bytes a.0 a.1 in
    subst (λ (y : Const × List ℕ). Takes (113 ∷ bytes) y) (some_is (const.Truth a.0.0, a.0.1) x a.2) (ap (λ (r : List ℕ). 113 ∷ r) t.0, tt)

int_take : (bytes : List ℕ) (x : Const × List ℕ) → int_at bytes ≡ Some x → Takes (110 ∷ bytes) x
unfolding value
int_take bytes x e =
    let a = bind_some (number_at bytes) (λ n. Some (const.Int n.0, n.1)) x e in
    let t = numbers.takes bytes a.0 a.1 in
    subst (λ (y : Const × List ℕ). Takes (110 ∷ bytes) y) (some_is (const.Int a.0.0, a.0.1) x a.2) (ap (λ (r : List ℕ). 110 ∷ r) t.0, t.1)

const_text_take : (bytes : List ℕ) (x : Const × List ℕ) → const_text_at bytes ≡ Some x → Takes (120 ∷ bytes) x
unfolding const_text_at value
const_text_take bytes x e =
    let a = bind_some (text_at bytes) (λ t. cond (ltb 65536 (length t.0)) None (Some (const.Text t.0, t.1))) x e in
    let g = guard_some (ltb 65536 (length a.0.0)) (Some (const.Text a.0.0, a.0.1)) x a.2 in
    let t = texts.takes bytes a.0 a.1 in
    let low : length a.0.0 ≤ 65536 = ltb-false _ _ g.0 in
    subst (λ (y : Const × List ℕ). Takes (120 ∷ bytes) y) (some_is (const.Text a.0.0, a.0.1) x g.1) (ap (λ (r : List ℕ). 120 ∷ r) t.0, low)

value_take : (bytes : List ℕ) (x : Const × List ℕ) → value_at bytes ≡ Some x → Takes bytes x
unfolding value_at
value_take [] x e = absurd cc
value_take (c ∷ rest) x e =
    elim (chosen (eqb c 113) (truth_at rest) (cond (eqb c 110) (int_at rest) (cond (eqb c 120) (const_text_at rest) None)) (Some x) e) [
      | inl p ↦ subst (λ (b : ℕ). Takes (b ∷ rest) x) (sym (eqb-true c 113 p.0)) (truth_take rest x p.1)
      | inr p ↦ elim (chosen (eqb c 110) (int_at rest) (cond (eqb c 120) (const_text_at rest) None) (Some x) p.1) [
        | inl q ↦ subst (λ (b : ℕ). Takes (b ∷ rest) x) (sym (eqb-true c 110 q.0)) (int_take rest x q.1)
        | inr q ↦ elim (chosen (eqb c 120) (const_text_at rest) None (Some x) q.1) [
          | inl r ↦ subst (λ (b : ℕ). Takes (b ∷ rest) x) (sym (eqb-true c 120 r.0)) (const_text_take rest x r.1)
          | inr r ↦ absurd cc
        ]
      ]
    ]

value_again : (v : Const) (rest : List ℕ) → IsConst v → value_at (value v ++ rest) ≡ Some (v, rest)
unfolding value_at value const_text_at
value_again (const.Truth b) rest fits = rw (bits.again b rest tt) refl
value_again (const.Int n) rest fits = rw (numbers.again n rest fits) refl
value_again (const.Text t) rest fits =
    let long : IsText t = omega arith in
    let low : ltb 65536 (length t) ≡ false = le-ltb _ _ fits in
    rw (texts.again t rest long, low) refl

pub values : Reads IsConst value value_at
values = record { takes = value_take; again = value_again }
