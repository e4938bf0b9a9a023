-- More types that fail let more fail; only a type's parts count.
use Rattle.std.proofs.Common.{◌≡◌, ◌⊎◌, ◌<◌, inl, inr, ℕ, Bool, true, false, not, ◌&&◌, ◌||◌, List, [], ◌∷◌, length, Option, Some, None, refl, sym, ap, ◌∙◌}
use Rattle.std.specs.Prelude.{slice_get}
use Rattle.std.specs.List.{Contains}
use Rattle.std.specs.Option.{option_map_or}
use Rattle.std.proofs.Math.Logic.{∥∥₁_elim}
use Rattle.std.proofs.Math.Bool.{Bool-set}
use Rattle.std.proofs.lemmas.List.Elements.{Contains-append_left, Contains-append_right, Contains-push}
use Rattle.least.specs.Least.{IsMonotone}
use Rattle.vet_printf.specs.declared.shapes.Shape.{Shape}
use Rattle.vet_printf.specs.InTable.{flag_at, any_of, fails_shape, fails_by, Admits, IsPartOf, AreBelow, AreReaders, row_of}

either_or : (a b c d : Bool) → (a ≡ true → c ≡ true) → (b ≡ true → d ≡ true) → (a || b) ≡ true → (c || d) ≡ true
either_or true b c d f g e = ap (λ x. x || d) (f refl)
either_or false true c d f g e = at c d (g refl) where
  at : (c d : Bool) → d ≡ true → (c || d) ≡ true
  at true d h = refl
  at false d h = h
either_or false false c d f g e = absurd (cc)

any_grows : (M N : ℕ → Bool) (ids : List ℕ) → ((j : ℕ) → Contains ids j → M j ≡ true → N j ≡ true) → any_of M ids ≡ true → any_of N ids ≡ true
any_grows M N [] grows e = absurd (cc)
any_grows M N (id ∷ ids) grows e =
    either_or (M id) (any_of M ids) (N id) (any_of N ids) (grows id (Contains-append_left (id ∷ []) ids id (Contains-push [] id)))
    (any_grows M N ids (λ j there. grows j (Contains-append_right (id ∷ []) ids j there))) e

shape_grows : (M N : ℕ → Bool) (fit parted : Bool) (ids : List ℕ) → ((j : ℕ) → Contains ids j → M j ≡ true → N j ≡ true)
    → (not fit && (not parted || any_of M ids)) ≡ true → (not fit && (not parted || any_of N ids)) ≡ true
shape_grows M N true parted ids grows e = absurd (cc)
shape_grows M N false true ids grows e = any_grows M N ids grows e
shape_grows M N false false ids grows e = refl

fails_grows : (M N : ℕ → Bool) (fit : Bool) (o : Option Shape) → ((x : Shape) (j : ℕ) → o ≡ Some x → Contains x.parts j → M j ≡ true → N j ≡ true)
    → option_map_or (fails_shape M fit) o false ≡ true → option_map_or (fails_shape N fit) o false ≡ true
fails_grows M N fit None grows e = absurd (cc)
fails_grows M N fit (Some x) grows e = shape_grows M N fit x.parted x.parts (λ j there. grows x j refl there) e

pub more_fail : (fits : List Bool) (shapes : List Shape) → IsMonotone (Admits fits shapes)
more_fail fits shapes M N i within a = fails_grows M N (flag_at fits i) (slice_get shapes i) (λ x j is there. within j) a

pub same_fail : (fits : List Bool) (shapes : List Shape) (rows : List (List ℕ)) → AreBelow shapes → AreReaders shapes rows
    → (M N : ℕ → Bool) (i : ℕ) → ((j : ℕ) → Contains (row_of rows j) i → M j ≡ N j) → Admits fits shapes M i → Admits fits shapes N i
same_fail fits shapes rows below r M N i same a = fails_grows M N (flag_at fits i) (slice_get shapes i)
    (λ x j is there e.
    let one : M j ≡ N j = ∥∥₁_elim (r.every i j (below i j (x, is, there)) (x, is, there)) (Bool-set (M j) (N j)) (λ c. same j c) in
    sym one ∙ e) a
