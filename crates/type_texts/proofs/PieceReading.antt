-- The readers of pieces and of rows.
use Rattle.std.proofs.Common.{◌≡◌, ℕ, zero, suc, ◌-◌, ◌≤◌, ◌^◌, Bool, cond, eqb, List, [], ◌∷◌, ◌++◌, length, Option, Some, None, refl, sym, ap, subst, ◌∙◌, inl, inr, arith, append_assoc, length-append}
use Rattle.std.proofs.lemmas.Bool.{eqb-true}
use Rattle.std.specs.Prelude.{pos}
use Rattle.std.specs.Fmt.{signed_decimal}
use Rattle.gv_bytes.specs.Spelling.{natural, text, number, SEMICOLON}
use Rattle.gv_bytes.specs.Reading.{◌>>=◌, Reads}
use Rattle.gv_bytes.proofs.Options.{bind_some, chosen, some_is, chain}
use Rattle.gv_bytes.proofs.Numbers.{texts}
use Rattle.type_model.specs.declared.term.TypeName.{TypeName}
use Rattle.type_texts.specs.declared.pieces.Piece.{Piece}
use Rattle.type_texts.specs.declared.pieces.Piece.TheVariants as piece
use Rattle.type_texts.specs.declared.pieces.Sort.{Sort}
use Rattle.type_texts.specs.declared.pieces.Sort.TheVariants as sort
use Rattle.type_texts.specs.Fields.{truth_of, bit_at}
use Rattle.type_texts.specs.Readers.{Reader, via_at}
use Rattle.type_texts.specs.Pieces.{sort_of, wants_of, piece_text, IsPiece, IsOfSort, defined_piece, defined_at, basic_at, array_at, chan_at, func_at, struct_at, interface_at, type_piece_at, list_at, field_piece, field_at, tag_at, method_piece, method_at, variadic_at, signature_at, piece_at, pieces_at, pieces_text, Serves}
use Rattle.type_texts.proofs.Readers.{seq}
use Rattle.type_texts.proofs.FieldReading.{names, bits, dirs, kinds, sizes}

-- the bytes begin with the piece
abbrev Begins : Sort → List ℕ → Piece × List ℕ → Type 0
Begins s bytes y = (bytes ≡ piece_text y.0 ++ y.1) × IsOfSort s y.0

-- what a reader read, made into a piece
behind : {A : Type 0} {P : A → Type 0} {t : A → List ℕ} {a : Reader A} (s : Sort) (to : A → Piece) → ((x : A) → piece_text (to x) ≡ t x) → ((x : A) → P x → IsOfSort s (to x)) → Reads P t a
    → (rest : List ℕ) (y : Piece × List ℕ) → via_at to a rest ≡ Some y → Begins s rest y
behind {A} {P} {t} {a} s to is fits r rest y e =
    let m = bind_some (a rest) (λ x. Some (to x.0, x.1)) y e in
    let u = r.takes rest m.0 m.1 in
    subst (λ (z : Piece × List ℕ). Begins s rest z) (some_is (to m.0.0, m.0.1) y m.2) (u.0 ∙ ap (λ (r : List ℕ). r ++ m.0.1) (sym (is m.0.0)), fits m.0.0 u.1)

-- the same behind a mark
marked : {A : Type 0} {P : A → Type 0} {t : A → List ℕ} {a : Reader A} (s : Sort) (c : ℕ) (to : A → Piece) → ((x : A) → piece_text (to x) ≡ c ∷ t x) → ((x : A) → P x → IsOfSort s (to x)) → Reads P t a
    → (rest : List ℕ) (y : Piece × List ℕ) → via_at to a rest ≡ Some y → Begins s (c ∷ rest) y
marked {A} {P} {t} {a} s c to is fits r rest y e =
    let m = bind_some (a rest) (λ x. Some (to x.0, x.1)) y e in
    let u = r.takes rest m.0 m.1 in
    let whole : c ∷ rest ≡ piece_text (to m.0.0) ++ m.0.1 = ap (λ (r : List ℕ). c ∷ r) u.0 ∙ ap (λ (r : List ℕ). r ++ m.0.1) (sym (is m.0.0)) in
    subst (λ (z : Piece × List ℕ). Begins s (c ∷ rest) z) (some_is (to m.0.0, m.0.1) y m.2) (whole, fits m.0.0 u.1)

-- a mark alone
alone : (c : ℕ) (p : Piece) → piece_text p ≡ c ∷ [] → IsOfSort sort.OneType p → (rest : List ℕ) (y : Piece × List ℕ) → ◌≡◌ {A = Option (Piece × List ℕ)} (Some (p, rest)) (Some y) → Begins sort.OneType (c ∷ rest) y
alone c p is fits rest y e =
    subst (λ (z : Piece × List ℕ). Begins sort.OneType (c ∷ rest) z) (some_is (p, rest) y e) (ap (λ (r : List ℕ). r ++ rest) (sym is), fits)

again : {A : Type 0} {P : A → Type 0} {t : A → List ℕ} {a : Reader A} (to : A → Piece) → Reads P t a → (x : A) (rest : List ℕ) → P x → via_at to a (t x ++ rest) ≡ Some (to x, rest)
again {A} {P} {t} {a} to r x rest fits = ap (λ (o : Option (A × List ℕ)). o >>= λ x. Some (to x.0, x.1)) (r.again x rest fits)

-- ---- the table of marks

abbrev picked : List (ℕ × Reader Piece) → ℕ → Reader Piece
picked [] c rest = None
picked (r ∷ rows) c rest = cond (eqb c r.0) (r.1 rest) (picked rows c rest)

abbrev AreRight : List (ℕ × Reader Piece) → Type 0
AreRight [] = Unit {0}
AreRight (r ∷ rows) = ((rest : List ℕ) (y : Piece × List ℕ) → r.1 rest ≡ Some y → Begins sort.OneType (r.0 ∷ rest) y) × AreRight rows

pick : (rows : List (ℕ × Reader Piece)) → AreRight rows → (c : ℕ) (rest : List ℕ) (y : Piece × List ℕ) → picked rows c rest ≡ Some y → Begins sort.OneType (c ∷ rest) y
pick [] right c rest y e = absurd cc
pick (r ∷ rows) right c rest y e =
    elim (chosen (eqb c r.0) (r.1 rest) (picked rows c rest) (Some y) e) [
      | inl p ↦ subst (λ (b : ℕ). Begins sort.OneType (b ∷ rest) y) (sym (eqb-true c r.0 p.0)) (right.0 rest y p.1)
      | inr p ↦ pick rows right.1 c rest y p.1
    ]

abbrev ROWS : List (ℕ × Reader Piece)
ROWS =
    (98, basic_at)
    ∷ (100, defined_at)
    ∷ (112, λ rest. Some (piece.Pointer, rest))
    ∷ (115, λ rest. Some (piece.Slice, rest))
    ∷ (97, array_at)
    ∷ (109, λ rest. Some (piece.Map, rest))
    ∷ (99, chan_at)
    ∷ (102, func_at)
    ∷ (116, struct_at)
    ∷ (105, interface_at)
    ∷ []

rows_right : AreRight ROWS
unfolding piece_text basic_at defined_at array_at chan_at func_at struct_at interface_at
rows_right = (
  marked sort.OneType 98 piece.Basic (λ x. refl) (λ x h. (refl, tt)) kinds,
  (
    marked sort.OneType 100 defined_piece (λ x. refl) (λ x h. (refl, (h, refl))) (seq names names),
    (
      alone 112 piece.Pointer refl (refl, tt),
      (
        alone 115 piece.Slice refl (refl, tt),
        (
          marked sort.OneType 97 piece.Array (λ x. refl) (λ x h. (refl, h)) sizes,
          (
            alone 109 piece.Map refl (refl, tt),
            (
              marked sort.OneType 99 piece.Chan (λ x. refl) (λ x h. (refl, tt)) dirs,
              (
                marked sort.OneType 102 piece.Func (λ x. refl) (λ x h. (refl, tt)) bits,
                (
                  marked sort.OneType 116 piece.Struct (λ x. refl) (λ x h. (refl, h)) sizes,
                  (
                    marked sort.OneType 105 piece.Interface (λ x. refl) (λ x h. (refl, h)) sizes,
                    tt,
                  ),
                ),
              ),
            ),
          ),
        ),
      ),
    ),
  ),
)

type_take : (bytes : List ℕ) (y : Piece × List ℕ) → type_piece_at bytes ≡ Some y → Begins sort.OneType bytes y
unfolding type_piece_at
type_take [] y e = absurd cc
type_take (c ∷ rest) y e = pick ROWS rows_right c rest y e

signature_take : (bytes : List ℕ) (y : Piece × List ℕ) → signature_at bytes ≡ Some y → Begins sort.OneSignature bytes y
unfolding signature_at variadic_at piece_text
signature_take [] y e = absurd cc
signature_take (c ∷ rest) y e =
    elim (chosen (eqb c 102) (via_at piece.Signature bit_at rest) None (Some y) e) [
      | inl p ↦ subst (λ (b : ℕ). Begins sort.OneSignature (b ∷ rest) y) (sym (eqb-true c 102 p.0)) (marked sort.OneSignature 102 piece.Signature (λ x. refl) (λ x h. (refl, tt)) bits rest y p.1)
      | inr p ↦ absurd cc
    ]

piece_take : (s : Sort) (bytes : List ℕ) (y : Piece × List ℕ) → piece_at s bytes ≡ Some y → Begins s bytes y
unfolding list_at field_at tag_at method_at piece_text
piece_take sort.OneType bytes y e = type_take bytes y e
piece_take sort.SomeTypes bytes y e = behind sort.SomeTypes piece.List (λ x. refl) (λ x h. (refl, h)) sizes bytes y e
piece_take sort.OneField bytes y e = behind sort.OneField field_piece (λ x. refl) (λ x h. (refl, (h.0, h.1.0))) (seq names (seq names bits)) bytes y e
piece_take sort.OneTag bytes y e = behind sort.OneTag piece.Tag (λ x. refl) (λ x h. (refl, h)) texts bytes y e
piece_take sort.OneMethod bytes y e = behind sort.OneMethod method_piece (λ x. refl) (λ x h. (refl, (h, refl))) (seq names names) bytes y e
piece_take sort.OneSignature bytes y e = signature_take bytes y e

-- a defined type that isn't local is what was read
is_global : (name : TypeName) → name.local ≡ 0 → defined_piece (name.package, name.name) ≡ piece.Defined name
is_global name e = ap (λ (n : ℕ). piece.Defined (record { «package» = name.package; name = name.name; local = n })) (sym e)

piece_again : (p : Piece) (rest : List ℕ) → IsPiece p → piece_at (sort_of p) (piece_text p ++ rest) ≡ Some (p, rest)
unfolding piece_text type_piece_at basic_at defined_at array_at chan_at func_at struct_at interface_at list_at field_at tag_at method_at signature_at variadic_at
piece_again (piece.Basic k) rest fits = again piece.Basic kinds k rest tt
piece_again (piece.Defined name) rest fits =
    again defined_piece (seq names names) (name.package, name.name) rest fits.0 ∙ ap (λ (p : Piece). Some (p, rest)) (is_global name fits.1)
piece_again piece.Pointer rest fits = refl
piece_again piece.Slice rest fits = refl
piece_again (piece.Array n) rest fits = again piece.Array sizes n rest fits
piece_again piece.Map rest fits = refl
piece_again (piece.Chan direction) rest fits = again piece.Chan dirs direction rest tt
piece_again (piece.Func variadic) rest fits = again piece.Func bits variadic rest tt
piece_again (piece.List n) rest fits = again piece.List sizes n rest fits
piece_again (piece.Struct n) rest fits = again piece.Struct sizes n rest fits
piece_again (piece.Field name owner embedded) rest fits = again field_piece (seq names (seq names bits)) (name, (owner, embedded)) rest (fits.0, (fits.1, tt))
piece_again (piece.Tag tag) rest fits = again piece.Tag texts tag rest fits
piece_again (piece.Interface n) rest fits = again piece.Interface sizes n rest fits
piece_again (piece.Method name owner pointer) rest fits =
    again method_piece (seq names names) (name, owner) rest fits.0 ∙ ap (λ (b : Bool). Some (piece.Method name owner b, rest)) (sym fits.1)
piece_again (piece.Signature variadic) rest fits = again piece.Signature bits variadic rest tt

pub pieces : (s : Sort) → Reads (IsOfSort s) piece_text (piece_at s)
pieces s = record {
  takes = piece_take s;
  again = λ p rest fits. subst (λ (z : Sort). piece_at z (piece_text p ++ rest) ≡ Some (p, rest)) fits.0 (piece_again p rest fits.1);
}

-- ---- rows

natural_some : (n : ℕ) → 1 ≤ length (natural n)
unfolding number
natural_some n = omega (arith, length-append (signed_decimal (pos n)) (SEMICOLON ∷ []))

text_some : (t rest : List ℕ) → 1 ≤ length (text t ++ rest)
text_some t rest = omega (arith, natural_some (length t), length-append (natural (length t)) t, length-append (text t) rest)

piece_some : (p : Piece) → 1 ≤ length (piece_text p)
unfolding piece_text
piece_some (piece.Basic k) = omega arith
piece_some (piece.Defined name) = omega arith
piece_some piece.Pointer = omega arith
piece_some piece.Slice = omega arith
piece_some (piece.Array n) = omega arith
piece_some piece.Map = omega arith
piece_some (piece.Chan direction) = omega arith
piece_some (piece.Func variadic) = omega arith
piece_some (piece.List n) = natural_some n
piece_some (piece.Struct n) = omega arith
piece_some (piece.Field name owner embedded) = text_some name (text owner ++ natural (truth_of embedded))
piece_some (piece.Tag tag) =
    let long : 1 ≤ length (text tag) = omega (arith, natural_some (length tag), length-append (natural (length tag)) tag) in long
piece_some (piece.Interface n) = omega arith
piece_some (piece.Method name owner pointer) = text_some name (text owner)
piece_some (piece.Signature variadic) = omega arith

pub row_short : (ps : List Piece) → length ps ≤ length (pieces_text ps)
row_short [] = omega arith
row_short (p ∷ ps) = omega (arith, row_short ps, piece_some p, length-append (piece_text p) (pieces_text ps))

pub row_take : (n : ℕ) (wants : List Sort) (bytes : List ℕ) (x : List Piece × List ℕ) → pieces_at n wants bytes ≡ Some x → (bytes ≡ pieces_text x.0 ++ x.1) × Serves wants x.0
unfolding pieces_at
row_take zero [] bytes x e = subst (λ (y : List Piece × List ℕ). (bytes ≡ pieces_text y.0 ++ y.1) × Serves [] y.0) (some_is ([], bytes) x e) (refl, tt)
row_take zero (s ∷ wants) bytes x e = absurd cc
row_take (suc n) [] bytes x e = subst (λ (y : List Piece × List ℕ). (bytes ≡ pieces_text y.0 ++ y.1) × Serves [] y.0) (some_is ([], bytes) x e) (refl, tt)
row_take (suc n) (s ∷ wants) bytes x e =
    let a = bind_some (piece_at s bytes) (λ first. pieces_at n (wants_of first.0 ++ wants) first.1 >>= λ more. Some (first.0 ∷ more.0, more.1)) x e in
    let b = bind_some (pieces_at n (wants_of a.0.0 ++ wants) a.0.1) (λ more. Some (a.0.0 ∷ more.0, more.1)) x a.2 in
    let t = (pieces s).takes bytes a.0 a.1 in
    let u = row_take n (wants_of a.0.0 ++ wants) a.0.1 b.0 b.1 in
    let whole : bytes ≡ pieces_text (a.0.0 ∷ b.0.0) ++ b.0.1 = chain bytes (piece_text a.0.0) a.0.1 (pieces_text b.0.0) b.0.1 t.0 u.0 in
    subst (λ (y : List Piece × List ℕ). (bytes ≡ pieces_text y.0 ++ y.1) × Serves (s ∷ wants) y.0) (some_is (a.0.0 ∷ b.0.0, b.0.1) x b.2) (whole, (t.1, u.1))

pub row_again : (n : ℕ) (wants : List Sort) (ps : List Piece) (rest : List ℕ) → length ps ≤ n → Serves wants ps → pieces_at n wants (pieces_text ps ++ rest) ≡ Some (ps, rest)
unfolding pieces_at
row_again zero [] [] rest le h = refl
row_again (suc n) [] [] rest le h = refl
row_again n [] (p ∷ ps) rest le h = absurd h
row_again n (s ∷ wants) [] rest le h = absurd h
row_again zero (s ∷ wants) (p ∷ ps) rest le h = absurd (omega (arith, le))
row_again (suc n) (s ∷ wants) (p ∷ ps) rest le h =
    ap (pieces_at (suc n) (s ∷ wants)) (append_assoc (piece_text p) (pieces_text ps) rest)
    ∙ rw ((pieces s).again p (pieces_text ps ++ rest) h.0, row_again n (wants_of p ++ wants) ps rest (omega (arith, le)) h.1) refl
