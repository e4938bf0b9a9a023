-- The reader of types: what is read is spelled so, and what is spelled so is read.
use Rattle.std.proofs.Common.{◌≡◌, ℕ, ◌≤◌, List, [], ◌∷◌, ◌++◌, length, length-append, Some, refl, sym, ap, subst, ◌∙◌, arith}
use Rattle.std.proofs.lemmas.List.{append-nil}
use Rattle.gv_bytes.specs.Reading.{◌>>=◌, Reads}
use Rattle.gv_bytes.proofs.Options.{bind_some, some_is}
use Rattle.type_model.specs.GoTypes.{GoType}
use Rattle.type_texts.specs.declared.pieces.Piece.{Piece}
use Rattle.type_texts.specs.declared.pieces.Sort.TheVariants as sort
use Rattle.type_texts.specs.Texts.{type_text, IsType}
use Rattle.type_texts.specs.Rows.{type_row}
use Rattle.type_texts.specs.Pieces.{pieces_at, pieces_text, Serves}
use Rattle.type_texts.specs.Building.{Part, TypePart, built, type_off, type_at}
use Rattle.type_texts.proofs.PieceReading.{row_short, row_take, row_again}
use Rattle.type_texts.proofs.TypeRows.{row_text, row_serves}
use Rattle.type_texts.proofs.FrontLaws.{parts_row, Are, has_type}
use Rattle.type_texts.proofs.BuildLaws.{row_built, make}

nothing_left : (parts : List Part) → Are [] parts → parts ≡ []
nothing_left [] h = refl
nothing_left (x ∷ parts) h = absurd h

-- a row that serves one type is that type's
record One (ps : List Piece) (parts : List Part) : Type 0 where
  t : GoType
  is : parts ≡ TypePart t ∷ []
  row : ps ≡ type_row t []
  fits : IsType t

one_made : (ps : List Piece) (parts : List Part) → Serves (sort.OneType ∷ []) ps → built ps ≡ Some parts → One ps parts
one_made ps parts serves e =
    let m = make (sort.OneType ∷ []) ps parts serves e in
    let h = has_type [] parts m.are in
    let whole : parts ≡ TypePart h.t ∷ [] = h.is ∙ ap (λ (x : List Part). TypePart h.t ∷ x) (nothing_left h.more h.rest) in
    record { t = h.t; is = whole; row = sym m.row ∙ ap parts_row whole; fits = h.fits }

type_take : (bytes : List ℕ) (x : GoType × List ℕ) → type_at bytes ≡ Some x → (bytes ≡ type_text x.0 ++ x.1) × IsType x.0
unfolding type_at
type_take bytes x e =
    let a = bind_some (pieces_at (length bytes) (sort.OneType ∷ []) bytes) (λ ps. built ps.0 >>= λ parts. type_off parts >>= λ t. Some (t.0, ps.1)) x e in
    let b = bind_some (built a.0.0) (λ parts. type_off parts >>= λ t. Some (t.0, a.0.1)) x a.2 in
    let t = row_take (length bytes) (sort.OneType ∷ []) bytes a.0 a.1 in
    let one = one_made a.0.0 b.0 t.1 b.1 in
    let final : (one.t, a.0.1) ≡ x = some_is (one.t, a.0.1) x (ap (λ (parts : List Part). type_off parts >>= λ t. Some (t.0, a.0.1)) (sym one.is) ∙ b.2) in
    let spelled : bytes ≡ type_text one.t ++ a.0.1 = t.0 ∙ ap (λ (r : List ℕ). r ++ a.0.1) (ap pieces_text one.row ∙ row_text one.t [] ∙ append-nil (type_text one.t)) in
    subst (λ (y : GoType × List ℕ). (bytes ≡ type_text y.0 ++ y.1) × IsType y.0) final (spelled, one.fits)

type_again : (t : GoType) (rest : List ℕ) → IsType t → type_at (type_text t ++ rest) ≡ Some (t, rest)
unfolding type_at
type_again t rest fits =
    let row = type_row t [] in
    let spelled : pieces_text row ≡ type_text t = row_text t [] ∙ append-nil (type_text t) in
    let short : length row ≤ length (type_text t ++ rest) = omega (arith, row_short row, ap length spelled, length-append (type_text t) rest) in
    let read : pieces_at (length (type_text t ++ rest)) (sort.OneType ∷ []) (type_text t ++ rest) ≡ Some (row, rest) =
    ap (λ (r : List ℕ). pieces_at (length (type_text t ++ rest)) (sort.OneType ∷ []) (r ++ rest)) (sym spelled) ∙ row_again (length (type_text t ++ rest)) (sort.OneType ∷ []) row rest short (row_serves t [] [] fits.fits tt) in
    rw (read, row_built t [] [] fits.fits fits.small refl) refl

pub types : Reads IsType type_text type_at
types = record { takes = type_take; again = type_again }
