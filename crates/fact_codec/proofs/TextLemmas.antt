-- The reader of a table: what is read is spelled so, and what is spelled so is read.
use Rattle.std.proofs.Common.{◌≡◌, ℕ, Bool, true, false, cond, List, ◌++◌, Option, Some, None, IsTrue, refl, sym, ap, subst, ◌∙◌}
use Rattle.std.specs.Str.{IsUtf8, is_utf8}
use Rattle.std.proofs.lemmas.Str.{IsUtf8-from_is_utf8, is_utf8-from_IsUtf8}
use Rattle.std.proofs.lemmas.Option.{cond_some}
use Rattle.gv_bytes.specs.Spelling.{text, items, AreItems}
use Rattle.gv_bytes.specs.Reading.{◌>>=◌, Reads, text_at, items_at}
use Rattle.gv_bytes.proofs.Options.{bind_some, some_is, just}
use Rattle.gv_bytes.proofs.Numbers.{texts}
use Rattle.gv_bytes.proofs.Items.{lists}
use Rattle.fact_codec.specs.Tables.{AreInOrder, names_rise}
use Rattle.fact_codec.specs.Texts.{Reader, entry, IsName, IsEntry, AreFacts, kept_at, whole_at, utf8_of, name_at, entry_at, table_in}
use Rattle.fact_codec.proofs.OrderLemmas.{order_risen, risen_order}
use Rattle.fact_codec.proofs.Readers.{seq, kept, whole_take, whole_again}

pub utf8_some : (bytes text : List ℕ) → text ≡ bytes → IsUtf8 bytes → utf8_of bytes ≡ Some text
utf8_some bytes text same good = rw (is_utf8-from_IsUtf8 bytes good, same) refl

utf8_refused : (bytes : List ℕ) (b : Bool) → is_utf8 bytes ≡ b → (IsUtf8 bytes → ⊥) → cond b (just bytes) None ≡ None
utf8_refused bytes true e bad = absurd (bad (IsUtf8-from_is_utf8 bytes e))
utf8_refused bytes false e bad = refl

pub utf8_none : (bytes : List ℕ) → (IsUtf8 bytes → ⊥) → utf8_of bytes ≡ None
utf8_none bytes bad = utf8_refused bytes (is_utf8 bytes) refl bad

name_take : (bytes : List ℕ) (x : List ℕ × List ℕ) → name_at bytes ≡ Some x → (bytes ≡ text x.0 ++ x.1) × IsName x.0
unfolding name_at
name_take bytes x e =
    let a = bind_some (text_at bytes) (λ t. utf8_of t.0 >>= λ name. Some (name, t.1)) x e in
    let b = bind_some (utf8_of a.0.0) (λ name. Some (name, a.0.1)) x a.2 in
    let t = texts.takes bytes a.0 a.1 in
    let g = cond_some (is_utf8 a.0.0) a.0.0 b.0 b.1 in
    let good : IsUtf8 a.0.0 = IsUtf8-from_is_utf8 a.0.0 g.0 in
    let same : (a.0.0, a.0.1) ≡ x = ap (λ (n : List ℕ). (n, a.0.1)) g.1 ∙ some_is (b.0, a.0.1) x b.2 in
    subst (λ (y : List ℕ × List ℕ). (bytes ≡ text y.0 ++ y.1) × IsName y.0) same (t.0, (t.1, good))

name_again : (name rest : List ℕ) → IsName name → name_at (text name ++ rest) ≡ Some (name, rest)
unfolding name_at
name_again name rest fits = rw (texts.again name rest fits.0, is_utf8-from_IsUtf8 name fits.1) refl

pub names : Reads IsName text name_at
names = record { takes = name_take; again = name_again }

module _ {F : Type 0} {spelling : F → List ℕ} {fact_at : Reader F} (facts : Reads (λ (fact : F). Unit {0}) spelling fact_at) where
  entries : Reads IsEntry (entry spelling) (entry_at fact_at)
  unfolding entry_at
  entries = seq names facts

  tables : Reads (λ (t : List (List ℕ × F)). AreItems IsEntry t × IsTrue (names_rise t)) (items (entry spelling)) (kept_at names_rise (items_at (entry_at fact_at)))
  tables = kept names_rise (lists entries)

  pub table_take : (bytes : List ℕ) (t : List (List ℕ × F)) → table_in fact_at bytes ≡ Some t → AreFacts spelling t bytes
  unfolding table_in
  table_take bytes t e = let u = whole_take tables bytes t e in record { value = u.0.0; order = order_risen t u.0.1; whole = u.1 }

  pub spelled_is_read : (bytes : List ℕ) (t : List (List ℕ × F)) → AreFacts spelling t bytes → table_in fact_at bytes ≡ Some t
  unfolding table_in
  spelled_is_read bytes t h = ap (whole_at (kept_at names_rise (items_at (entry_at fact_at)))) h.whole ∙ whole_again tables t (h.value, risen_order t h.order)
