-- No command begins another, so a script is read in one way.
use Rattle.std.proofs.Common.{◌≡◌, ℕ, ◌+◌, ◌≤◌, List, [], ◌∷◌, ◌++◌, length, refl, sym, ap, ◌∙◌, arith, append_assoc, subst}
use Rattle.std.proofs.lemmas.List.{append-nil, length-append}
use Rattle.std.proofs.lemmas.Fmt.{decimal_injective}
use Rattle.std.specs.List.{flat_map}
use Rattle.std.specs.Fmt.{decimal}
use Rattle.scripts.specs.declared.word.Word.{Word}
use Rattle.scripts.specs.declared.word.Shape.{Shape}
use Rattle.scripts.specs.declared.word.Shape.TheVariants.{Bare, Path, File}
use Rattle.scripts.specs.Words.{text_of, shape_of}
use Rattle.scripts.specs.Script.{Fields, bare, at_path, with_file, Fit, field_text, Command, spelling, IsLawful}
use Rattle.scripts.specs.Segments.{is_path_byte}
use Rattle.scripts.specs.Runs.{is_digit}
use Rattle.scripts.proofs.RunLaws.{run-unique}
use Rattle.scripts.proofs.PathLaws.{path-bytes}
use Rattle.scripts.proofs.FieldLaws.{decimal-digits}
use Rattle.scripts.proofs.WordLaws.{same-word, cancel}

record SameParts (u v x y : List ℕ) : Type 0 where
  first : u ≡ v
  second : x ≡ y

same-length : (u v x y : List ℕ) → length u ≡ length v → u ++ x ≡ v ++ y → SameParts u v x y
same-length [] [] x y l e = record { first = refl; second = e }
same-length [] (b ∷ v) x y l e = absurd (omega arith)
same-length (a ∷ u) [] x y l e = absurd (omega arith)
same-length (a ∷ u) (b ∷ v) x y l e =
    let r = same-length u v x y (omega arith) (let t : u ++ x ≡ v ++ y = cc in t) in
    record { first = let f = r.first in cc; second = r.second }

record SameFields (f g : Fields) (x y : List ℕ) : Type 0 where
  fields : f ≡ g
  rest : x ≡ y

-- fields of one shape are read in one way
fields_prefix_free : (s : Shape) (f g : Fields) (x y : List ℕ) → Fit s f → Fit s g → field_text f ++ x ≡ field_text g ++ y → SameFields f g x y
fields_prefix_free Bare bare bare x y h k e = record { fields = refl; rest = e }
fields_prefix_free Bare bare (at_path q) x y h k e = absurd k
fields_prefix_free Bare bare (with_file q d) x y h k e = absurd k
fields_prefix_free Bare (at_path p) g x y h k e = absurd h
fields_prefix_free Bare (with_file p b) g x y h k e = absurd h
fields_prefix_free Path bare g x y h k e = absurd h
fields_prefix_free Path (with_file p b) g x y h k e = absurd h
fields_prefix_free Path (at_path p) bare x y h k e = absurd k
fields_prefix_free Path (at_path p) (with_file q d) x y h k e = absurd k
fields_prefix_free Path (at_path p) (at_path q) x y h k e =
    let s = run-unique is_path_byte p q 10 10 x y (path-bytes p h) (path-bytes q k) refl refl (sym (append_assoc p (10 ∷ []) x) ∙ e ∙ append_assoc q (10 ∷ []) y) in
    record { fields = ap at_path s.run; rest = s.rest }
fields_prefix_free File bare g x y h k e = absurd h
fields_prefix_free File (at_path p) g x y h k e = absurd h
fields_prefix_free File (with_file p b) bare x y h k e = absurd k
fields_prefix_free File (with_file p b) (at_path q) x y h k e = absurd k
fields_prefix_free File (with_file p b) (with_file q d) x y h k e =
    let s = run-unique is_path_byte p q 32 32 ((decimal (length b) ++ 10 ∷ (b ++ 10 ∷ [])) ++ x) ((decimal (length d) ++ 10 ∷ (d ++ 10 ∷ [])) ++ y) (path-bytes p h.0) (path-bytes q k.0) refl refl
    (sym (append_assoc p (32 ∷ (decimal (length b) ++ 10 ∷ (b ++ 10 ∷ []))) x) ∙ e ∙ append_assoc q (32 ∷ (decimal (length d) ++ 10 ∷ (d ++ 10 ∷ []))) y) in
    let t = run-unique is_digit (decimal (length b)) (decimal (length d)) 10 10 ((b ++ 10 ∷ []) ++ x) ((d ++ 10 ∷ []) ++ y) (decimal-digits (length b) h.1) (decimal-digits (length d) k.1) refl refl
    (sym (append_assoc (decimal (length b)) (10 ∷ (b ++ 10 ∷ [])) x) ∙ s.rest ∙ append_assoc (decimal (length d)) (10 ∷ (d ++ 10 ∷ [])) y) in
    let small = h.1 in
    let small' = k.1 in
    let l : length b ≡ length d = decimal_injective (length b) (length d) (omega arith) (omega arith) t.run in
    let u = same-length b d (10 ∷ x) (10 ∷ y) l (sym (append_assoc b (10 ∷ []) x) ∙ t.rest ∙ append_assoc d (10 ∷ []) y) in
    record { fields = ap (λ z. with_file z b) s.run ∙ ap (λ z. with_file q z) u.first; rest = cancel (10 ∷ []) x y u.second }

pub record SameCommand (c d : Command) (x y : List ℕ) : Type 0 where
  pub command : c ≡ d
  pub rest : x ≡ y

-- no command begins another
pub prefix_free : (c d : Command) (x y : List ℕ) → IsLawful c → IsLawful d → spelling c ++ x ≡ spelling d ++ y → SameCommand c d x y
prefix_free c d x y h k e =
    let t : text_of c.word ++ (field_text c.fields ++ x) ≡ text_of d.word ++ (field_text d.fields ++ y) = sym (append_assoc (text_of c.word) (field_text c.fields) x) ∙ e ∙ append_assoc (text_of d.word) (field_text d.fields) y in
    let w : c.word ≡ d.word = same-word c.word d.word (field_text c.fields ++ x) (field_text d.fields ++ y) t in
    let k' : Fit (shape_of c.word) d.fields = rw w k in
    let u : field_text c.fields ++ x ≡ field_text d.fields ++ y = cancel (text_of c.word) (field_text c.fields ++ x) (field_text d.fields ++ y) (t ∙ ap (λ z. text_of z ++ (field_text d.fields ++ y)) (sym w)) in
    let f = fields_prefix_free (shape_of c.word) c.fields d.fields x y h k' u in
    record { command = ap (λ z. record { word = z; fields = c.fields }) w ∙ ap (λ z. record { word = d.word; fields = z }) f.fields; rest = f.rest }
