-- No word begins another, so the word of a command is read in one way.
use Rattle.std.proofs.Common.{◌≡◌, inl, inr, ℕ, zero, suc, ◌^◌, ◌<◌, List, [], ◌∷◌, ◌++◌, length, get_or, refl, sym, ap, ◌∙◌, arith, append_assoc, Bool, true, false}
use Rattle.std.specs.Prelude.{◌==◌, ◌||◌, not}
use Rattle.std.specs.List.{list_all}
use Rattle.std.proofs.lemmas.List.{length-append}
use Rattle.std.proofs.lemmas.Bool.{or_cases, eqb-true, eq-eqb, and_parts}
use Rattle.gv_base.specs.Paths.{IsPath}
use Rattle.scripts.specs.declared.word.Word.{Word}
use Rattle.scripts.specs.declared.word.Word.TheVariants.{Put, Del, Show, Check, Report, Facts, Fix, Stats, End}
use Rattle.scripts.specs.declared.word.Shape.{Shape}
use Rattle.scripts.specs.declared.word.Shape.TheVariants.{Bare, Path, File}
use Rattle.scripts.specs.Words.{text_of, shape_of, number_of, words, differ, are_apart}
use Rattle.scripts.specs.Script.{Fields, bare, at_path, with_file, Fit, field_text, Command, spelling, Begins, IsBeginning, NoCommand}
use Rattle.scripts.proofs.FileLaws.{FieldsPart, FieldsOther}

word-nonempty : (w : Word) (f : Fields) → 0 < length (spelling (record { word = w; fields = f }))
word-nonempty Put f = omega arith
word-nonempty Del f = omega arith
word-nonempty Show f = omega arith
word-nonempty Check f = omega arith
word-nonempty Report f = omega arith
word-nonempty Facts f = omega arith
word-nonempty Fix f = omega arith
word-nonempty Stats f = omega arith
word-nonempty End f = omega arith

-- a command has bytes
pub nonempty : (c : Command) → 0 < length (spelling c)
nonempty c = word-nonempty c.word c.fields

-- the table is read by its numbers
number_of-at : (w : Word) → get_or words (number_of w) End ≡ w
number_of-at Put = refl
number_of-at Del = refl
number_of-at Show = refl
number_of-at Check = refl
number_of-at Report = refl
number_of-at Facts = refl
number_of-at Fix = refl
number_of-at Stats = refl
number_of-at End = refl

pub number_of-below : (w : Word) → number_of w < length words
number_of-below Put = omega arith
number_of-below Del = omega arith
number_of-below Show = omega arith
number_of-below Check = omega arith
number_of-below Report = omega arith
number_of-below Facts = omega arith
number_of-below Fix = omega arith
number_of-below Stats = omega arith
number_of-below End = omega arith

pub number_of-injective : (w v : Word) → number_of w ≡ number_of v → w ≡ v
number_of-injective w v e = sym (number_of-at w) ∙ ap (λ n. get_or words n End) e ∙ number_of-at v

all-at : (p : Word → Bool) (ws : List Word) (i : ℕ) → i < length ws → list_all p ws ≡ true → p (get_or ws i End) ≡ true
all-at p [] i h a = absurd (omega arith)
all-at p (w ∷ ws) zero h a = (and_parts (p w) (list_all p ws) a).0
all-at p (w ∷ ws) (suc i) h a = all-at p ws i (omega arith) (and_parts (p w) (list_all p ws) a).1

all-words : (p : Word → Bool) → list_all p words ≡ true → (w : Word) → p w ≡ true
all-words p a w = ap p (sym (number_of-at w)) ∙ all-at p words (number_of w) (number_of-below w) a

-- the test over the whole table
apart : are_apart words ≡ true
apart = refl

differ-false : (xs ys a b : List ℕ) → differ xs ys ≡ true → xs ++ a ≡ ys ++ b → ⊥
differ-false [] ys a b d e = let f : ◌≡◌ {A = Bool} false true = d in cc
differ-false (x ∷ xs) [] a b d e = let f : ◌≡◌ {A = Bool} false true = d in cc
differ-false (x ∷ xs) (y ∷ ys) a b d e =
    let heads : x ≡ y = cc in
    let tails : xs ++ a ≡ ys ++ b = cc in
    elim (or_cases (not (x == y)) (differ xs ys) d) [
      | inl n ↦ let f : not (y == y) ≡ true = rw heads at n in absurd (self y f)
      | inr r ↦ differ-false xs ys a b r tails
    ]
  where
    self : (y : ℕ) → not (y == y) ≡ true → ⊥
    self y f = let t : (y == y) ≡ true = eq-eqb y y refl in let g : ◌≡◌ {A = Bool} false true = ap not (sym t) ∙ f in cc

-- texts that begin with two words begin with one
pub same-word : (w v : Word) (a b : List ℕ) → text_of w ++ a ≡ text_of v ++ b → w ≡ v
same-word w v a b e = elim (or_cases (number_of w == number_of v) (differ (text_of w) (text_of v)) test) [
  | inl n ↦ number_of-injective w v (eqb-true (number_of w) (number_of v) n)
  | inr d ↦ absurd (differ-false (text_of w) (text_of v) a b d e)
]
  where
    test : (number_of w == number_of v || differ (text_of w) (text_of v)) ≡ true
    test = all-words (λ u. number_of w == number_of u || differ (text_of w) (text_of u)) (all-words (λ x. list_all (λ u. number_of x == number_of u || differ (text_of x) (text_of u)) words) apart w) v

pub cancel : (w x y : List ℕ) → w ++ x ≡ w ++ y → x ≡ y
cancel [] x y e = e
cancel (a ∷ w) x y e = cancel w x y (let t : w ++ x ≡ w ++ y = cc in t)

short-path : IsPath (97 ∷ [])
short-path = record { first = 97 ∷ []; others = []; first_lawful = record { each = refl; some = omega arith; not_here = λ e. (let h : 97 ≡ 46 = ap (λ z. get_or z 0 0) e in omega arith); not_above = λ e. (let h : 97 ≡ 46 = ap (λ z. get_or z 0 0) e in omega arith) }; others_lawful = tt; parts = refl; most = omega arith }

-- each shape has fields
some_fields : (s : Shape) → (fields : Fields) × Fit s fields
some_fields Bare = (bare, tt)
some_fields Path = (at_path (97 ∷ []), short-path)
some_fields File = (with_file (97 ∷ []) [], (short-path, (let s : length {A = ℕ} [] < 10 ^ 9 = omega arith in s)))

-- a word that has not ended
pub word-part : (bytes : List ℕ) → (word : Word) × (more : List ℕ) × (0 < length more) × (bytes ++ more ≡ text_of word) → IsBeginning bytes
word-part bytes h =
    let f = some_fields (shape_of h.0) in
    let some = h.2 in
    record { command = record { word = h.0; fields = f.0 }; lawful = f.1; more = h.1 ++ field_text f.0; missing = simp length-append (omega arith); spelled = sym (append_assoc bytes h.1 (field_text f.0)) ∙ ap (λ z. z ++ field_text f.0) h.3 }

-- no word
pub word-other : (bytes : List ℕ) → ((word : Word) (more after : List ℕ) → bytes ++ more ≡ text_of word ++ after → ⊥) → NoCommand bytes
word-other bytes h command lawful more after e = h command.word more (field_text command.fields ++ after) (e ∙ append_assoc (text_of command.word) (field_text command.fields) after)

-- after a word
pub fields-whole : (bytes rest more : List ℕ) (word : Word) (fields : Fields) → bytes ≡ text_of word ++ rest → Fit (shape_of word) fields → rest ≡ field_text fields ++ more → Begins (record { word = word; fields = fields }) bytes more
fields-whole bytes rest more word fields e f s = record { lawful = f; spelled = e ∙ ap (λ z. text_of word ++ z) s ∙ sym (append_assoc (text_of word) (field_text fields) more) }

pub fields-part : (bytes rest : List ℕ) (word : Word) → bytes ≡ text_of word ++ rest → FieldsPart (shape_of word) rest → IsBeginning bytes
fields-part bytes rest word e h = record { command = record { word = word; fields = h.0 }; lawful = h.2; more = h.1; missing = h.3; spelled = ap (λ z. z ++ h.1) e ∙ append_assoc (text_of word) rest h.1 ∙ ap (λ z. text_of word ++ z) h.4 }

pub fields-other : (bytes rest : List ℕ) (word : Word) → bytes ≡ text_of word ++ rest → FieldsOther (shape_of word) rest → NoCommand bytes
fields-other bytes rest word e h command lawful more after w =
    let t : text_of word ++ (rest ++ more) ≡ text_of command.word ++ (field_text command.fields ++ after) = sym (append_assoc (text_of word) rest more) ∙ ap (λ z. z ++ more) (sym e) ∙ w ∙ append_assoc (text_of command.word) (field_text command.fields) after in
    let s : word ≡ command.word = same-word word command.word (rest ++ more) (field_text command.fields ++ after) t in
    let f : Fit (shape_of word) command.fields = rw s lawful in
    h command.fields more after f (cancel (text_of word) (rest ++ more) (field_text command.fields ++ after) (t ∙ ap (λ z. text_of z ++ (field_text command.fields ++ after)) (sym s)))
