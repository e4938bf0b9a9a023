-- Lists of names in words.
use Rattle.std.proofs.lemmas.Bool.{cases_lt}
use Rattle.std.proofs.Common.{◌≡◌, ◌≢◌, inl, inr, ℕ, zero, suc, ◌+◌, ◌<◌, ◌≤◌, List, [], ◌∷◌, length, take, drop, get_or, map, Bool, true, false, ◌||◌, Option, Some, None, option_map, option_and_then, bytes_eq, refl, ap, sym, ◌∙◌, arith, fold, cond}
use Rattle.std.specs.List.{list_any, AllByRecursion}
use Rattle.std.proofs.lemmas.Option.{none-some, same_Some}
use Rattle.std.proofs.lemmas.List.{take_all}
use Rattle.std.proofs.lemmas.Slice.Eq.{bytes_eq-Decides}
use Rattle.analysis_core.specs.declared.analyzer_name.AnalyzerName.{AnalyzerName}
use Rattle.analysis_core.specs.declared.analyzer_name.AnalyzerName.TheVariants as analyzer
use Rattle.analysis_core.specs.AnalyzerNames.{name_of, number_of, analyzer_named, analyzer_numbered, first_with, ANALYZERS}
use Rattle.words.specs.Lists.{is_comma, onto_first, pieces_of, set_with, with_piece, with_names, set_named}
use Rattle.words.specs.Grammar.{IsNamed}

or-false : (a b : Bool) → (a || b) ≡ false → (a ≡ false) × (b ≡ false)
or-false true b e = absurd (let f : ◌≡◌ {A = Bool} true false = e in cc)
or-false false b e = (refl, e)

-- a text without a comma is one piece
pub cut-whole : (text : List ℕ) → list_any is_comma text ≡ false → pieces_of text ≡ text ∷ []
cut-whole [] h = refl
cut-whole (b ∷ bs) h =
    let k = or-false (is_comma b) (list_any is_comma bs) h in
    ap (λ c. cond c ([] ∷ pieces_of bs) (onto_first b (pieces_of bs))) k.0 ∙ ap (onto_first b) (cut-whole bs k.1)

comma-test : (b : ℕ) → b ≡ 44 → is_comma b ≡ true
comma-test b e = rw e refl

-- a text up to its first comma, and the pieces behind it
pub cut-comma : (text : List ℕ) (n : ℕ) → n < length text → list_any is_comma (take n text) ≡ false → get_or text n 0 ≡ 44 → pieces_of text ≡ take n text ∷ pieces_of (drop (n + 1) text)
cut-comma [] n lt h e = absurd (omega (arith, lt))
cut-comma (b ∷ bs) zero lt h e = ap (λ c. cond c ([] ∷ pieces_of bs) (onto_first b (pieces_of bs))) (comma-test b e)
cut-comma (b ∷ bs) (suc n) lt h e =
    let k = or-false (is_comma b) (list_any is_comma (take n bs)) h in
    let s : suc n + 1 ≡ suc (n + 1) = omega arith in
    ap (λ c. cond c ([] ∷ pieces_of bs) (onto_first b (pieces_of bs))) k.0
    ∙ ap (onto_first b) (cut-comma bs n (omega (arith, lt)) k.1 e)
    ∙ ap (λ m. (b ∷ take n bs) ∷ pieces_of (drop m (b ∷ bs))) (sym s)

pub told : (a : AnalyzerName) → analyzer_named (name_of a) ≡ Some a
told analyzer.Assign = refl
told analyzer.Bools = refl
told analyzer.CopyLocks = refl
told analyzer.CtrlFlow = refl
told analyzer.NilFunc = refl
told analyzer.Printf = refl
told analyzer.StringIntConv = refl
told analyzer.StructTag = refl
told analyzer.Unreachable = refl
told analyzer.UnusedResult = refl

row-named : (name : List ℕ) (rows : List (AnalyzerName × List ℕ)) (a : AnalyzerName) → AllByRecursion (λ row. name_of row.0 ≡ row.1) rows → first_with (λ row. bytes_eq row.1 name) rows ≡ Some a → name_of a ≡ name
row-named name [] a all e = absurd (none-some a e)
row-named name (row ∷ rows) a all e = found (bytes_eq row.1 name) refl e (row-named name rows a all.1)
  where
    found : (b : Bool) → bytes_eq row.1 name ≡ b → cond b (Some row.0) (first_with (λ row. bytes_eq row.1 name) rows) ≡ Some a → (first_with (λ row. bytes_eq row.1 name) rows ≡ Some a → name_of a ≡ name) → name_of a ≡ name
    found true is e more = let s : row.0 ≡ a = same_Some row.0 a e in ap name_of (sym s) ∙ all.0 ∙ (bytes_eq-Decides row.1 name).0 is
    found false is e more = more e

pub name-told : (name : List ℕ) (a : AnalyzerName) → analyzer_named name ≡ Some a → name_of a ≡ name
name-told name a e = row-named name ANALYZERS a (refl, (refl, (refl, (refl, (refl, (refl, (refl, (refl, (refl, (refl, tt)))))))))) e

all-named : (analyzers : List AnalyzerName) (set : ℕ) → with_names set (map name_of analyzers) ≡ Some (fold set_with set analyzers)
all-named [] set = refl
all-named (a ∷ analyzers) set = ap (λ o. option_and_then (λ more. with_names more (map name_of analyzers)) (option_map (set_with set) o)) (told a) ∙ all-named analyzers (set_with set a)

-- these names are analyzers', and make the set
pub record Names (names : List (List ℕ)) (set r : ℕ) : Type 0 where
  pub analyzers : List AnalyzerName
  pub are : map name_of analyzers ≡ names
  pub set_is : r ≡ fold set_with set analyzers

named-all : (names : List (List ℕ)) (set r : ℕ) → with_names set names ≡ Some r → Names names set r
named-all [] set r e = record { analyzers = []; are = refl; set_is = sym (same_Some set r e) }
named-all (name ∷ names) set r e = at (analyzer_named name) refl e (λ more. named-all names more r)
  where
    at : (o : Option AnalyzerName) → analyzer_named name ≡ o → option_and_then (λ more. with_names more names) (option_map (set_with set) o) ≡ Some r → ((more : ℕ) → with_names more names ≡ Some r → Names names more r) → Names (name ∷ names) set r
    at None is e rest = absurd (none-some r e)
    at (Some a) is e rest =
        let k = rest (set_with set a) e in
        record { analyzers = a ∷ k.analyzers; are = ap (λ z. z ∷ map name_of k.analyzers) (name-told name a is) ∙ ap (λ z. name ∷ z) k.are; set_is = k.set_is }

pub set-named : (text : List ℕ) (set : ℕ) → IsNamed text set → set_named text ≡ Some set
set-named text set h = ap (with_names 0) (sym h.names) ∙ all-named h.analyzers 0 ∙ ap Some (sym h.are)

pub named-set : (text : List ℕ) (set : ℕ) → set_named text ≡ Some set → IsNamed text set
named-set text set e = let k = named-all (pieces_of text) 0 set e in record { analyzers = k.analyzers; names = k.are; are = k.set_is }

by-number : (n : ℕ) (a : AnalyzerName) (name : List ℕ) → ((b : AnalyzerName) → number_of b < n → name_of b ≢ name) → ((b : AnalyzerName) → number_of b ≡ n → name_of b ≢ name) → number_of a < n + 1 → name_of a ≢ name
by-number n a name below here lt = elim (cases_lt (number_of a) n) [ inl less ↦ below a less | inr more ↦ here a (omega (arith, lt, more)) ]

-- one number further
pub none-below : (n : ℕ) (name : List ℕ) → ((b : AnalyzerName) → number_of b < n → name_of b ≢ name) → ((b : AnalyzerName) → number_of b ≡ n → name_of b ≢ name) → (a : AnalyzerName) → number_of a < n + 1 → name_of a ≢ name
none-below n name below here a lt = by-number n a name below here lt

number-within : (a : AnalyzerName) → number_of a < 11
number-within analyzer.Assign = omega arith
number-within analyzer.Bools = omega arith
number-within analyzer.CopyLocks = omega arith
number-within analyzer.CtrlFlow = omega arith
number-within analyzer.NilFunc = omega arith
number-within analyzer.Printf = omega arith
number-within analyzer.StringIntConv = omega arith
number-within analyzer.StructTag = omega arith
number-within analyzer.Unreachable = omega arith
number-within analyzer.UnusedResult = omega arith

-- a name that none has
pub unnamed : (name : List ℕ) → ((a : AnalyzerName) → number_of a < 11 → name_of a ≢ name) → None ≡ analyzer_named name
unnamed name none = at (analyzer_named name) refl
  where
    at : (o : Option AnalyzerName) → analyzer_named name ≡ o → None ≡ o
    at None e = refl
    at (Some a) e = absurd (none a (number-within a) (name-told name a e))

pub named : (name : List ℕ) (a : AnalyzerName) → name_of a ≡ name → Some a ≡ analyzer_named name
named name a e = sym (ap analyzer_named (sym e) ∙ told a)

numbered : (a : AnalyzerName) → analyzer_numbered (number_of a) ≡ Some a
numbered analyzer.Assign = refl
numbered analyzer.Bools = refl
numbered analyzer.CopyLocks = refl
numbered analyzer.CtrlFlow = refl
numbered analyzer.NilFunc = refl
numbered analyzer.Printf = refl
numbered analyzer.StringIntConv = refl
numbered analyzer.StructTag = refl
numbered analyzer.Unreachable = refl
numbered analyzer.UnusedResult = refl

-- the analyzer of a number is the only one of it
pub only-one : (n : ℕ) (a b : AnalyzerName) → analyzer_numbered n ≡ Some a → number_of b ≡ n → b ≡ a
only-one n a b e m = same_Some b a (sym (numbered b) ∙ ap analyzer_numbered m ∙ e)

pub no-one : (n : ℕ) (b : AnalyzerName) → analyzer_numbered n ≡ None → number_of b ≡ n → ⊥
no-one n b e m = none-some b (sym e ∙ ap analyzer_numbered (sym m) ∙ numbered b)

-- a text up to its first comma or its end
pub record Cut (text : List ℕ) (n : ℕ) : Type 0 where
  pub tail : List (List ℕ)
  pub is : pieces_of text ≡ take n text ∷ tail
  pub more : n < length text → tail ≡ pieces_of (drop (n + 1) text)
  pub ends : n ≡ length text → tail ≡ []

pub cut-at : (text : List ℕ) (n : ℕ) → n ≤ length text → list_any is_comma (take n text) ≡ false → (n < length text → get_or text n 0 ≡ 44) → Cut text n
cut-at text n within plain stops = elim (cases_lt n (length text)) [
  | inl lt ↦ record { tail = pieces_of (drop (n + 1) text); is = cut-comma text n lt plain (stops lt); more = λ h. refl; ends = λ e. absurd (omega (arith, lt, e)) }
  | inr ge ↦ (let all : take n text ≡ text = take_all n text ge in record { tail = []; is = cut-whole text (ap (list_any is_comma) (sym all) ∙ plain) ∙ ap (λ z. z ∷ []) (sym all); more = λ h. absurd (omega (arith, ge, h)); ends = λ e. refl })
]

pub none-at : (set : ℕ) (text : List ℕ) (n : ℕ) → Cut text n → None ≡ with_piece set (take n text) → None ≡ with_names set (pieces_of text)
none-at set text n cut e = ap (option_and_then (λ more. with_names more cut.tail)) e ∙ ap (with_names set) (sym cut.is)

pub end-at : (set : ℕ) (text : List ℕ) (n more : ℕ) → Cut text n → n ≡ length text → Some more ≡ with_piece set (take n text) → Some more ≡ with_names set (pieces_of text)
end-at set text n more cut last e = ap (with_names more) (sym (cut.ends last)) ∙ ap (option_and_then (λ more. with_names more cut.tail)) e ∙ ap (with_names set) (sym cut.is)

pub more-at : (set : ℕ) (text : List ℕ) (n more : ℕ) → Cut text n → n < length text → Some more ≡ with_piece set (take n text) → with_names set (pieces_of text) ≡ with_names more (pieces_of (drop (n + 1) text))
more-at set text n more cut lt e = ap (with_names set) cut.is ∙ ap (option_and_then (λ more. with_names more cut.tail)) (sym e) ∙ ap (with_names more) (cut.more lt)
