-- Pieces of texts, and the lines of a text.
use Rattle.std.proofs.Common.{◌≡◌, ℕ, suc, ◌+◌, ◌<◌, ◌≤◌, List, [], ◌∷◌, ◌++◌, length, take, drop, get_or, Bool, true, false, cond, ◌==◌, Option, Some, None, refl, ap, sym, ◌∙◌, arith, append_assoc, drop-cons, add-one}
use Rattle.std.proofs.lemmas.List.{append-nil, drop_all, take_all, take_more}
use Rattle.import_graph.specs.Sources.{onto_first}
use Rattle.import_graph.specs.Modules.{stops, until, lines_of, module_line, is_module_line}
use Rattle.import_graph.specs.declared.go_mod.Stop.{Stop}
use Rattle.import_graph.specs.declared.go_mod.Stop.TheVariants.{Line}

cut : (xs : List ℕ) (at : ℕ) → at < length xs → drop at xs ≡ get_or xs at 0 ∷ drop (at + 1) xs
cut xs at l = rw (add-one, drop-cons xs at 0) refl

until-step : (s : Stop) (xs : List ℕ) (at : ℕ) → at < length xs → (b : Bool) → stops s (drop at xs) ≡ b
    → until s (drop at xs) ≡ cond b [] (get_or xs at 0 ∷ until s (drop (at + 1) xs))
until-step s xs at l b e =
    let q = cut xs at l in
    ap (until s) q ∙ ap (λ t. cond t [] (get_or xs at 0 ∷ until s (drop (at + 1) xs))) (ap (stops s) (sym q) ∙ e)

-- the piece ends here
pub until-here : (s : Stop) (xs : List ℕ) (at : ℕ) → at < length xs → stops s (drop at xs) ≡ true → until s xs ≡ take at xs ++ until s (drop at xs) → until s xs ≡ take at xs
until-here s xs at l e w = w ∙ ap (λ t. take at xs ++ t) (until-step s xs at l true e) ∙ append-nil (take at xs)

-- a byte more of the piece
pub until-on : (s : Stop) (xs : List ℕ) (at : ℕ) → at < length xs → stops s (drop at xs) ≡ false → until s xs ≡ take at xs ++ until s (drop at xs) → until s xs ≡ take (at + 1) xs ++ until s (drop (at + 1) xs)
until-on s xs at l e w =
    w ∙ ap (λ t. take at xs ++ t) (until-step s xs at l false e)
    ∙ sym (append_assoc (take at xs) (get_or xs at 0 ∷ []) (until s (drop (at + 1) xs)))
    ∙ ap (λ t. t ++ until s (drop (at + 1) xs)) (sym (take_more xs at 0 l))

-- all bytes are of the piece
pub until-end : (s : Stop) (xs : List ℕ) (at : ℕ) → length xs ≤ at → until s xs ≡ take at xs ++ until s (drop at xs) → until s xs ≡ xs
until-end s xs at l w =
    w ∙ ap (λ t. take at xs ++ until s t) (drop_all at xs l) ∙ append-nil (take at xs) ∙ take_all at xs l

shorter : (c : Bool) (b : ℕ) (bs : List ℕ) (n : ℕ) → length bs ≤ n → length (cond c [] (b ∷ bs)) ≤ suc n
shorter true b bs n l = omega arith
shorter false b bs n l = omega arith

pub until-short : (s : Stop) (xs : List ℕ) → length (until s xs) ≤ length xs
until-short s [] = omega arith
until-short s (b ∷ bs) = shorter (stops s (b ∷ bs)) b (until s bs) (length bs) (until-short s bs)

first-step : (c : Bool) (b : ℕ) (line : List ℕ) (lines more : List (List ℕ)) → lines ≡ line ∷ more
    → (rest : List (List ℕ)) × (cond c ([] ∷ lines) (onto_first b lines) ≡ cond c [] (b ∷ line) ∷ rest)
first-step true b line lines more e = (lines, refl)
first-step false b line lines more e = (more, ap (onto_first b) e)

-- the first line is what stands before the first newline
pub lines-first : (xs : List ℕ) → (more : List (List ℕ)) × (lines_of xs ≡ until Line xs ∷ more)
lines-first [] = ([], refl)
lines-first (b ∷ bs) = let p = lines-first bs in first-step (b == 10) b (until Line bs) (lines_of bs) p.0 p.1

more-step : (c : Bool) (b : ℕ) (bs : List ℕ) → (length (until Line bs) < length bs → lines_of bs ≡ until Line bs ∷ lines_of (drop (length (until Line bs) + 1) bs))
    → length (cond c [] (b ∷ until Line bs)) < suc (length bs)
    → cond c ([] ∷ lines_of bs) (onto_first b (lines_of bs)) ≡ cond c [] (b ∷ until Line bs) ∷ lines_of (drop (length (cond c [] (b ∷ until Line bs)) + 1) (b ∷ bs))
more-step true b bs more l = refl
more-step false b bs more l =
    let u = until Line bs in
    let e : suc (length u) + 1 ≡ suc (length u + 1) = omega arith in
    ap (onto_first b) (more (omega (arith, l))) ∙ ap (λ n. (b ∷ u) ∷ lines_of (drop n (b ∷ bs))) (sym e)

-- behind the newline stand the other lines
pub lines-more : (xs : List ℕ) → length (until Line xs) < length xs → lines_of xs ≡ until Line xs ∷ lines_of (drop (length (until Line xs) + 1) xs)
lines-more [] l = absurd (omega (arith, l))
lines-more (b ∷ bs) l = more-step (b == 10) b bs (lines-more bs) l

last-step : (c : Bool) (b : ℕ) (bs : List ℕ) → (length (until Line bs) ≡ length bs → lines_of bs ≡ until Line bs ∷ [])
    → length (cond c [] (b ∷ until Line bs)) ≡ suc (length bs)
    → cond c ([] ∷ lines_of bs) (onto_first b (lines_of bs)) ≡ cond c [] (b ∷ until Line bs) ∷ []
last-step true b bs more l = absurd (omega (arith, l))
last-step false b bs more l = ap (onto_first b) (more (omega (arith, l)))

-- without a newline there is one line
pub lines-last : (xs : List ℕ) → length (until Line xs) ≡ length xs → lines_of xs ≡ until Line xs ∷ []
lines-last [] l = refl
lines-last (b ∷ bs) l = last-step (b == 10) b bs (lines-last bs) l

found-in : (line : List ℕ) (more : List (List ℕ)) (b : Bool) → is_module_line line ≡ b → module_line (line ∷ more) ≡ cond b (Some line) (module_line more)
found-in line more b e = ap (λ t. cond t (Some line) (module_line more)) e

-- a line that names the module
pub module-here : (whole : Option (List ℕ)) (rest line : List ℕ) → line ≡ until Line rest → is_module_line line ≡ true → whole ≡ module_line (lines_of rest) → whole ≡ Some line
module-here whole rest line e t w =
    let p = lines-first rest in
    w ∙ ap module_line (p.1 ∙ ap (λ u. u ∷ p.0) (sym e)) ∙ found-in line p.0 true t

-- one that doesn't, and the lines behind it
pub module-on : (whole : Option (List ℕ)) (rest line later : List ℕ) → line ≡ until Line rest → is_module_line line ≡ false → (length line ≡ length rest → ⊥)
    → later ≡ drop (length line + 1) rest → whole ≡ module_line (lines_of rest) → whole ≡ module_line (lines_of later)
module-on whole rest line later e t n d w =
    let f : length line ≡ length (until Line rest) = ap length e in
    let l : length (until Line rest) < length rest = omega (arith, until-short Line rest, f, n) in
    w ∙ ap module_line (lines-more rest l ∙ ap (λ u. u ∷ lines_of (drop (length u + 1) rest)) (sym e)) ∙ found-in line (lines_of (drop (length line + 1) rest)) false t ∙ ap (λ r. module_line (lines_of r)) (sym d)

pub module-end : (whole : Option (List ℕ)) (rest line : List ℕ) → line ≡ until Line rest → is_module_line line ≡ false → length line ≡ length rest → whole ≡ module_line (lines_of rest) → whole ≡ None
module-end whole rest line e t n w =
    w ∙ ap module_line (lines-last rest (ap length (sym e) ∙ n) ∙ ap (λ u. u ∷ []) (sym e)) ∙ found-in line [] false t
