-- Fixes and what becomes of them.
use Rattle.std.proofs.Common.{◌≡◌, ℕ, zero, suc, ◌+◌, ◌<◌, List, [], ◌∷◌, ◌++◌, length, map, flat_map, Option, Some, None, All, get_or, refl, sym, ap, ◌∙◌, subst, arith, append_assoc, take}
use Rattle.std.proofs.lemmas.List.{length-map, take_more, flat_map_more}
use Rattle.std.proofs.lemmas.List.Elements.{All-append, All-cons, All-more, All-tail}
use Rattle.gv_base.specs.Files.{Entry}
use Rattle.fix_apply.specs.declared.edits.Fix.{Fix}
use Rattle.fix_apply.specs.declared.choices.Choice.{Choice}
use Rattle.fix_apply.specs.declared.choices.Choice.TheVariants.{Applied, Overlaps}
use Rattle.analysis_core.specs.declared.reply.FoundLine.{FoundLine}
use Rattle.analysis_core.specs.declared.reply.Reply.{Reply}
use Rattle.analysis_core.specs.Replies.{FixSpot, spot_if, fix_spots, spot_at, fix_line, fix_lines}
use Rattle.report_text.specs.Standing.{LiesIn}
use Rattle.report_text.specs.ReplyStanding.{FoundStands, SpotStands, spot_of, spots_of, Earlier, FixesStand}
use Rattle.report_text.specs.declared.lines.Spot.{Spot}

pub lies_spot : (files : List Entry) (spots : List Spot) (n : ℕ) (spot : Spot) → n < length spots → spot ≡ get_or spots n spot → All (SpotStands files) spots → LiesIn files spot.place
lies_spot files spots n spot lt is all = subst (SpotStands files) (sym is) (all n spot lt)

pub earlier_of : (n : ℕ) (choice : Choice) (first : ℕ) → choice ≡ Overlaps first → Earlier n choice → first < n
earlier_of n choice first is e = subst (Earlier n) is e

abbrev FixStands : List Entry → FixSpot → Type 0
FixStands files s = LiesIn files s.place

one_stands : (files : List Entry) (l : FoundLine) (fix : Option Fix) → FoundStands files l → All (FixStands files) (spot_if l fix)
one_stands files l None h = λ k d lt. absurd (omega (arith, lt))
one_stands files l (Some f) h = All-cons (FixStands files) (record { place = l.diagnostic.place; analyzer = l.diagnostic.analyzer }) [] h (λ k d lt. absurd (omega (arith, lt)))

all_stand : (files : List Entry) (found : List FoundLine) → All (FoundStands files) found → All (FixStands files) (fix_spots found)
all_stand files [] h = λ k d lt. absurd (omega (arith, lt))
all_stand files (l ∷ ls) h =
    All-append (FixStands files) (spot_if l l.diagnostic.fix) (fix_spots ls) (one_stands files l l.diagnostic.fix (h 0 l (omega arith)))
    (all_stand files ls (λ k d lt. h (suc k) d (omega (arith, lt))))

of_map : (files : List Entry) (spots : List Spot) → All (FixStands files) (spots_of spots) → All (SpotStands files) spots
of_map files [] h = λ k d lt. absurd (omega (arith, lt))
of_map files (s ∷ ss) h = All-cons (SpotStands files) s ss (h 0 (spot_of s) (omega arith)) (of_map files ss (All-tail (FixStands files) (spot_of s) (spots_of ss) h))

-- the diagnostics with fixes stand where the diagnostics do
pub spots_stand : (files : List Entry) (found : List FoundLine) (spots : List Spot) → spots_of spots ≡ fix_spots found → All (FoundStands files) found → All (SpotStands files) spots
spots_stand files found spots is h = of_map files spots (subst (All (FixStands files)) (sym is) (all_stand files found h))

spots_count : (found : List FoundLine) (spots : List Spot) → spots_of spots ≡ fix_spots found → length spots ≡ length (fix_spots found)
spots_count found spots is = sym (length-map spots spot_of) ∙ ap length is

pub choices_count : (r : Reply) (found : List FoundLine) (choices : List Choice) (spots : List Spot) → found ≡ r.diagnostics → choices ≡ r.choices → spots_of spots ≡ fix_spots found → FixesStand r → length choices ≡ length spots
choices_count r found choices spots same of is h =
    ap length of ∙ (h.size ∙ (ap (λ (ls : List FoundLine). length (fix_spots ls)) (sym same) ∙ sym (spots_count found spots is)))

pub choices_earlier : (r : Reply) (found : List FoundLine) (choices : List Choice) (spots : List Spot) → found ≡ r.diagnostics → choices ≡ r.choices → spots_of spots ≡ fix_spots found → FixesStand r → All (Earlier (length spots)) choices
choices_earlier r found choices spots same of is h =
    subst (λ (n : ℕ). All (Earlier n) choices) (sym (spots_count found spots is ∙ ap (λ (ls : List FoundLine). length (fix_spots ls)) same))
    (subst (All (Earlier (length (fix_spots r.diagnostics)))) (sym of) h.earlier)

-- one more fix is written
pub fix_more : (files : List Entry) (spots : List FixSpot) (n : ℕ) (choice : Choice) (rest more : List Choice) (items new total : List ℕ) → rest ≡ choice ∷ more
    → items ++ fix_lines files spots n rest ≡ total → new ≡ items ++ fix_line files spots (spot_at spots n) choice → new ++ fix_lines files spots (n + 1) more ≡ total
fix_more files spots n choice rest more items new total is so_far p =
    ap (λ (l : List ℕ). l ++ fix_lines files spots (n + 1) more) p
    ∙ (append_assoc items (fix_line files spots (spot_at spots n) choice) (fix_lines files spots (n + 1) more)
    ∙ (ap (λ (r : List Choice). items ++ fix_lines files spots n r) (sym is) ∙ so_far))

-- one more line is written
pub written_more : {A : Type 0} (f : A → List ℕ) (front : List ℕ) (xs : List A) (n : ℕ) (x : A) (out new : List ℕ) → n < length xs → x ≡ get_or xs n x
    → out ≡ front ++ flat_map f (take n xs) → new ≡ out ++ f x → new ≡ front ++ flat_map f (take (n + 1) xs)
written_more {A} f front xs n x out new lt is so_far grown =
    let more : take (n + 1) xs ≡ take n xs ++ x ∷ [] = take_more xs n x lt ∙ ap (λ (y : A). take n xs ++ y ∷ []) (sym is) in
    grown ∙ (ap (λ (l : List ℕ). l ++ f x) so_far ∙ (flat_map_more f front (take n xs) x ∙ ap (λ (l : List A). front ++ flat_map f l) (sym more)))

-- what holds of each is so of one more
pub holds_more : {A : Type 0} (P : A → Type 0) (xs : List A) (n : ℕ) (x : A) → n < length xs → All P (take n xs) → x ≡ get_or xs n x → P x → All P (take (n + 1) xs)
holds_more P xs n x lt old is one = All-more P xs n x lt old (subst P is one)
