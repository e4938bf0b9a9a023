-- What a reply says, in the order of JSON.
use Rattle.std.proofs.Common.{◌≡◌, ℕ, zero, suc, ◌+◌, ◌<◌, List, [], ◌∷◌, ◌++◌, length, Some, All, refl, sym, ap, ◌∙◌, subst, arith, append_assoc, length-append}
use Rattle.std.specs.List.Sorted.{IsPermutation}
use Rattle.std.proofs.lemmas.List.Elements.{All-append, All-cons}
use Rattle.std.proofs.lemmas.List.Sorted.{All-permutation}
use Rattle.std.proofs.lemmas.Option.{same_Some}
use Rattle.gv_base.specs.Files.{Entry}
use Rattle.gv_base.specs.declared.place.Place.{Place}
use Rattle.analysis_core.specs.declared.reply.ErrorLine.{ErrorLine}
use Rattle.analysis_core.specs.declared.reply.FoundLine.{FoundLine}
use Rattle.analysis_core.specs.declared.reply.Reply.{Reply}
use Rattle.analysis_core.specs.declared.said.Said.{Said}
use Rattle.analysis_core.specs.JsonReplies.{error_said, diagnostic_said, errors_said, found_said, all_said}
use Rattle.report_text.specs.Standing.{LiesIn, StandsIn}
use Rattle.report_text.specs.ReplyStanding.{FoundStands, SaidStands}

-- there are as many as error lines
pub errors_count : (n : ℕ) (es : List ErrorLine) → length (errors_said n es) ≡ length es
errors_count n [] = refl
errors_count n (e ∷ es) = ap suc (errors_count (n + 1) es)

errors_stand : (files : List Entry) (n : ℕ) (es : List ErrorLine) → All (StandsIn files) es → All (SaidStands files) (errors_said n es)
errors_stand files n [] h = λ k d lt. absurd (omega (arith, lt))
errors_stand files n (e ∷ es) h =
    All-cons (SaidStands files) (error_said n e) (errors_said (n + 1) es) (h 0 e (omega arith))
    (errors_stand files (n + 1) es (λ k d lt. h (suc k) d (omega (arith, lt))))

found_stand : (files : List Entry) (n : ℕ) (ls : List FoundLine) → All (FoundStands files) ls → All (SaidStands files) (found_said n ls)
found_stand files n [] h = λ k d lt. absurd (omega (arith, lt))
found_stand files n (l ∷ ls) h =
    All-cons (SaidStands files) (diagnostic_said n l) (found_said (n + 1) ls)
    (λ place is. subst (LiesIn files) (same_Some l.diagnostic.place place is) (h 0 l (omega arith)))
    (found_stand files (n + 1) ls (λ k d lt. h (suc k) d (omega (arith, lt))))

pub said_stand : (files : List Entry) (r : Reply) (said : List Said) → All (StandsIn files) r.errors → All (FoundStands files) r.diagnostics → IsPermutation (all_said r) said → All (SaidStands files) said
said_stand files r said errors found moved =
    All-permutation (SaidStands files) (all_said r) said moved
    (All-append (SaidStands files) (errors_said 0 r.errors) (found_said (length r.errors) r.diagnostics) (errors_stand files 0 r.errors errors) (found_stand files (length r.errors) r.diagnostics found))

-- one more is said
pub error_added : (old items new : List Said) (e : ErrorLine) (es : List ErrorLine) (total : List Said) → new ≡ items ++ error_said (length items) e ∷ []
    → items ++ errors_said (length items) (e ∷ es) ≡ total → new ++ errors_said (length new) es ≡ total
error_added old items new e es total grown so_far =
    let next : length new ≡ length items + 1 = omega (arith, ap length grown, length-append items (error_said (length items) e ∷ [])) in
    ap (λ n. new ++ errors_said n es) next
    ∙ (ap (λ l. l ++ errors_said (length items + 1) es) grown
    ∙ (append_assoc items (error_said (length items) e ∷ []) (errors_said (length items + 1) es) ∙ so_far))

pub found_added : (old items new : List Said) (l : FoundLine) (ls : List FoundLine) (total : List Said) → new ≡ items ++ diagnostic_said (length items) l ∷ []
    → items ++ found_said (length items) (l ∷ ls) ≡ total → new ++ found_said (length new) ls ≡ total
found_added old items new l ls total grown so_far =
    let next : length new ≡ length items + 1 = omega (arith, ap length grown, length-append items (diagnostic_said (length items) l ∷ [])) in
    ap (λ n. new ++ found_said n ls) next
    ∙ (ap (λ s. s ++ found_said (length items + 1) ls) grown
    ∙ (append_assoc items (diagnostic_said (length items) l ∷ []) (found_said (length items + 1) ls) ∙ so_far))

pub all_joined : (r : Reply) (es : List ErrorLine) (ls : List FoundLine) (a b c : List Said) → es ≡ r.errors → ls ≡ r.diagnostics → a ≡ [] → b ≡ a ++ errors_said (length a) es → c ≡ b ++ found_said (length b) ls → c ≡ all_said r
all_joined r es ls a b c e l none first second =
    let made : b ≡ errors_said 0 r.errors = first ∙ (ap (λ (s : List Said). s ++ errors_said (length s) es) none ∙ ap (errors_said 0) e) in
    second ∙ (ap (λ (s : List Said). s ++ found_said (length s) ls) made
    ∙ (ap (λ (n : ℕ). errors_said 0 r.errors ++ found_said n ls) (errors_count 0 r.errors) ∙ ap (λ (x : List FoundLine). errors_said 0 r.errors ++ found_said (length r.errors) x) l))
