-- One directive after another.
use Rattle.std.proofs.Common.{◌≡◌, ◌<◌, ◌≤◌, ◌+◌, ◌*◌, ℕ, Bool, true, false, Option, Some, None, List, [], ◌∷◌, ◌++◌, unwrap_or, sym, subst, arith}
use Rattle.std.proofs.lemmas.List.{append_assoc, append-nil}
use Rattle.printf_format.specs.declared.format.Directive.{Directive}
use Rattle.printf_format.specs.declared.parts.Parts.{Parts}
use Rattle.printf_format.specs.declared.parts.Turn.{Turn}
use Rattle.printf_format.specs.declared.parts.Turn.TheVariants.{Whole}
use Rattle.printf_format.specs.Bounds.{IsSmall, AreSmall}
use Rattle.printf_format.specs.Grammar.{IsTurn}
use Rattle.printf_format.specs.Arguments.{past, at_width, at_precision, at_verb, reads, directive_of, next_of}
use Rattle.printf_format.specs.Formats.{IsLast, Reads}

-- what completes the rest completes the whole
abbrev pub Completes : List ℕ → ℕ → ℕ → List Directive → Type 0
Completes text at next done = (more : List Directive) (last : Turn) → Reads text at next more last → Reads text 0 1 (done ++ more) last

pub completes_more : (text : List ℕ) (at next : ℕ) (done : List Directive) (start : ℕ) (parts : Parts) (d : Directive) → Completes text at next done → IsTurn text at (Whole start parts) → d ≡ directive_of next start parts → Completes text parts.end (next_of next parts) (done ++ d ∷ [])
completes_more text at next done start parts d had turn is = λ more last reading.
    subst (λ l. Reads text 0 1 l last) (sym (append_assoc done (d ∷ []) more)) (had (d ∷ more) last (start, parts, turn, is, reading))

pub completes_all : (text : List ℕ) (at next : ℕ) (done : List Directive) (last : Turn) → Completes text at next done → IsTurn text at last → IsLast last → Reads text 0 1 done last
completes_all text at next done last had turn ends = subst (λ l. Reads text 0 1 l last) (append-nil done) (had [] last (turn, ends))

-- the next argument grows by at most three in a directive
chosen_most : (number : Option ℕ) (next most : ℕ) → IsSmall number → next ≤ most → 100000 ≤ most → unwrap_or number next ≤ most
chosen_most None next most small below large = below
chosen_most (Some n) next most small below large = omega arith

past_most : (reads : Bool) (argument : ℕ) → past reads argument ≤ argument + 1
past_most true argument = omega arith
past_most false argument = omega arith

pub next_most : (at next : ℕ) (parts : Parts) → AreSmall parts → next ≤ 100000 + 3 * at → at < parts.end → next_of next parts ≤ 100000 + 3 * parts.end
next_most at next parts small below after =
    let first = chosen_most parts.width.index next (100000 + 3 * at) small.width below (omega arith) in
    let second = chosen_most parts.precision.index (past parts.width.star (at_width next parts)) (100001 + 3 * at) small.precision (omega (arith, past_most parts.width.star (at_width next parts), first)) (omega arith) in
    let third = chosen_most parts.last.number (past parts.precision.star (at_precision next parts)) (100002 + 3 * at) small.last (omega (arith, past_most parts.precision.star (at_precision next parts), second)) (omega arith) in
    omega (arith, past_most (reads parts) (at_verb next parts), third, after)
