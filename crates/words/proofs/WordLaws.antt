-- What stands behind the front of a word.
use Rattle.std.proofs.Common.{◌≡◌, ℕ, List, true, false, Option, Some, None, MatchOption, drop, length, sym, ap, ◌∙◌, subst}
use Rattle.std.specs.Prelude.{nat_eq}
use Rattle.std.specs.List.{starts_with}
use Rattle.std.specs.Str.{IsCharBoundary}
use Rattle.std.specs.Str.Pattern.{FindsTextPrefix, StripsPrefix}
use Rattle.std.proofs.lemmas.Str.Pattern.{starts_text}
use denote.Ref.{Bor}

pub strips : (front word : List ℕ) (r : Option (Bor (List ℕ))) → MatchOption r (FindsTextPrefix front word None) (λ x. StripsPrefix (FindsTextPrefix front) word x.now)
    → MatchOption r (starts_with nat_eq word front ≡ false) (λ rest. (starts_with nat_eq word front ≡ true) × (rest.now ≡ drop (length front) word))
strips front word None h = sym (starts_text false front word h)
strips front word (Some x) h =
    let n = h.0 in
    let found = h.1 in
    let P : ℕ → Type 0 = λ k. IsCharBoundary word k in
    (sym (starts_text true front word (n, found, subst P (sym found.0) found.2)), h.2 ∙ ap (λ k. drop k word) found.0)
