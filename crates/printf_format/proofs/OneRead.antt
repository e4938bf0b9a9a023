-- A text is read in one way.
use Rattle.std.proofs.Common.{◌≡◌, ℕ, List, sym, ap, ◌∙◌}
use Rattle.printf_format.specs.declared.format.Directive.{Directive}
use Rattle.printf_format.specs.declared.whole.Ending.{Ending}
use Rattle.printf_format.specs.declared.whole.FormatRead.{FormatRead}
use Rattle.printf_format.specs.Whole.{ending_of, IsRead}
use Rattle.printf_format.proofs.OneFormat.{one_reading}

abbrev read : List Directive → Ending → FormatRead
read directives ending = record { directives = directives; ending = ending }

pub one_read : (text : List ℕ) (a b : FormatRead) → IsRead text a → IsRead text b → a ≡ b
one_read text a b x y =
    let same = one_reading text 0 1 a.directives b.directives x.last y.last x.reads y.reads in
    ap (λ (l : List Directive). read l a.ending) same.0 ∙ ap (λ (e : Ending). read b.directives e) (x.ends ∙ (ap ending_of same.1 ∙ sym y.ends))
