use Rattle.std.proofs.Common.{◌≡◌, ◌&&◌, ◌==◌, Bool, true, false, length, refl, sym, ap, ◌∙◌}
use Rattle.std.specs.Str.{chars}
use Rattle.std.proofs.lemmas.Str.{IsUtf8-from_is_utf8, is_utf8-from_IsUtf8}
use Rattle.go_tree.proofs.escape.is_lone_char.Goals as goal

refuted : (b : Bool) → (b ≡ true → ⊥) → b ≡ false
refuted true h = absurd (h refl)
refuted false h = refl

pub returns-in-Ok : goal.returns-in-Ok
returns-in-Ok c =
    let alone = length (chars c.args.bytes.now) == 1 in
    c.is_lone.ensures ∙ ap (λ t. length (chars t) == 1) c.in-Ok.ensures.cases.0 ∙ sym (ap (λ t. t && alone) (is_utf8-from_IsUtf8 _ c.in-Ok.ensures.cases.1))

pub returns-in-Err : goal.returns-in-Err
returns-in-Err c =
    let alone = length (chars c.args.bytes.now) == 1 in
    sym (ap (λ t. t && alone) (refuted _ (λ is. c.in-Err.ensures.cases.0 (IsUtf8-from_is_utf8 _ is))))
