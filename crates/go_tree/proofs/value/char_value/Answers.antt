use Rattle.std.proofs.Common.{◌≡◌, Bool, true, false, slice_index, refl, sym, ap, ◌∙◌}
use Rattle.std.specs.Str.{chars, is_utf8}
use Rattle.std.proofs.lemmas.Bool.{cond-true, cond-false}
use Rattle.std.proofs.lemmas.Str.{IsUtf8-from_is_utf8, is_utf8-from_IsUtf8}
use Rattle.go_tree.proofs.value.char_value.Goals as goal

refuted : (b : Bool) → (b ≡ true → ⊥) → b ≡ false
refuted true h = absurd (h refl)
refuted false h = refl

pub returns-in-Ok : goal.returns-in-Ok
returns-in-Ok c = c.first_char.ensures ∙ ap (λ t. slice_index (chars t) 0) c.in-Ok.ensures.cases.0 ∙ sym (cond-true _ _ _ (is_utf8-from_IsUtf8 _ c.in-Ok.ensures.cases.1))

pub returns-in-Err : goal.returns-in-Err
returns-in-Err c = sym (cond-false _ _ _ (refuted (is_utf8 c.args.bytes.now) (λ is. c.in-Err.ensures.cases.0 (IsUtf8-from_is_utf8 _ is))))
