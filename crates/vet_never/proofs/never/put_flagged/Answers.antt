use Rattle.std.proofs.Common.{◌≡◌, Bool, true, false, inl, inr, sym, ◌∙◌}
use Rattle.vet_never.proofs.never.put_flagged.Goals as goal

pub returns-then-is_flagged : goal.returns-then-is_flagged
returns-then-is_flagged c = λ q. (
  λ there. elim ((c.in_ok-put_text.ensures q).0 there) [ inl before ↦ inl before | inr same ↦ inr (sym c.is_flagged.ensures ∙ c.if-is_flagged.true, same) ],
  λ h. (c.in_ok-put_text.ensures q).1 (elim h [ inl before ↦ inl before | inr (flag, same) ↦ inr same ]),
)

pub returns : goal.returns
returns c = λ q. (λ there. inl there, λ h. elim h [ inl before ↦ before | inr (flag, same) ↦ absurd (differ c.is_flagged.result c.if-is_flagged.false (c.is_flagged.ensures ∙ flag)) ]) where
  differ : (b : Bool) → b ≡ false → b ≡ true → ⊥
  differ b p q = cc
