use Rattle.std.proofs.Common.{inl, inr, sym, ◌∙◌}
use Rattle.face_table.proofs.declaring.is_bad.Goals as goal

pub returns-then-is_defined-clause-bad : goal.returns-then-is_defined-clause-bad
returns-then-is_defined-clause-bad c told name named = inl (sym c.is_defined.ensures ∙ c.if-is_defined.true)

pub returns-clause-bad : goal.returns-clause-bad
returns-clause-bad c told name named = inr (c.in_ok-met.ensures.met name named told)

pub returns-clause-fine : goal.returns-clause-fine
returns-clause-fine c told name named bad = elim bad [
  | inl defined ↦ absurd (let is = sym c.is_defined.ensures ∙ c.if-is_defined.false in cc)
  | inr meets ↦ absurd (let is = c.in_ok-met.ensures.only name named meets in cc)
]
