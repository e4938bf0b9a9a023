use Rattle.std.proofs.Common.{inl, inr, refl, arith, ◌≡◌, ◌^◌, ℕ}
use Rattle.top_calls.proofs.WorkersLaws.{did-together}
use Rattle.gvet.proofs.call.Goals as goal

pub gvet-requires-clause-room : goal.gvet-requires-clause-room
gvet-requires-clause-room g c = λ κs _. rw c.as_mut_slice.ensures.value (did-together (λ k. k.loads) (λ k. k.runs) (2 ^ 61) c.in-Ok.kits.items (let l = c.in-Ok.ensures.loads in omega (arith, l)) (let r = c.in-Ok.ensures.runs in omega (arith, r)))

pub returns-in-Err-clause-usage : goal.returns-in-Err-clause-usage
returns-in-Err-clause-usage g c = λ none. inr refl

pub returns-in-Err-clause-only_usage : goal.returns-in-Err-clause-only_usage
returns-in-Err-clause-only_usage g c = λ call asks e. (let seven : ◌≡◌ {A = ℕ} 7 2 = e in omega arith)

pub returns-in-Ok-clause-usage : goal.returns-in-Ok-clause-usage
returns-in-Ok-clause-usage g c = λ none. inl (c.gvet.ensures.usage none).0

pub returns-in-Ok-clause-only_usage : goal.returns-in-Ok-clause-only_usage
returns-in-Ok-clause-only_usage g c = λ call asks e. (c.gvet.ensures.serves call asks).not_usage e
