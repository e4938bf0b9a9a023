use Rattle.std.proofs.Common.{◌^◌, arith}
use Rattle.go_kit.specs.declared.kit.GoKit.{GoKit}
use Rattle.top_calls.proofs.WorkersLaws.{did-together}
use Rattle.session_tests.proofs.top_calls_tests.workers.said_by.Goals as goal

pub gvet-status-requires-clause-room : goal.gvet-status-requires-clause-room
gvet-status-requires-clause-room g c = λ κs _. rw c.as_mut_slice.ensures.value (did-together (λ (k : GoKit). k.loads) (λ (k : GoKit). k.runs) (2 ^ 61) c.in_ok-kits.kits.items (let l = c.in_ok-kits.ensures.loads in omega (arith, l)) (let r = c.in_ok-kits.ensures.runs in omega (arith, r)))
