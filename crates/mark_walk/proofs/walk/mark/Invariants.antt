use Rattle.std.proofs.Common.{◌≡◌, ◌++◌, [], true, Some, None, option_to_list, slice_get}
use Rattle.mark_walk.specs.Asks.{Awaits}
use Rattle.mark_walk.specs.Marking.{Goes}
use Rattle.mark_walk.specs.Waiting.{Waits, IsFirst, left_to_do}
use Rattle.mark_walk.proofs.walk.mark.Given as goal

abbrev pub invariant-loop-next : goal.invariant-loop-next
invariant-loop-next g l =
    let k = g.K.Marking in
    let s = k.subject l.fn.kit in
    record {
      state : k.IsState l.kit;
      subject : k.subject l.kit ≡ k.subject l.fn.kit;
      goes : Goes (k.says s) (k.rule s) (k.so_far l.fn.kit) (k.so_far l.kit);
      waits : Waits (k.IsItem s) (k.number s) (k.count s) (λ x. Awaits (k.says s) (k.pends s) (k.so_far l.kit) (k.rule s x)) (k.so_far l.kit) (l.walk.waiting.items ++ option_to_list l.next) l.walk.met.items;
      idle : l.next ≡ None → l.walk.waiting.items ≡ [];
      first : (x : _) → IsFirst (l.walk.waiting.items ++ option_to_list l.next) x → x ≡ l.fn.item;
      noted : slice_get l.walk.met.items (k.number s l.fn.item) ≡ Some true;
    }

abbrev pub decreases-loop-next : goal.decreases-loop-next
decreases-loop-next g l = left_to_do (l.walk.waiting.items ++ option_to_list l.next) l.walk.met.items
