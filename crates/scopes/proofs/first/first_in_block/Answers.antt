use Rattle.std.proofs.Common.{arith, refl, ap, ◌∙◌, not}
use Rattle.std.proofs.lemmas.Option.{slice_get-get_or}
use Rattle.scopes.proofs.VisibleLemmas.{no_declaration}
use Rattle.scopes.proofs.FirstLemmas.{flags_from, flag_more, slots_more}
use Rattle.scopes.proofs.first.first_in_block.Goals as goal

pub loop-declaration-preserved : goal.loop-declaration-preserved
loop-declaration-preserved c =
    let ds = c.args.declarations.now in
    let i = c.loop-declaration.declaration-index in
    let there = slice_get-get_or ds i no_declaration c.loop-declaration-test.true in
    record {
      slots = λ q. slots_more ds i no_declaration _ q _ _ c.loop-declaration-test.true refl (c.loop-declaration.invariant.slots q) (c.in_ok-added.ensures.updates.0 q);
      count = omega (arith, c.in_ok-push.ensures.len, c.loop-declaration.invariant.count);
      so_far = rw c.in_ok-push.ensures.items (flag_more ds c.loop-declaration.first.items i _ c.in_ok-added.added c.loop-declaration.invariant.count there
          (c.in_ok-added.ensures.added ∙ ap not (c.loop-declaration.invariant.slots _)) c.loop-declaration.invariant.so_far);
    }

pub returns : goal.returns
returns c = flags_from c.args.declarations.now c.loop-declaration.first.items c.loop-declaration.declaration-index c.loop-declaration-test.false c.loop-declaration.auto.declaration-index-end c.loop-declaration.invariant.count c.loop-declaration.invariant.so_far
