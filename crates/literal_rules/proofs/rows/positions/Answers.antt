use Rattle.std.proofs.Common.{◌≤◌, ◌+◌, ◌++◌, ◌∷◌, [], ℕ, Option, IfSome, option_map, subst, sym, ap, ◌∙◌, arith}
use Rattle.package_objects.proofs.GatherLemmas.{gather_more}
use Rattle.literal_rules.specs.Rows.{position_row, position, by_key}
use Rattle.rule_words.specs.Good.{known_of}
use Rattle.literal_rules.specs.InCode.{keys_in}
use Rattle.literal_rules.proofs.RowLemmas.{bounded_more, bounded_behind, position_is, next_on}
use Rattle.literal_rules.proofs.rows.positions.Goals as goal

pub behind_it-next-requires : goal.behind_it-next-requires
behind_it-next-requires c =
    bounded_more c.by_key-place.result (9223372036854775807 + c.loop-i.i) 36893488147419103232 (omega arith)
    (c.by_key-place.ensures.small (9223372036854775807 + c.loop-i.i) (omega arith) c.loop-i.invariant.small)

pub loop-i-preserved : goal.loop-i-preserved
loop-i-preserved c =
    let keys = keys_in c.args.s.now c.args.keys.now in
    let i = c.loop-i.i in
    let here = position_is keys i c.loop-i.next (option_map (known_of c.args.s.now) c.key_of.result) c.by_key-place.result c.loop-i.invariant.next c.key_of.ensures.is c.by_key-place.ensures.is in
    record {
      items = gather_more (position_row keys) i c.loop-i.out.items _ c.loop-i.invariant.items (c.in_ok-push.ensures.items ∙ ap (λ o. c.loop-i.out.items ++ o ∷ []) here);
      next = next_on keys i c.by_key-place.result _ here c.behind_it-next.ensures;
      small = subst (λ (o : Option ℕ). IfSome o (λ p. p ≤ 9223372036854775807 + (i + 1))) (sym c.behind_it-next.ensures)
          (bounded_more (option_map (λ p. p + 1) c.by_key-place.result) (9223372036854775807 + i + 1) (9223372036854775807 + (i + 1)) (omega arith)
          (bounded_behind c.by_key-place.result (9223372036854775807 + i) (c.by_key-place.ensures.small (9223372036854775807 + i) (omega arith) c.loop-i.invariant.small)));
    }
