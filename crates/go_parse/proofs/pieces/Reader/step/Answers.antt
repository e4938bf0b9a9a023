use Rattle.std.proofs.Common.{◌≡◌, ◌+◌, ◌-◌, ◌∙◌, true, false, refl, sym, subst, ap, arith, length, take, drop}
use Rattle.go_tree.specs.declared.grammar.Category.{Category}
use Rattle.go_tree.specs.Arena.{highest}
use Rattle.go_tree.specs.Follow.{follow}
use Rattle.go_tree.specs.Pieces.{after}
use Rattle.go_parse.specs.Machine.{state_of, Answered}
use Rattle.go_parse.specs.Reading.{Over, deep_now}
use Rattle.go_parse.proofs.PieceLaws.{stage_ends, step_good, step_bad}
use Rattle.go_parse.proofs.pieces.Reader.step.Goals as goal

pub spell-requires-clause-end : goal.spell-requires-clause-end
spell-requires-clause-end c = subst (λ z. follow z 75 ≡ true) (sym c.wanted.ensures) (stage_ends c.args.self.now.stage)

pub returns-then-not-good : goal.returns-then-not-good
returns-then-not-good c =
    let bad : c.in_ok-good.good ≡ false = cc in (
      omega (arith, c.requires.end),
      step_bad c.args.classes.now c.front-front.result.now c.args.self.now.stage c.args.self.now.at c.args.end c.in_ok-good.good c.args.self.now.deep
          (state_of c.args.self.now.parser) (state_of c.spell.new.self) (state_of c.spell.new.self) c.requires.stands c.requires.inside c.requires.end c.requires.closed c.front-front.ensures
          (λ g b. subst (λ (z : Category). Answered c.in_ok-good.good (length c.front-front.result.now) z (drop c.args.self.now.at c.front-front.result.now) g (state_of c.spell.new.self)) c.wanted.ensures (c.in_ok-good.ensures g b)) bad,
    )

pub returns : goal.returns
returns c =
    let good : c.in_ok-good.good ≡ true = cc in
    let stage : after c.args.self.now.stage (take (c.args.end - c.args.self.now.at) (drop c.args.self.now.at c.args.classes.now)) ≡ c.after-self.result =
    ap (after c.args.self.now.stage) (sym c.part-piece.ensures) ∙ sym c.after-self.ensures in
    let over = step_good c.args.classes.now c.front-front.result.now c.args.self.now.stage c.args.self.now.at c.args.end c.in_ok-good.good c.args.self.now.deep c.highest_from-depth.result c.height-before.result
    (state_of c.args.self.now.parser) (state_of c.spell.new.self) c.requires.stands c.requires.inside c.requires.end c.requires.closed c.front-front.ensures
    (λ g b. subst (λ (z : Category). Answered c.in_ok-good.good (length c.front-front.result.now) z (drop c.args.self.now.at c.front-front.result.now) g (state_of c.spell.new.self)) c.wanted.ensures (c.in_ok-good.ensures g b)) good
    c.height-before.ensures (c.highest_from-depth.ensures ∙ ap (λ v. highest (drop c.height-before.result v)) c.deref.ensures.value) in (
      subst (λ d. Over c.args.classes.now (c.args.end + 1) c.after-self.result d (state_of c.spell.new.self)) (sym c.deep_now-self.ensures)
          (subst (λ s. Over c.args.classes.now (c.args.end + 1) s (deep_now c.args.self.now.deep c.highest_from-depth.result c.args.self.now.at) (state_of c.spell.new.self)) stage over),
      refl,
    )
