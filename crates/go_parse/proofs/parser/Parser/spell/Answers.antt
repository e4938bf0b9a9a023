use Rattle.std.proofs.Common.{length, drop, sym, ◌∙◌}
use Rattle.go_parse.specs.Machine.{state_of}
use Rattle.go_parse.proofs.Parse.{carry, start_same, need, last, stopped, went, within, nearer}
use Rattle.go_parse.proofs.parser.Parser.spell.Goals as goal

pub loop-step-init : goal.loop-step-init
loop-step-init c = record {
  inside = c.requires.inside;
  same = λ b h. start_same (length c.args.classes.now) c.args.start (drop c.args.from c.args.classes.now) b (state_of c.args.self.now) (state_of c.want_all.new.self) c.in_ok-want_all.ensures c.requires.end h;
}

pub advance-requires : goal.advance-requires
advance-requires c =
    let h = c.requires.built in
    need c.args.classes.now c.loop-step.at c.class_at.result c.args.start (drop c.args.from c.args.classes.now) h.0 (state_of c.loop-step.self) c.loop-step.invariant.inside
    (sym c.class_at.ensures) (c.loop-step.invariant.same h.0 (carry c.args.start (state_of c.args.self.now) (state_of c.want_all.new.self) h.0 c.in_ok-want_all.ensures h.1))

pub returns-then-is_end : goal.returns-then-is_end
returns-then-is_end c = λ b h.
    last c.args.classes.now c.loop-step.at c.class_at.result c.args.start (drop c.args.from c.args.classes.now) b (state_of c.loop-step.self) (state_of c.advance.new.self) _ _ _
    c.is_end.ensures c.if-is_end.true (sym c.class_at.ensures)
    (c.loop-step.invariant.same b (carry c.args.start (state_of c.args.self.now) (state_of c.want_all.new.self) b c.in_ok-want_all.ensures h)) c.in_ok-step.ensures c.is_over.ensures

pub returns-then-stops : goal.returns-then-stops
returns-then-stops c = λ b h.
    stopped c.args.classes.now c.loop-step.at c.class_at.result c.args.start (drop c.args.from c.args.classes.now) b (state_of c.loop-step.self) (state_of c.advance.new.self) _ _
    c.is_end.ensures c.if-is_end.false c.loop-step.invariant.inside (sym c.class_at.ensures)
    (c.loop-step.invariant.same b (carry c.args.start (state_of c.args.self.now) (state_of c.want_all.new.self) b c.in_ok-want_all.ensures h)) c.in_ok-step.ensures (sym c.stops.ensures ∙ c.if-stops.true)

pub loop-step-preserved : goal.loop-step-preserved
loop-step-preserved c = record {
  inside = within c.args.classes.now c.loop-step.at _ c.is_end.ensures c.if-is_end.false c.loop-step.invariant.inside;
  same = λ b h.
      went c.args.classes.now c.loop-step.at c.class_at.result c.args.start (drop c.args.from c.args.classes.now) b (state_of c.loop-step.self) (state_of c.advance.new.self) _ _
      c.is_end.ensures c.if-is_end.false c.loop-step.invariant.inside (sym c.class_at.ensures)
      (c.loop-step.invariant.same b h) c.in_ok-step.ensures (sym c.stops.ensures ∙ c.if-stops.false);
}

pub loop-step-smaller : goal.loop-step-smaller
loop-step-smaller c = nearer c.args.classes.now c.loop-step.at _ c.is_end.ensures c.if-is_end.false c.loop-step.invariant.inside
