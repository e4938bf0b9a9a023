use Rattle.std.proofs.Common.{◌≡◌, ◌<◌, ◌≤◌, length, true, sym, ap, ◌∙◌, arith}
use Rattle.type_model.specs.GoTypes.{type_at}
use Rattle.type_model.specs.Tables.{types_in, count, declarations_in}
use Rattle.type_model.proofs.StateLaws.{grown_more}
use Rattle.type_model.proofs.TypeLaws.{extends-more}
use Rattle.conformance.proofs.PlainLaws.{plain_meets}
use Rattle.conformance.proofs.types.declare.define.Goals as goal

pub is_plain_type-requires-clause-within : goal.is_plain_type-requires-clause-within
is_plain_type-requires-clause-within c = (c.add-added.ensures.grown.extends c.args.under.0 c.requires.under).0

pub returns-then-not-is_plain_type-clause-more : goal.returns-then-not-is_plain_type-clause-more
returns-then-not-is_plain_type-clause-more c = grown_more c.args.t.now c.add-added.new.self c.add-added.ensures.grown

pub returns-in-Some-clause-more : goal.returns-in-Some-clause-more
returns-in-Some-clause-more c = grown_more c.args.t.now c.add-added.new.self c.add-added.ensures.grown

pub declare-requires-clause-apart : goal.declare-requires-clause-apart
declare-requires-clause-apart c =
    plain_meets (declarations_in c.add-added.new.self) c.in_ok-again.again (type_at (types_in c.add-added.new.self) c.args.under)
    (sym c.is_plain_type.ensures ∙ c.if-not-is_plain_type.false)

pub returns-in-Err-clause-more : goal.returns-in-Err-clause-more
returns-in-Err-clause-more c =
    let more : count c.args.t.now ≤ count c.add-added.new.self = grown_more c.args.t.now c.add-added.new.self c.add-added.ensures.grown in
    let same : count c.declare.new.self ≡ count c.add-added.new.self = ap length c.in-Err.ensures.unchanged.terms in omega (arith, more, same)

pub returns-clause-more : goal.returns-clause-more
returns-clause-more c =
    let more : count c.args.t.now ≤ count c.add-added.new.self = grown_more c.args.t.now c.add-added.new.self c.add-added.ensures.grown in
    let again : count c.add-added.new.self ≤ count c.declare.new.self =
    extends-more c.add-added.new.self.terms.items c.declare.new.self.terms.items c.in-Ok.ensures.declared.extends in omega (arith, more, again)
