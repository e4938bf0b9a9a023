use Rattle.std.proofs.Common.{arith, ◌<◌, length, ◌∙◌, sym, ap}
use Rattle.words.specs.Lists.{with_piece, with_names, pieces_of}
use Rattle.words.proofs.ListLaws.{cut-at, none-at, end-at, more-at}
use Rattle.words.proofs.only.set_named.Goals as goal

pub returns-in-None : goal.returns-in-None
returns-in-None c =
    let cut = cut-at c.names.rest.now c.before_comma-count.result c.before_comma-count.ensures.within c.before_comma-count.ensures.plain c.before_comma-count.ensures.stops in
    none-at c.names.set c.names.rest.now c.before_comma-count.result cut (sym c.in-None.is ∙ c.with_piece.ensures ∙ ap (with_piece c.names.set) c.front_of.ensures) ∙ sym c.names.invariant

pub returns-then-count-rest : goal.returns-then-count-rest
returns-then-count-rest c =
    let cut = cut-at c.names.rest.now c.before_comma-count.result c.before_comma-count.ensures.within c.before_comma-count.ensures.plain c.before_comma-count.ensures.stops in
    end-at c.names.set c.names.rest.now c.before_comma-count.result c.in-Some.more cut c.if-count-rest.true (sym c.in-Some.is ∙ c.with_piece.ensures ∙ ap (with_piece c.names.set) c.front_of.ensures) ∙ sym c.names.invariant

pub names-preserved : goal.names-preserved
names-preserved c =
    let cut = cut-at c.names.rest.now c.before_comma-count.result c.before_comma-count.ensures.within c.before_comma-count.ensures.plain c.before_comma-count.ensures.stops in
    let within = c.before_comma-count.ensures.within in
    let other = c.if-count-rest.false in
    let lt : c.before_comma-count.result < length c.names.rest.now = omega (arith, within, other) in
    c.names.invariant ∙ more-at c.names.set c.names.rest.now c.before_comma-count.result c.in-Some.more cut lt (sym c.in-Some.is ∙ c.with_piece.ensures ∙ ap (with_piece c.names.set) c.front_of.ensures) ∙ ap (λ z. with_names c.in-Some.more (pieces_of z)) (sym c.behind_comma-rest.ensures)
