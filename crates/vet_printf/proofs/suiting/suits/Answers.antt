use Rattle.vet_printf.proofs.SuitLemmas.{suited_fit, suited_parts, suited_alone}
use Rattle.vet_printf.proofs.suiting.suits.Goals as goal

pub returns-then-fit : goal.returns-then-fit
returns-then-fit c = suited_fit c.args.t.now c.args.class c.args.id.0 c.is_fit-fit.result c.is_fit-fit.ensures c.if-fit.true

pub returns-then-parted : goal.returns-then-parted
returns-then-parted c =
    suited_parts c.args.t.now c.args.class c.args.id.0 c.stands_for-of.result.0 c.is_fit-fit.result c.in_ok-fails.fails c.stands_for-of.ensures.is c.is_fit-fit.ensures c.if-fit.false c.in_ok-fails.ensures

pub returns : goal.returns
returns c =
    suited_alone c.args.t.now c.args.class c.args.id.0 c.stands_for-of.result.0 c.is_fit-fit.result c.is_parted_type-parted.result c.stands_for-of.ensures.is c.is_fit-fit.ensures c.if-fit.false
    c.is_parted_type-parted.ensures c.if-parted.false
