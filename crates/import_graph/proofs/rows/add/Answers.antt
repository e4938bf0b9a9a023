use Rattle.std.proofs.Common.{◌∙◌, ap, sym, subst, Some}
use Rattle.std.specs.List.{Contains}
use Rattle.import_graph.proofs.RowLemmas.{longer-other, longer-none, longer-at, unnot, unnot-true}
use Rattle.import_graph.proofs.rows.add.Goals as goal

pub returns-then-is_other : goal.returns-then-is_other
returns-then-is_other c = longer-other c.args.stub c.args.home.now c.args.n c.args.names.now c.args.rows.now.items (unnot-true _ (sym c.is_other.ensures ∙ c.if-is_other.true))

pub returns-in_ok-push_at-in-Some : goal.returns-in_ok-push_at-in-Some
returns-in_ok-push_at-in-Some c =
    longer-at c.args.stub c.args.home.now c.args.n c.args.names.now c.args.rows.now.items c.push_at.new.rows.items c.in-Some.at c.requires.order c.requires.size
    (unnot _ (sym c.is_other.ensures ∙ c.if-is_other.false)) (c.in-Some.ensures ∙ ap Some (c.as_bytes.ensures.value ∙ c.as_str.ensures)) c.in_ok-push_at-in-Some.ensures

pub returns-in-None : goal.returns-in-None
returns-in-None c = longer-none c.args.stub c.args.home.now c.args.n c.args.names.now c.args.rows.now.items (λ h. c.in-None.ensures (subst (Contains c.args.names.now) (sym (c.as_bytes.ensures.value ∙ c.as_str.ensures)) h))
