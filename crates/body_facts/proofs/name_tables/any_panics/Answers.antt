use Rattle.std.proofs.Common.{false, refl, sym, ap, ◌∙◌, arith}
use Rattle.go_tree.proofs.NodeLemmas.{differ}
use Rattle.unit_read.specs.Subjects.{unit_of}
use Rattle.body_facts.proofs.PanicLemmas.{no_panic_more}
use Rattle.body_facts.proofs.name_tables.any_panics.Goals as goal

pub loop-n-init : goal.loop-n-init
loop-n-init c = λ m is. absurd (let low = is.0 in omega (arith, low))

pub loop-n-preserved : goal.loop-n-preserved
loop-n-preserved c = no_panic_more (unit_of c.args.u.now) c.args.file c.loop-n.n (sym c.denotes_panic.ensures ∙ c.if-denotes_panic.false) c.loop-n.invariant

pub returns-then-denotes_panic : goal.returns-then-denotes_panic
returns-then-denotes_panic c = (λ e. (c.loop-n.n, (c.loop-n-test.true, sym c.denotes_panic.ensures ∙ c.if-denotes_panic.true)), λ w. refl)

pub returns : goal.returns
returns c = (
  λ e. absurd (differ false refl e),
  λ w. absurd (c.loop-n.invariant w.0 (let low = w.1.0 in let t = c.loop-n-test.false in let e = c.loop-n.auto.n-end in omega (arith, low, t, e), w.1.1)),
)
