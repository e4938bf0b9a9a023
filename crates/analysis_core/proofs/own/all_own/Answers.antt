use Rattle.std.proofs.Common.{◌≡◌, ℕ, ◌+◌, ◌<◌, List, length, take, get_or, All, subst, arith, refl}
use Rattle.std.proofs.lemmas.List.{take_all}
use Rattle.std.proofs.lemmas.List.Elements.{All-more}
use Rattle.analysis_core.specs.declared.diagnostic.Diagnostic.{Diagnostic}
use Rattle.analysis_core.specs.Findings.{IsOwn}
use Rattle.analysis_core.proofs.own.all_own.Goals as goal

own-more : (ds : List Diagnostic) (n : ℕ) (d : Diagnostic) → n < length ds → All IsOwn (take n ds) → d ≡ get_or ds n d → IsOwn d → All IsOwn (take (n + 1) ds)
own-more ds n d lt old is owned = All-more IsOwn ds n d lt old (subst IsOwn is owned)

pub loop-diagnostic-preserved : goal.loop-diagnostic-preserved
loop-diagnostic-preserved c = own-more c.args.d.now c.loop-diagnostic.diagnostic-index c.diagnostic-item.result c.loop-diagnostic-test.true c.loop-diagnostic.invariant c.diagnostic-item.is (c.if-not-is_own.ensures.0 refl)

pub returns : goal.returns
returns c = (
  λ _. subst (All IsOwn) (take_all c.loop-diagnostic.diagnostic-index c.args.d.now (let f = c.loop-diagnostic-test.false in omega (arith, f))) c.loop-diagnostic.invariant,
  λ _. refl,
)
