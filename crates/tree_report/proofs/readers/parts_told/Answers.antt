use Rattle.std.proofs.Common.{rules, ◌≡◌, ◌+◌, ◌∙◌, ◌∷◌, [], ℕ, List, length, sym, subst}
use Rattle.std.proofs.lemmas.List.{nil_from_length}
use Rattle.tree_report.specs.Readings.{AreToldFrom}
use Rattle.tree_report.specs.Telling.{AreTold}
use Rattle.tree_report.specs.declared.read.Told.{Told}
use Rattle.tree_report.proofs.ReadingLemmas.{told_next}
use Rattle.tree_report.proofs.ToldLemmas.{told_none}
use Rattle.tree_report.proofs.readers.parts_told.Goals as goal

pub loop-one-init : goal.loop-one-init
loop-one-init c = λ tree from.
    let all : c.into_iter-one-iterator.result.rest.items ≡ c.args.told.items = search rules in (
      0,
      told_none tree c.new-heads.result.items c.new-refusals.result.items c.new-heads.ensures.items c.new-refusals.ensures.items,
      subst (λ (l : List Told). AreToldFrom tree 0 l) (sym all) from,
    )

pub loop-one-preserved : goal.loop-one-preserved
loop-one-preserved c = λ tree from.
    let next : c.loop-one.one-iterator.rest.items ≡ c.in-Some.one ∷ c.next.new.self.rest.items = search rules in
    let so = c.loop-one.invariant tree from in
    let both =
    told_next tree so.0 c.in-Some.one c.loop-one.one-iterator.rest.items c.next.new.self.rest.items c.loop-one.heads.items c.push.new.self.items c.loop-one.refusals.items c.push-in-loop-one.new.self.items next so.1 so.2
    c.in_ok-push.ensures.items c.in_ok-push-2.ensures.items in
    (so.0 + 1, both.0, both.1)

pub returns : goal.returns
returns c = λ tree from.
    let rest = c.loop-one.one-iterator.rest in
    let ended : rest.items ≡ [] = nil_from_length rest.items (sym rest.ok.0 ∙ c.in-None.ensures.steps.0) in
    let so = c.loop-one.invariant tree from in
    let all : so.0 ≡ length tree = subst (λ (l : List Told). AreToldFrom tree so.0 l) ended so.2 in
    subst (λ (n : ℕ). AreTold tree n c.loop-one.heads.items c.loop-one.refusals.items) all so.1
