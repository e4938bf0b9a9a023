use Rattle.std.proofs.Common.{rules, ◌≡◌, ◌∙◌, ◌∷◌, [], ℕ, List, true, false, length, refl, sym, ap, subst}
use Rattle.gv_driver.specs.declared.wave.Came.{Came}
use Rattle.gv_driver.specs.declared.node.Node.{Node}
use Rattle.std.specs.Prelude.{Option}
use Rattle.std.proofs.lemmas.List.{nil_from_length}
use Rattle.gv_driver.specs.Waves.{AllDone, AllWithin, is_done, put_all}
use Rattle.gv_driver.proofs.WaveSums.{put-size}
use Rattle.gv_driver.proofs.wave.put_each.Goals as goal

pub loop-one-init : goal.loop-one-init
loop-one-init c =
    let all : c.into_iter-one-iterator.result.rest.items ≡ c.args.made.items = search rules in
    let table = c.args.table.now.items in
    record {
      put = ap (put_all table) all;
      within = subst (λ (l : List Came). AllWithin (length table) l) (sym all) c.requires;
      done = λ d. subst (λ (l : List Came). AllDone l) all d;
      undone = λ d. subst (λ (l : List Came). AllDone l) (sym all) d;
    }

pub put-requires : goal.put-requires
put-requires c =
    let next : c.loop-one.one-iterator.rest.items ≡ c.in-Some.one ∷ c.next.new.self.rest.items = search rules in
    (subst (λ (l : List Came). AllWithin (length c.loop-one.table.items) l) next c.loop-one.invariant.within).0

pub loop-one-preserved : goal.loop-one-preserved
loop-one-preserved c =
    let rest = c.next.new.self.rest.items in
    let table = c.loop-one.table.items in
    let next : c.loop-one.one-iterator.rest.items ≡ c.in-Some.one ∷ rest = search rules in
    let size : length c.put.new.table.items ≡ length table = ap (λ (t : List (Option Node)). length t) c.in_ok-put.ensures.put ∙ put-size table c.in-Some.one in
    record {
      put = ap (λ (t : List (Option Node)). put_all t rest) c.in_ok-put.ensures.put ∙ (sym (ap (put_all table) next) ∙ c.loop-one.invariant.put);
      within = subst (λ (n : ℕ). AllWithin n rest) (sym size) (subst (λ (l : List Came). AllWithin (length table) l) next c.loop-one.invariant.within).1;
      done = λ d. c.loop-one.invariant.done (subst (λ (l : List Came). AllDone l) (sym next) (c.in_ok-put.ensures.done, d));
      undone = λ d. (subst (λ (l : List Came). AllDone l) next (c.loop-one.invariant.undone d)).1;
    }

pub returns-in_err-put-clause-stuck : goal.returns-in_err-put-clause-stuck
returns-in_err-put-clause-stuck c =
    let next : c.loop-one.one-iterator.rest.items ≡ c.in-Some.one ∷ c.next.new.self.rest.items = search rules in
    let stuck : is_done c.in-Some.one ≡ false = c.in_err-put.ensures.stuck.0 in
    let h : AllDone c.args.made.items → ⊥ = λ d. (let one : is_done c.in-Some.one ≡ true = (subst (λ (l : List Came). AllDone l) next (c.loop-one.invariant.undone d)).0 in absurd cc) in
    search (rules, h)

pub returns-clause-put : goal.returns-clause-put
returns-clause-put c =
    let rest = c.loop-one.one-iterator.rest in
    let ended : rest.items ≡ [] = nil_from_length rest.items (sym rest.ok.0 ∙ c.in-None.ensures.steps.0) in (
      ap (put_all c.loop-one.table.items) (sym ended) ∙ c.loop-one.invariant.put,
      c.loop-one.invariant.done (subst (λ (l : List Came). AllDone l) (sym ended) tt),
    )
