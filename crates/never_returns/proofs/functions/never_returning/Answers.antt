use Rattle.std.proofs.Common.{◌≡◌, ℕ, List, length, ap, subst, arith}
use Rattle.std.specs.List.{Contains}
use Rattle.least.specs.Work.{set_of}
use Rattle.never_returns.specs.Bodies.{row_of}
use Rattle.never_returns.proofs.NumberLemmas.{least_same}
use Rattle.never_returns.proofs.ReaderLemmas.{readers_so}
use Rattle.never_returns.proofs.functions.never_returning.Goals as goal

pub first_looks-requires-clause-within : goal.first_looks-requires-clause-within
first_looks-requires-clause-within c j i w =
    let rows = c.in_ok-rows.ensures in
    let low = rows.within j i (subst (λ (l : List (List ℕ)). Contains (row_of l j) i) c.deref.ensures.value w) in
    let size = rows.size in
    let same : length c.deref.result.now ≡ length c.in_ok-rows.rows.items = ap length c.deref.ensures.value in
    omega arith

pub first_looks-requires-clause-few : goal.first_looks-requires-clause-few
first_looks-requires-clause-few c =
    let size = c.in_ok-rows.ensures.size in
    let few = c.requires.few in
    let same : length c.deref.result.now ≡ length c.in_ok-rows.rows.items = ap length c.deref.ensures.value in
    omega arith

pub invariant_of-all : goal.invariant_of-all
invariant_of-all c = record { readers_are = readers_so c.args.files.now c.args.functions.now c.in_ok-rows.rows.items c.in_ok-rows.ensures; few = c.requires.few }

pub least-requires : goal.least-requires
least-requires c i w =
    let low = c.in_ok-first.ensures i (subst (λ (l : List ℕ). Contains l i) c.deref-2.ensures.value w) in
    let size = c.in_ok-rows.ensures.size in
    let same : length c.deref.result.now ≡ length c.in_ok-rows.rows.items = ap length c.deref.ensures.value in
    omega arith

pub returns-clause-least : goal.returns-clause-least
returns-clause-least c = least_same c.args.files.now c.args.functions.now c.requires.graphs (set_of c.in_ok-flags.flags.items) c.in_ok-flags.ensures.least
