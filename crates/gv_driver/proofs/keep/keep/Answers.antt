use Rattle.std.proofs.Common.{rules, ◌≡◌, ℕ, ◌<◌, ◌+◌, ◌∙◌, ◌++◌, set, length, arith, sym, ap, subst, refl, drop, take, map, List, Some, None, slice_get}
use Rattle.fact_cache.specs.declared.list.Entry.{Entry}
use Rattle.fact_cache.specs.Caches.{lookup}
use Rattle.gv_driver.proofs.EntryLaws.{keep-new}
use Rattle.gv_driver.proofs.EntryLoops.{keep-none, keep-next, mapped-at, mapped-none, same-later, take-whole, taken-at}
use Rattle.gv_driver.proofs.keep.keep.Goals.{in-Some+in_ok-keep_entry, in_default}
use Rattle.gv_driver.proofs.keep.keep.Goals as goal

pub loop-p-init : goal.loop-p-init
loop-p-init c = record { same = refl; kept = λ list e. keep-none c.args.cache.now list }

pub keep_entry-requires : goal.keep_entry-requires
keep_entry-requires c =
    let x = c.in-Some.entry in
    let list = c.requires.0 in
    let size : c.len-p-end.result ≡ length c.args.entries.items = c.len-p-end.ensures ∙ c.args.entries.ok.0 in
    let test : c.loop-p.p < c.len-p-end.result = c.loop-p-test.true in
    let within : c.loop-p.p < length c.args.entries.items = omega (arith, size, test) in
    let at : slice_get c.args.entries.items c.loop-p.p ≡ Some (Some x) =
    taken-at c.loop-p.entries.items c.args.entries.items c.loop-p.p c.index_mut.result.now (Some x) c.loop-p.invariant.same within c.index_mut.ensures.value c.in-Some.ensures.value in
    let here : slice_get list c.loop-p.p ≡ Some x = mapped-at c.args.entries.items list c.loop-p.p x c.requires.1 at in
    subst (λ (l : List Entry). lookup l x.input ≡ None) (sym (c.loop-p.invariant.kept list c.requires.1)) (keep-new c.args.cache.now list c.loop-p.p x c.requires.2 here)

pub loop-p-preserved : goal.loop-p-preserved
loop-p-preserved c =
    let before = c.args.cache.now in
    let all = c.args.entries.items in
    let p = c.loop-p.p in
    let size : c.len-p-end.result ≡ length all = c.len-p-end.ensures ∙ c.args.entries.ok.0 in
    let test : p < c.len-p-end.result = c.loop-p-test.true in
    let within : p < length all = omega (arith, size, test) in
    let same : drop (p + 1) (set c.loop-p.entries.items p c.take.new.self) ≡ drop (p + 1) all = same-later c.loop-p.entries.items all p c.take.new.self c.loop-p.invariant.same in
    elim c.match-take.branch [
      | in-Some+in_ok-keep_entry w ↦
          let x = w.in-Some.entry in
          let at : slice_get all p ≡ Some (Some x) = taken-at c.loop-p.entries.items all p c.index_mut.result.now (Some x) c.loop-p.invariant.same within c.index_mut.ensures.value w.in-Some.ensures.value in
          rw w.cache-is (record {
            same = same;
            kept = λ list e. keep-next before list p x c.loop-p.cache w.keep_entry.new.cache (mapped-at all list p x e at) (c.loop-p.invariant.kept list e) w.in_ok-keep_entry.ensures.kept;
          })
      | in_default w ↦
          let none : None ≡ c.index_mut.result.now = sym w.in_default.is ∙ c.take.ensures.value in
          let at : slice_get all p ≡ Some None = taken-at c.loop-p.entries.items all p c.index_mut.result.now None c.loop-p.invariant.same within c.index_mut.ensures.value none in
          absurd (mapped-none all c.requires.0 p c.requires.1 at)
    ]

pub returns-in_err-keep_entry-clause-part : goal.returns-in_err-keep_entry-clause-part
returns-in_err-keep_entry-clause-part c =
    let h : (list : List Entry) → c.args.entries.items ≡ map Some list → (done : ℕ) × (c.keep_entry.new.cache ≡ c.args.cache.now ++ take done list) =
    λ list e. (c.loop-p.p, c.in_err-keep_entry.ensures.unchanged ∙ c.loop-p.invariant.kept list e) in
    search (rules, h)

pub returns-clause-whole : goal.returns-clause-whole
returns-clause-whole c = λ list e.
    let size : c.len-p-end.result ≡ length c.args.entries.items = c.len-p-end.ensures ∙ c.args.entries.ok.0 in
    let test = c.loop-p-test.false in
    c.loop-p.invariant.kept list e ∙ ap (λ (l : List Entry). c.args.cache.now ++ l) (take-whole c.args.entries.items list c.loop-p.p e (omega (arith, size, test)))
