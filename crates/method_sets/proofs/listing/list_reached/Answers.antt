use Rattle.std.proofs.Common.{List, length, refl, subst}
use Rattle.type_model.specs.GoTypes.{GoType, type_at}
use Rattle.type_model.specs.Tables.{types_in}
use Rattle.method_sets.specs.declared.search.Entry.{Entry}
use Rattle.method_sets.specs.Shown.{IsReached}
use Rattle.method_sets.specs.Replies.{AreKnownBefore, IsMissingAt}
use Rattle.method_sets.proofs.ReplyLaws.{list_awaited, list_enough}
use Rattle.method_sets.proofs.listing.list_reached.Goals as goal

pub returns-in-Some : goal.returns-in-Some
returns-in-Some c =
    let t = c.args.t.now in
    let es = c.in_ok-entries.entries.items in
    list_awaited t (type_at (types_in t) c.args.of) es c.in-Some.j c.index.result.now c.index.ensures c.requires.known c.requires.plain
    (subst (λ (x : GoType). IsReached t x es) c.base_of.ensures.is c.in_ok-entries.ensures)
    (subst (λ (l : List Entry). IsMissingAt t l c.in-Some.j) c.deref.ensures.value c.in-Some.ensures.some)

pub listed-requires-clause-reached : goal.listed-requires-clause-reached
listed-requires-clause-reached c =
    rw c.deref-in-None.ensures.value (subst (λ (x : GoType). IsReached c.args.t.now x c.in_ok-entries.entries.items) c.base_of.ensures.is c.in_ok-entries.ensures)

pub returns : goal.returns
returns c =
    let t = c.args.t.now in
    let es = c.in_ok-entries.entries.items in (
      list_enough t (type_at (types_in t) c.args.of) es c.requires.known c.requires.plain
          (subst (λ (x : GoType). IsReached t x es) c.base_of.ensures.is c.in_ok-entries.ensures)
          (subst (λ (l : List Entry). AreKnownBefore t l (length l)) c.deref.ensures.value (c.in-None.ensures.none refl)),
      c.in_ok-methods-in-None.ensures,
    )
