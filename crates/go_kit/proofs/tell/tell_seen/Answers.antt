use Rattle.export_text.specs.Faces.{IsFaceText}
use Rattle.package_faces.specs.Interfaces.{face_of}
use Rattle.type_model.specs.Tables.{types_in}
use Rattle.unit_read.specs.Index.{found}
use Rattle.go_kit.proofs.TellLemmas.{all-known, not-known}
use Rattle.go_kit.proofs.tell.tell_seen.Goals as goal

pub returns-then-not-are_known-clause-untold : goal.returns-then-not-are_known-clause-untold
returns-then-not-are_known-clause-untold c = λ e value known.
    not-known (λ q. found c.args.places.now q) (face_of (types_in c.args.table.now) c.args.seen.now) c.in_ok-paths.paths.items c.deref.result.now c.in_ok-paths.ensures c.deref.ensures.value
    (c.are_known.ensures.unknown c.if-not-are_known.true) known

pub returns-in-Some-clause-told : goal.returns-in-Some-clause-told
returns-in-Some-clause-told c =
    let written : IsFaceText (face_of (types_in c.args.table.now) c.args.seen.now) c.in-Some.text.items = rw c.in-Some.is at c.in_ok-text.ensures.written in (
      written.value,
      all-known (λ q. found c.args.places.now q) (face_of (types_in c.args.table.now) c.args.seen.now) c.in_ok-paths.paths.items c.deref.result.now c.in_ok-paths.ensures c.deref.ensures.value
          (c.are_known.ensures.known c.if-not-are_known.false),
      (c.in-Some.text.items, written, c.in_ok-load-in-Some.ensures),
    )
