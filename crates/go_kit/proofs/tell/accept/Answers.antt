use Rattle.std.proofs.Common.{map, ap}
use Rattle.std.proofs.lemmas.Result.{err_from_is_err_and}
use Rattle.package_faces.specs.declared.interface.Exported.{Exported}
use Rattle.package_faces.specs.Interfaces.{face_of, object_in}
use Rattle.type_model.specs.Tables.{types_in}
use Rattle.unit_read.specs.Index.{found}
use Rattle.go_kit.proofs.TellLemmas.{err_as, seen-of, none-seen, not-gathered}
use Rattle.go_kit.proofs.tell.accept.Goals as goal

pub returns-in-Ok-clause-told : goal.returns-in-Ok-clause-told
returns-in-Ok-clause-told c =
    let t = c.args.checked.typed.state.table in
    let told = c.in_ok-load-in-Ok.ensures.told in (
      face_of (types_in t) c.in-Ok.seen,
      seen-of c.args.path.now c.args.name.now c.in_ok-path.path c.in_ok-name.name (map (λ (o : Exported). object_in (types_in t) o) c.new-objects.result) (λ q. found c.args.places.now q) c.args.checked
          c.in_ok-path.ensures c.in_ok-name.ensures (ap (map (λ (o : Exported). object_in (types_in t) o)) c.new-objects.ensures)
          (face_of (types_in t) c.in-Ok.seen) c.in-Ok.ensures.is told.0 told.1,
      told.2,
    )

pub returns-in_err-load-in-Ok-clause-untold : goal.returns-in_err-load-in-Ok-clause-untold
returns-in_err-load-in-Ok-clause-untold c =
    let t = c.args.checked.typed.state.table in
    let p = err_from_is_err_and c.from_residual-in_err-load-in-Ok.result c.from_residual-in_err-load-in-Ok.ensures.1 in
    rw (p.1, p.2) (λ e.
    none-seen c.args.path.now c.args.name.now c.in_ok-path.path c.in_ok-name.name (map (λ (o : Exported). object_in (types_in t) o) c.new-objects.result) (λ q. found c.args.places.now q) c.args.checked
    c.in_ok-path.ensures c.in_ok-name.ensures (ap (map (λ (o : Exported). object_in (types_in t) o)) c.new-objects.ensures)
    (face_of (types_in t) c.in-Ok.seen) c.in-Ok.ensures.is (c.in_err-load-in-Ok.ensures.untold (err_as _ _ e)))

pub returns-in-Err-Unspelled-clause-untold : goal.returns-in-Err-Unspelled-clause-untold
returns-in-Err-Unspelled-clause-untold c = λ e.
    let t = c.args.checked.typed.state.table in
    not-gathered c.args.path.now c.args.name.now c.in_ok-path.path c.in_ok-name.name (map (λ (o : Exported). object_in (types_in t) o) c.new-objects.result) (λ q. found c.args.places.now q) c.args.checked
    c.in_ok-path.ensures c.in_ok-name.ensures (ap (map (λ (o : Exported). object_in (types_in t) o)) c.new-objects.ensures)
    (rw c.in-Err-Unspelled.field-0-is at c.in-Err-Unspelled.ensures.tells)
