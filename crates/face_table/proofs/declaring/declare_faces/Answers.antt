use Rattle.std.proofs.Common.{◌≡◌, Some, sym, ap, ◌∙◌, subst, arith, slice_get}
use Rattle.std.proofs.lemmas.Option.{slice_get-get_or}
use Rattle.package_faces.specs.Interfaces.{face_of, faces_of}
use Rattle.type_model.specs.Tables.{types_in}
use Rattle.face_table.specs.Fitting.{DeclaresFace}
use Rattle.face_table.proofs.StepLemmas.{none_given, its_now, more_given, stuck_given, all_given, all_fit}
use Rattle.face_table.proofs.declaring.declare_faces.Goals as goal

pub loop-k-init : goal.loop-k-init
loop-k-init c = none_given c.args.t.now c.args.own.now (faces_of (types_in c.args.t.now) c.args.interfaces.now) c.requires.table c.requires.error

pub declare_face-requires-clause-table : goal.declare_face-requires-clause-table
declare_face-requires-clause-table c = c.loop-k.invariant.declares.table

pub declare_face-requires-clause-within : goal.declare_face-requires-clause-within
declare_face-requires-clause-within c =
    its_now c.args.t.now c.loop-k.t c.args.own.now c.args.interfaces.now c.loop-k.k c.index-interfaces-k.result c.requires.within
    (slice_get-get_or c.args.interfaces.now c.loop-k.k c.index-interfaces-k.result c.loop-k-test.true ∙ ap Some (sym c.index-interfaces-k.is)) c.loop-k.invariant

pub returns-then-not-fit : goal.returns-then-not-fit
returns-then-not-fit c = record {
  given = λ never. absurd cc;
  are_fit = λ never. absurd cc;
  unfit = λ told.
      stuck_given c.args.t.now c.loop-k.t c.args.own.now c.args.interfaces.now c.loop-k.k c.index-interfaces-k.result c.requires.within
      (slice_get-get_or c.args.interfaces.now c.loop-k.k c.index-interfaces-k.result c.loop-k-test.true ∙ ap Some (sym c.index-interfaces-k.is)) c.loop-k.invariant c.declare_face.new.t
      (subst (DeclaresFace c.loop-k.t c.declare_face.new.t c.args.own.now (faces_of (types_in c.args.t.now) c.args.interfaces.now) c.loop-k.k (face_of (types_in c.loop-k.t) c.index-interfaces-k.result)) c.if-not-fit.true
      (c.in_ok-fit.ensures (faces_of (types_in c.args.t.now) c.args.interfaces.now) (c.in_ok-firsts.ensures (types_in c.args.t.now))));
}

pub loop-k-preserved : goal.loop-k-preserved
loop-k-preserved c =
    more_given c.args.t.now c.loop-k.t c.args.own.now c.args.interfaces.now c.loop-k.k c.index-interfaces-k.result c.requires.within
    (slice_get-get_or c.args.interfaces.now c.loop-k.k c.index-interfaces-k.result c.loop-k-test.true ∙ ap Some (sym c.index-interfaces-k.is)) c.loop-k.invariant c.declare_face.new.t
    (subst (DeclaresFace c.loop-k.t c.declare_face.new.t c.args.own.now (faces_of (types_in c.args.t.now) c.args.interfaces.now) c.loop-k.k (face_of (types_in c.loop-k.t) c.index-interfaces-k.result)) c.if-not-fit.false
    (c.in_ok-fit.ensures (faces_of (types_in c.args.t.now) c.args.interfaces.now) (c.in_ok-firsts.ensures (types_in c.args.t.now))))

pub returns : goal.returns
returns c = record {
  given = λ told. all_given c.args.t.now c.loop-k.t c.args.own.now c.args.interfaces.now c.loop-k.k (omega (arith, c.loop-k-test.false)) c.loop-k.invariant;
  are_fit = λ told. all_fit c.args.t.now c.loop-k.t c.args.own.now c.args.interfaces.now c.loop-k.k (omega (arith, c.loop-k-test.false)) c.loop-k.invariant;
  unfit = λ never. absurd cc;
}
