use Rattle.package_faces.specs.Interfaces.{faces_of}
use Rattle.type_model.specs.Tables.{types_in}
use Rattle.face_table.proofs.StepLemmas.{GivesFirst}
use Rattle.face_table.proofs.declaring.declare_faces.Given as goal

abbrev pub invariant-loop-k : goal.invariant-loop-k
invariant-loop-k l = GivesFirst l.fn.t l.t l.own (faces_of (types_in l.fn.t) l.interfaces) l.k
