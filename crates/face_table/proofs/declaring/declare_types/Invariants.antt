use Rattle.face_table.proofs.TypesLemmas.{DeclaresFirst}
use Rattle.face_table.proofs.declaring.declare_types.Given as goal

abbrev pub invariant-loop-i : goal.invariant-loop-i
invariant-loop-i l = DeclaresFirst l.fn.t l.t l.path l.types l.i
