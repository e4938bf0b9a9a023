use Rattle.std.proofs.Common.{sym, ◌∙◌}
use Rattle.gv_bytes.proofs.Options.{some_is}
use Rattle.export_text.proofs.FaceReading.{face_again}
use Rattle.export_text.proofs.laws.one_face_text.Goals as goal

pub returns-clause-one : goal.returns-clause-one
returns-clause-one c = λ f g bytes p q. some_is f g (sym (face_again bytes f p) ∙ face_again bytes g q)

pub returns-clause-text : goal.returns-clause-text
returns-clause-text c = λ f a b p q. p.whole ∙ sym q.whole
