use Rattle.export_text.proofs.FaceReading.{face_take, face_again}
use Rattle.export_text.proofs.laws.faces_are_read.Goals as goal

pub returns-clause-found : goal.returns-clause-found
returns-clause-found c = face_take

pub returns-clause-only : goal.returns-clause-only
returns-clause-only c = face_again
