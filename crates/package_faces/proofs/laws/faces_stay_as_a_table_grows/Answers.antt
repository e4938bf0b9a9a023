use Rattle.type_model.specs.Tables.{terms_in}
use Rattle.package_faces.proofs.FaceLaws.{faces_stay, interfaces_grow}
use Rattle.package_faces.proofs.laws.faces_stay_as_a_table_grows.Goals as goal

pub returns-clause-same : goal.returns-clause-same
returns-clause-same c old new grown within = faces_stay (terms_in old) (terms_in new) grown.extends c.args._interfaces.now within

pub returns-clause-within : goal.returns-clause-within
returns-clause-within c old new grown within = interfaces_grow (terms_in old) (terms_in new) grown.extends c.args._interfaces.now within
