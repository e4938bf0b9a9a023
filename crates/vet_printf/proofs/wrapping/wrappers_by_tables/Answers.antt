use Rattle.least.specs.Tables.{home}
use Rattle.least.proofs.Gluing.{glued}
use Rattle.least.proofs.TableLaws.{staged_by_tables}
use Rattle.vet_printf.specs.Wrappers.{Admits, HandsTo, Has}
use Rattle.vet_printf.proofs.WrapperLemmas.{local}
use Rattle.vet_printf.proofs.wrapping.wrappers_by_tables.Goals as goal

pub returns : goal.returns
returns c env rank listed forwards tables given found see order told =
    glued home (Has env) (Admits listed (HandsTo forwards)) rank given found (local (Has env) listed (HandsTo forwards) see) order
    (staged_by_tables (Has env) (Admits listed (HandsTo forwards)) rank tables given found order told)
