use Rattle.method_sets.proofs.ChooseLaws.{selecting_lasts}
use Rattle.method_sets.proofs.ListLaws.{listing_lasts}
use Rattle.method_sets.proofs.ReplyLaws.{said_in, said_methods}
use Rattle.method_sets.proofs.laws.selection_lasts.Goals as goal

pub returns-clause-selected : goal.returns-clause-selected
returns-clause-selected c = selecting_lasts

pub returns-clause-listed : goal.returns-clause-listed
returns-clause-listed c = listing_lasts

pub returns-clause-said : goal.returns-clause-said
returns-clause-said c = said_in

pub returns-clause-told : goal.returns-clause-told
returns-clause-told c = said_methods
