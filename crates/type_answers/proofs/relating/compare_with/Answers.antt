use Rattle.std.proofs.Common.{sym, subst}
use Rattle.type_model.specs.GoTypes.{MethodsBelow}
use Rattle.type_model.specs.Tables.{count}
use Rattle.type_answers.specs.Answering.{AreListedBelow}
use Rattle.type_answers.proofs.relating.compare_with.Goals as goal

pub relate_first-requires-clause-list : goal.relate_first-requires-clause-list
relate_first-requires-clause-list c =
    let t = c.args.s.now.table in
    subst (MethodsBelow (count t)) (sym c.deref.ensures.value) (subst (AreListedBelow t) c.in-Got.is c.requires.methods)
