use Rattle.never_returns.proofs.ReaderLemmas.{admitted_at}
use Rattle.never_returns.proofs.functions.FunctionsAdmission.judge.Goals as goal

pub returns : goal.returns
returns c =
    admitted_at c.args.self.now.files.now c.args.self.now.functions.now c.args.members.now c.args.at c.function_at-function.result.now c.in_ok-admitted.admitted
    c.function_at-function.ensures c.requires.members c.in_ok-admitted.ensures
