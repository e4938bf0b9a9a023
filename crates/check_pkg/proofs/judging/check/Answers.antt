use Rattle.std.proofs.Common.{◌∙◌}
use Rattle.package_faces.specs.Interfaces.{faces_of}
use Rattle.type_model.specs.Tables.{types_in}
use Rattle.check_pkg.proofs.NameLemmas.{named_are}
use Rattle.check_pkg.proofs.PackageLemmas.{is_outcome}
use Rattle.check_pkg.proofs.ReadLemmas.{names_are}
use Rattle.check_pkg.proofs.judging.check.Goals as goal

pub returns-clause-is : goal.returns-clause-is
returns-clause-is g c =
    is_outcome g.R.Rules.rule c.args.path.now c.args.files.now c.args.trees.now (faces_of (types_in c.args.table) c.args.env.now) c.deref.result.now c.in_ok-bound.bound.uses c.in_ok-outcome.outcome
    (c.deref.ensures.value ∙ (c.in_ok-named.ensures ∙ named_are (types_in c.args.table) c.args.env.now)) c.in_ok-bound.ensures.ordered c.in_ok-bound.ensures.bound c.in_ok-outcome.ensures.is

pub judge_files-requires-clause-regions : goal.judge_files-requires-clause-regions
judge_files-requires-clause-regions g c = names_are c.args.trees.now c.in_ok-bound.bound.names.items c.in_ok-bound.ensures.names
