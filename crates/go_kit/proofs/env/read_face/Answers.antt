use Rattle.std.proofs.Common.{ℕ, List, ap, sym, ◌∙◌, subst}
use Rattle.type_model.specs.Tables.{types_in}
use Rattle.go_kit.proofs.KnownLemmas.{all_grow}
use Rattle.go_kit.proofs.ReadLemmas.{known-answer}
use Rattle.go_kit.proofs.env.read_face.Goals as goal

pub returns-in-Some-clause-is : goal.returns-in-Some-clause-is
returns-in-Some-clause-is c =
    known-answer c.args.table.now c.args.pair.now c.as_slice.result.now c.as_str-path.result.now c.in-Some.face c.keep_path.result c.as_slice.ensures c.as_str-path.ensures
    (rw c.in-Some.is at c.taken.ensures.is) c.keep_path.ensures.kept c.keep_path.ensures.none

pub returns-in_ok-read-in-None-clause-known : goal.returns-in_ok-read-in-None-clause-known
returns-in_ok-read-in-None-clause-known c =
    all_grow c.args.table.now c.read_new.new.table c.taken.new.known c.in_ok-read-in-None.ensures.grown.extends c.taken.ensures.known
