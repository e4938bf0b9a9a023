use Rattle.std.proofs.Common.{rules, ◌≡◌, true, false}
use Rattle.std.specs.Str.{bytes_eq}
use Rattle.std.proofs.lemmas.Slice.Eq.{bytes_eq-Decides}
use Rattle.type_model.specs.GoTypes.{type_at}
use Rattle.type_model.specs.Tables.{types_in}
use Rattle.export_text.proofs.ListLaws.{not_own}
use Rattle.export_text.proofs.listing.own_name_of.Goals as goal

pub returns-then-is_own : goal.returns-then-is_own
returns-then-is_own c =
    let own : bytes_eq c.in-Some.name.now.«package» c.args.path.now ≡ true = search rules in
    (c.in-Some.ensures, (bytes_eq-Decides c.in-Some.name.now.«package» c.args.path.now).0 own)

pub returns : goal.returns
returns c =
    let other : bytes_eq c.in-Some.name.now.«package» c.args.path.now ≡ false = search rules in
    not_own c.args.path.now (type_at (types_in c.args.table.now) c.args.id) c.in-Some.name.now c.in-Some.ensures other
