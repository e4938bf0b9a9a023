use Rattle.std.proofs.Common.{rules, ◌≡◌, Option, None}
use Rattle.type_model.specs.GoTypes.{GoType, type_at}
use Rattle.type_model.specs.Declarations.{under_of}
use Rattle.type_model.specs.Tables.{types_in, declarations_in}
use Rattle.export_text.proofs.ListLaws.{not_declared, own_type_is, plain_is}
use Rattle.export_text.proofs.listing.declared_global.Goals as goal

pub returns-in_default-clause-tells : goal.returns-in_default-clause-tells
returns-in_default-clause-tells c =
    let none : ◌≡◌ {A = Option GoType} None (under_of (declarations_in c.args.table.now) (type_at (types_in c.args.table.now) c.args.id)) = search rules in
    not_declared c.args.table.now c.args.id c.args.name.now c.requires.named none

pub returns-clause-is : goal.returns-clause-is
returns-clause-is c =
    rw c.new.ensures (own_type_is c.args.table.now c.args.id c.args.name.now c.requires.named (record { name = c.in_ok-copy.copy; under = c.in-Some.under; methods = c.in_ok-methods.methods.items }) c.requires.global c.in_ok-copy.ensures c.in-Some.ensures.is
    c.in_ok-methods.ensures.same c.in_ok-methods.ensures.sorted (c.in-Some.ensures.within, c.in_ok-methods.ensures.below))

pub returns-clause-tells : goal.returns-clause-tells
returns-clause-tells c = plain_is c.args.table.now c.args.id c.args.name.now c.requires.named c.requires.global (type_at (types_in c.args.table.now) c.in-Some.under) c.in-Some.ensures.is
