use Rattle.std.proofs.Common.{ap, ◌∙◌, subst, length, List}
use Rattle.std.specs.Prelude.{IfSome}
use Rattle.std.specs.Option.{option_copied}
use Rattle.type_model.specs.GoTypes.{types_of}
use Rattle.type_model.specs.Tables.{types_in, declarations_in}
use Rattle.type_model.specs.declared.term.Term.{Term}
use Rattle.unit_read.specs.Exports.{IsUseIn}
use Rattle.unit_read.specs.Subjects.{full_of}
use Rattle.unit_read.specs.Units.{base_of}
use Rattle.unit_read.proofs.BareLemmas.{bare_exports}
use Rattle.check_pkg.proofs.ElsewhereLemmas.{struct_seen}
use Rattle.check_pkg.proofs.elsewhere.exports_struct.Goals as goal

pub is_struct_export-requires-clause-within : goal.is_struct_export-requires-clause-within
is_struct_export-requires-clause-within c =
    subst (λ (terms : List Term). IfSome (option_copied c.exported_of.result) (IsUseIn (length terms))) c.requires.types c.exported_of.ensures.within

pub returns : goal.returns
returns c =
    struct_seen (types_in c.args.t.now) (types_of c.args.u.now.env.now.types.now) (declarations_in c.args.t.now) (base_of (full_of c.args.u.now)) _ _ c.is_struct_export.result (ap types_of c.requires.types) c.requires.base
    (c.exported_of.ensures.is ∙ bare_exports (full_of c.args.u.now) c.args.name.now c.args.owner) c.is_struct_export.ensures
