use Rattle.std.proofs.Common.{List, [], sym, ap, ◌∙◌, subst}
use Rattle.go_tree.specs.declared.tree.FileTree.{FileTree}
use Rattle.unit_blocks.specs.Blocks.{AreNames}
use Rattle.unit_read.specs.Units.{Unit}
use Rattle.unit_read.specs.Environments.{faces_in}
use Rattle.unit_read.specs.Index.{texts_of}
use Rattle.unit_read.specs.Imports.{bare}
use Rattle.unit_read.specs.Subjects.{full_of}
use Rattle.package_needs.specs.Worlds.{AreNeedsOf}
use Rattle.package_objects.specs.Declares.{declared}
use Rattle.unit_rows.specs.Redeclared.{package_names}
use Rattle.check_pkg.specs.Elsewhere.{struct_elsewhere}
use Rattle.check_pkg.proofs.ReadLemmas.{is_unit_of, names_owned, names_flagged}
use Rattle.check_pkg.proofs.read.subject_of.Goals as goal

-- the owners change nothing of what names struct types of other packages
pub returns-clause-of : goal.returns-clause-of
returns-clause-of c =
    is_unit_of c.args.seen.path.now (texts_of c.args.seen.texts.now) c.args.seen.trees.now c.args.seen.uses.now (faces_in c.args.seen.env.now) (full_of c.in_ok-bare.bare) (full_of c.with_flags.result)
    c.args.seen.redeclared.items c.args.seen.cyclic.items c.args.seen.circular.items c.in_ok-redeclared.redeclared.items c.in_ok-cyclic.cyclic.items c.in_ok-circular.circular.items c.args.order.now c.args.owners.items
    c.in_ok-bare.ensures.of c.with_flags.ensures.of c.in_ok-redeclared.ensures
    (subst (λ (u : Unit). AreNeedsOf c.args.seen.uses.now c.args.seen.trees.now (struct_elsewhere u) c.args.order.now c.args.owners.items) (sym c.in_ok-bare.ensures.of) c.requires.needs)
    c.in_ok-cyclic.ensures c.in_ok-circular.ensures

pub block_rows-requires-clause-names : goal.block_rows-requires-clause-names
block_rows-requires-clause-names c = subst (λ (trees : List FileTree). AreNames trees c.args.regions.now) (sym (ap (λ (u : Unit). u.trees) c.in_ok-bare.ensures.of)) c.requires.regions

pub returns-clause-env : goal.returns-clause-env
returns-clause-env c = c.with_flags.ensures.env ∙ c.in_ok-bare.ensures.env

pub block_rows-requires-clause-top : goal.block_rows-requires-clause-top
block_rows-requires-clause-top c = c.requires.names ∙ (sym (names_owned (full_of c.args.seen) c.args.owners.items) ∙ ap (λ (u : Unit). package_names (bare u)) (sym c.in_ok-bare.ensures.of))

pub circular_rows-requires-clause-entries : goal.circular_rows-requires-clause-entries
circular_rows-requires-clause-entries c = c.requires.entries ∙ ap (λ (u : Unit). declared u.trees []) (sym c.in_ok-bare.ensures.of)

pub returns-clause-names : goal.returns-clause-names
returns-clause-names c =
    c.requires.names
    ∙ (sym (names_owned (full_of c.args.seen) c.args.owners.items)
    ∙ (ap (λ (u : Unit). package_names (bare u)) (sym c.in_ok-bare.ensures.of)
    ∙ (sym (names_flagged (full_of c.in_ok-bare.bare) c.in_ok-redeclared.redeclared.items c.in_ok-cyclic.cyclic.items c.in_ok-circular.circular.items) ∙ ap (λ (u : Unit). package_names (bare u)) (sym c.with_flags.ensures.of))))
