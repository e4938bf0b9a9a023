use Rattle.std.proofs.Common.{List, [], sym, ap, ◌∙◌, subst}
use Rattle.go_tree.specs.declared.tree.FileTree.{FileTree}
use Rattle.package_objects.specs.Declares.{AreSmall, declared}
use Rattle.std.specs.Global.{Vec}
use Rattle.scopes.specs.declared.scope.Named.{Named}
use Rattle.unit_blocks.specs.Blocks.{AreNames}
use Rattle.unit_read.specs.declared.environment.Environment.{Environment}
use Rattle.unit_read.specs.Environments.{faces_in}
use Rattle.unit_read.specs.Index.{texts_of}
use Rattle.unit_read.specs.Subjects.{full_of, unit_of}
use Rattle.unit_read.specs.Units.{Unit}
use Rattle.unit_rows.specs.Redeclared.{all_in_block}
use Rattle.check_pkg.proofs.PackageLemmas.{given_base}
use Rattle.check_pkg.proofs.ReadLemmas.{seen_of, seen_needs}
use Rattle.check_pkg.proofs.ElsewhereLemmas.{flags_are}
use Rattle.check_pkg.proofs.read.read.Goals as goal

pub struct_rows-requires-clause-table : goal.struct_rows-requires-clause-table
struct_rows-requires-clause-table c = c.requires.basics.table

pub struct_rows-requires-clause-types : goal.struct_rows-requires-clause-types
struct_rows-requires-clause-types c = ap (λ (e : Environment). e.types.now) c.in_ok-seen.ensures.env ∙ c.requires.types

pub struct_rows-requires-clause-base : goal.struct_rows-requires-clause-base
struct_rows-requires-clause-base c = λ name.
    c.requires.base name
    ∙ given_base (full_of c.in_ok-seen.seen) c.args.path.now (faces_in c.args.env.now) (ap (λ (u : Unit). u.path) c.in_ok-seen.ensures.of) (ap (λ (u : Unit). u.env) c.in_ok-seen.ensures.of) name

pub struct_rows-requires-clause-small : goal.struct_rows-requires-clause-small
struct_rows-requires-clause-small c = subst (λ (trees : List FileTree). AreSmall trees) (sym (ap (λ (u : Unit). u.trees) c.in_ok-seen.ensures.of)) c.requires.small

pub subject_of-requires-clause-regions : goal.subject_of-requires-clause-regions
subject_of-requires-clause-regions c =
    subst (λ (rows : List (Vec Named)). AreNames c.in_ok-seen.seen.trees.now rows) (sym c.deref-4.ensures.value)
    (subst (λ (trees : List FileTree). AreNames trees c.args.regions.items) (sym (ap (λ (u : Unit). u.trees) c.in_ok-seen.ensures.of)) c.requires.regions)

-- the subject is read with what its declarations need: the rows flag what names struct types of other packages
pub subject_of-requires-clause-needs : goal.subject_of-requires-clause-needs
subject_of-requires-clause-needs c =
    seen_needs (full_of c.in_ok-seen.seen) c.args.trees.now c.args.uses.now _ _ c.deref-2.result.now _ (ap (λ (u : Unit). u.trees) c.in_ok-seen.ensures.of) (ap (λ (u : Unit). u.uses) c.in_ok-seen.ensures.of)
    (flags_are (full_of c.in_ok-seen.seen) c.in_ok-elsewhere.elsewhere.items c.in_ok-elsewhere.ensures) c.deref-2.ensures.value c.in_ok-needs.ensures

pub returns-clause-of : goal.returns-clause-of
returns-clause-of c = seen_of (full_of c.in_ok-seen.seen) (full_of c.in_ok-subject.subject) c.args.path.now (texts_of c.args.texts.now) c.args.trees.now c.args.uses.now (faces_in c.args.env.now) c.in_ok-seen.ensures.of c.in_ok-subject.ensures.of

pub returns-clause-env : goal.returns-clause-env
returns-clause-env c = c.in_ok-subject.ensures.env ∙ c.in_ok-seen.ensures.env

pub subject_of-requires-clause-entries : goal.subject_of-requires-clause-entries
subject_of-requires-clause-entries c = c.in_ok-entries.ensures ∙ ap (λ (trees : List FileTree). declared trees []) (sym (ap (λ (u : Unit). u.trees) c.in_ok-seen.ensures.of))

pub subject_of-requires-clause-names : goal.subject_of-requires-clause-names
subject_of-requires-clause-names c =
    c.deref-3.ensures.value
    ∙ (c.in_ok-names.ensures
    ∙ ap (all_in_block (unit_of c.in_ok-seen.seen))
    (c.deref.ensures.value ∙ (c.in_ok-entries.ensures ∙ ap (λ (trees : List FileTree). declared trees []) (sym (ap (λ (u : Unit). u.trees) c.in_ok-seen.ensures.of)))))

pub returns-clause-names : goal.returns-clause-names
returns-clause-names c = sym c.deref-3.ensures.value ∙ c.in_ok-subject.ensures.names
