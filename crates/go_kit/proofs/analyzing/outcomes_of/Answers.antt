use Rattle.std.proofs.Common.{ℕ, List, length, map, sym, ap, ◌∙◌, subst}
use Rattle.package_faces.specs.declared.interface.Interface.{Interface}
use Rattle.package_faces.specs.Interfaces.{AreInterfacesIn}
use Rattle.type_model.specs.declared.term.Term.{Term}
use Rattle.type_model.specs.GoTypes.{types_of}
use Rattle.type_model.specs.Tables.{count, terms_in, types_in}
use Rattle.unit_read.specs.Index.{texts_of}
use Rattle.check_pkg.specs.ImportLists.{named_in}
use Rattle.check_pkg.specs.Packages.{known_of}
use Rattle.check_pkg.proofs.NameLemmas.{named_are}
use Rattle.check_pkg.proofs.PackageLemmas.{faces_are}
use Rattle.action_graph.specs.Judging.{text_of}
use Rattle.go_kit.proofs.analyzing.outcomes_of.Goals as goal

pub new-requires : goal.new-requires
new-requires c =
    let table = c.args.loaded.now.typed.state.table in
    subst (λ (terms : List Term). AreInterfacesIn (length terms) (types_of terms) c.deref.result.now) (sym c.terms-types.ensures)
    (subst (λ (list : List Interface). AreInterfacesIn (count table) (types_in table) list) (sym c.deref.ensures.value) c.requires.of.typed.within)

pub outcomes_over-requires-clause-texts : goal.outcomes_over-requires-clause-texts
outcomes_over-requires-clause-texts c = ap texts_of c.deref-3.ensures.value ∙ (c.in_ok-texts.ensures ∙ ap (map text_of) c.as_slice.ensures)

pub outcomes_over-requires-clause-types : goal.outcomes_over-requires-clause-types
outcomes_over-requires-clause-types c = c.in_ok-env.ensures.types ∙ c.terms-types.ensures

pub outcomes_over-requires-clause-faces : goal.outcomes_over-requires-clause-faces
outcomes_over-requires-clause-faces c =
    faces_are c.in_ok-env.env c.args.loaded.now.env.items (terms_in c.args.loaded.now.typed.state.table) (c.in_ok-env.ensures.of ∙ c.deref.ensures.value) (c.in_ok-env.ensures.types ∙ c.terms-types.ensures)

pub outcomes_over-requires-clause-named : goal.outcomes_over-requires-clause-named
outcomes_over-requires-clause-named c =
    let table = c.args.loaded.now.typed.state.table in
    c.deref-4.ensures.value ∙ (c.in_ok-named.ensures ∙ (ap named_in c.deref-2.ensures.value ∙ named_are (types_in table) c.args.loaded.now.env.items))
