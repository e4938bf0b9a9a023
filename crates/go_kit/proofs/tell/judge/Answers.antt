use Rattle.std.proofs.Common.{ℕ, List, Option, IfSome, map, sym, subst}
use Rattle.std.proofs.lemmas.Result.{err_from_is_err_and}
use Rattle.action_graph.specs.Stages.{rule}
use Rattle.package_faces.specs.Interfaces.{faces_of}
use Rattle.type_model.specs.declared.table.TypeTable.{TypeTable}
use Rattle.type_model.specs.Tables.{Extends, terms_in, types_in}
use Rattle.typed_tree.specs.Basics.{HasBasics}
use Rattle.unit_read.specs.Index.{found}
use Rattle.unit_read.proofs.TextLemmas.{are_texts}
use Rattle.check_pkg.specs.declared.judging.Outcome.TheVariants as outcome
use Rattle.check_pkg.specs.declared.typing.Typed.{Typed}
use Rattle.check_pkg.specs.Checks.{IsOutcomeOf as Comes}
use Rattle.check_pkg.specs.Packages.{package_of, text_of}
use Rattle.action_graph.specs.declared.kit.Load.{Load}
use Rattle.action_graph.specs.Judging.{IfAccepted, load_text}
use Rattle.go_kit.specs.Loading.{IsAcceptedOf}
use Rattle.go_kit.specs.Reading.{TellsOf}
use Rattle.go_kit.proofs.SeenLemmas.{found-told, nothing-told, stands}
use Rattle.go_kit.proofs.TellLemmas.{always, err_as, kept-accepted, kept-table, kept-text, taken}
use Rattle.go_kit.proofs.tell.judge.Goals as goal

pub check-requires-clause-texts : goal.check-requires-clause-texts
check-requires-clause-texts c = are_texts c.as_bytes.result.now (map text_of c.args.files.now) c.args.trees.now c.as_bytes.ensures.utf8 c.requires.texts

pub told-requires-clause-stands : goal.told-requires-clause-stands
told-requires-clause-stands c =
    stands (package_of c.args.path.now c.args.files.now c.args.trees.now) (faces_of (types_in c.args.table) c.args.env.now) c.in-Checked.checked
    (subst (λ (q : List ℕ). Comes rule (package_of q c.args.files.now c.args.trees.now) (faces_of (types_in c.args.table) c.args.env.now) (outcome.Checked c.in-Checked.checked)) c.as_bytes.ensures.value (rw c.in-Checked.is at c.in_ok-outcome.ensures.is))

pub returns-in-Checked-clause-told : goal.returns-in-Checked-clause-told
returns-in-Checked-clause-told c =
    let p = package_of c.args.path.now c.args.files.now c.args.trees.now in
    let env = faces_of (types_in c.args.table) c.args.env.now in
    subst (λ (r : Load Typed × Option TypeTable). TellsOf p env (load_text r.0)) (sym c.with_kept.ensures)
    (subst (λ (text : List ℕ). TellsOf p env text) (sym (kept-text c.in_ok-load-in-Checked.load c.in_ok-load-in-Checked.typed))
    (found-told p env c.in-Checked.checked (λ q. found c.in_ok-places.places q) (load_text c.in_ok-load-in-Checked.load)
    (subst (λ (q : List ℕ). Comes rule (package_of q c.args.files.now c.args.trees.now) env (outcome.Checked c.in-Checked.checked)) c.as_bytes.ensures.value (rw c.in-Checked.is at c.in_ok-outcome.ensures.is))
    (c.in_ok-places.ensures (types_in c.args.table)) c.in_ok-load-in-Checked.ensures.accepted c.in_ok-load-in-Checked.ensures.refused))

pub returns-in_err-load-in-Checked-clause-circle : goal.returns-in_err-load-in-Checked-clause-circle
returns-in_err-load-in-Checked-clause-circle c =
    let p = err_from_is_err_and c.from_residual-in_err-load-in-Checked.result c.from_residual-in_err-load-in-Checked.ensures.1 in
    rw (p.1, p.2) (λ e.
    nothing-told (package_of c.args.path.now c.args.files.now c.args.trees.now) (faces_of (types_in c.args.table) c.args.env.now) c.in-Checked.checked
    (subst (λ (q : List ℕ). Comes rule (package_of q c.args.files.now c.args.trees.now) (faces_of (types_in c.args.table) c.args.env.now) (outcome.Checked c.in-Checked.checked)) c.as_bytes.ensures.value (rw c.in-Checked.is at c.in_ok-outcome.ensures.is))
    (c.in_err-load-in-Checked.ensures.none (err_as _ _ e)) (λ q. found c.in_ok-places.places q) (c.in_ok-places.ensures (types_in c.args.table)) (c.in_err-load-in-Checked.ensures.untold (err_as _ _ e)))

pub returns-in-Checked-clause-accepted : goal.returns-in-Checked-clause-accepted
returns-in-Checked-clause-accepted c =
    let p = package_of c.args.path.now c.args.files.now c.args.trees.now in
    let env = faces_of (types_in c.args.table) c.args.env.now in
    let load = c.in_ok-load-in-Checked.load in
    let typed = c.in_ok-load-in-Checked.typed in
    subst (λ (r : Load Typed × Option TypeTable). IfAccepted r.0 (IsAcceptedOf p env)) (sym c.with_kept.ensures)
    (kept-accepted load typed (IsAcceptedOf p env) (taken c.in-Checked.checked load (IsAcceptedOf p env typed) c.in_ok-load-in-Checked.ensures.refused (λ none. record {
      checked = c.in-Checked.checked;
      comes = subst (λ (q : List ℕ). Comes rule (package_of q c.args.files.now c.args.trees.now) env (outcome.Checked c.in-Checked.checked)) c.as_bytes.ensures.value (rw c.in-Checked.is at c.in_ok-outcome.ensures.is);
      none = none;
      typed = sym c.in_ok-load-in-Checked.ensures.typed;
    })))

pub returns-in-Checked-clause-grown : goal.returns-in-Checked-clause-grown
returns-in-Checked-clause-grown c =
    let load = c.in_ok-load-in-Checked.load in
    let typed = c.in_ok-load-in-Checked.typed in
    subst (λ (r : Load Typed × Option TypeTable). IfAccepted r.0 (λ (t : Typed). Extends (terms_in c.args.table) (terms_in t.state.table))) (sym c.with_kept.ensures)
    (kept-accepted load typed (λ (t : Typed). Extends (terms_in c.args.table) (terms_in t.state.table)) (always load (Extends (terms_in c.args.table) (terms_in typed.state.table))
    (subst (λ (t : Typed). Extends (terms_in c.args.table) (terms_in t.state.table)) (sym c.in_ok-load-in-Checked.ensures.typed) ((rw c.in-Checked.is at c.in_ok-outcome.ensures.types).1))))

pub returns-in-Checked-clause-basics : goal.returns-in-Checked-clause-basics
returns-in-Checked-clause-basics c =
    let load = c.in_ok-load-in-Checked.load in
    let typed = c.in_ok-load-in-Checked.typed in
    subst (λ (r : Load Typed × Option TypeTable). IfSome r.1 HasBasics) (sym c.with_kept.ensures)
    (kept-table load typed HasBasics (subst (λ (t : Typed). HasBasics t.state.table) (sym c.in_ok-load-in-Checked.ensures.typed) ((rw c.in-Checked.is at c.in_ok-outcome.ensures.types).0)))

pub returns-in-Checked-clause-extends : goal.returns-in-Checked-clause-extends
returns-in-Checked-clause-extends c =
    let load = c.in_ok-load-in-Checked.load in
    let typed = c.in_ok-load-in-Checked.typed in
    subst (λ (r : Load Typed × Option TypeTable). IfSome r.1 (λ (t : TypeTable). Extends (terms_in c.args.table) (terms_in t))) (sym c.with_kept.ensures)
    (kept-table load typed (λ (t : TypeTable). Extends (terms_in c.args.table) (terms_in t))
    (subst (λ (t : Typed). Extends (terms_in c.args.table) (terms_in t.state.table)) (sym c.in_ok-load-in-Checked.ensures.typed) ((rw c.in-Checked.is at c.in_ok-outcome.ensures.types).1)))
