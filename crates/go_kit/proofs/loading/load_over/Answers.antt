use Rattle.std.proofs.Common.{◌≡◌, ℕ, List, ap, sym, subst, ◌∙◌}
use Rattle.std.proofs.lemmas.Result.{err_from_is_err_and}
use Rattle.face_table.specs.Fitting.{given}
use Rattle.package_faces.specs.Interfaces.{faces_of}
use Rattle.package_faces.proofs.FaceLaws.{faces_stay, interfaces_grow}
use Rattle.typed_tree.proofs.BasicLaws.{grown_basics}
use Rattle.type_model.specs.Tables.{Extends, terms_in, types_in}
use Rattle.check_pkg.specs.Packages.{package_of}
use Rattle.action_graph.specs.Judging.{AreInterfaces, Env, load_text, refused_text}
use Rattle.go_kit.specs.Loading.{IsAcceptedOf, IsTypedOver}
use Rattle.go_kit.proofs.LoadLemmas.{accepted-both, accepted-so, extends-then, some-so, typed-over, files-spelled, files-small, few-trees, outcome-of, readable, stuck-of, unfit}
use Rattle.go_kit.proofs.NameTexts.{files_texts}
use Rattle.go_kit.proofs.TellLemmas.{err_as}
use Rattle.go_kit.proofs.loading.load_over.Goals as goal

pub judge-requires-clause-spelled : goal.judge-requires-clause-spelled
judge-requires-clause-spelled c = files-spelled c.as_slice-files.result.now c.args.input.now.files c.args.trees.now c.as_slice-files.ensures c.requires.files

pub judge-requires-clause-texts : goal.judge-requires-clause-texts
judge-requires-clause-texts c = files_texts c.as_slice-files.result.now c.args.input.now.files c.args.trees.now c.as_slice-files.ensures c.requires.files

pub judge-requires-clause-small : goal.judge-requires-clause-small
judge-requires-clause-small c = files-small c.args.input.now.files c.args.trees.now c.requires.files

pub judge-requires-clause-few : goal.judge-requires-clause-few
judge-requires-clause-few c = few-trees c.args.input.now.files c.args.trees.now c.requires.files c.requires.few

pub judge-requires-clause-basics : goal.judge-requires-clause-basics
judge-requires-clause-basics c =
    let declares = c.in_ok-fit.ensures.given c.if-not-fit.false in
    grown_basics c.args.table c.declare_faces.new.t c.requires.basics declares.table declares.extends

pub judge-requires-clause-within : goal.judge-requires-clause-within
judge-requires-clause-within c =
    let declares = c.in_ok-fit.ensures.given c.if-not-fit.false in
    interfaces_grow (terms_in c.args.table) (terms_in c.declare_faces.new.t) declares.extends c.args.env.now c.requires.within

pub judge-requires-clause-base : goal.judge-requires-clause-base
judge-requires-clause-base c = λ name.
    let declares = c.in_ok-fit.ensures.given c.if-not-fit.false in
    let stay : faces_of (types_in c.declare_faces.new.t) c.args.env.now ≡ faces_of (types_in c.args.table) c.args.env.now = faces_stay (terms_in c.args.table) (terms_in c.declare_faces.new.t) declares.extends c.args.env.now c.requires.within in
    declares.declared name ∙ ap (λ (q : List ℕ). given q (faces_of (types_in c.args.table) c.args.env.now) name) c.as_bytes.ensures.value
    ∙ ap (λ (faces : Env). given c.as_str-path.result.now faces name) (sym stay)

pub returns-then-not-fit-clause-read : goal.returns-then-not-fit-clause-read
returns-then-not-fit-clause-read c = λ r.
    unfit c.args.input.now (faces_of (types_in c.args.table) c.args.env.now) c.as_bytes.result.now (refused_text c.in_ok-marks.marks) c.requires.read (c.as_bytes.ensures.value ∙ c.as_str-path.ensures)
    (c.in_ok-fit.ensures.unfit c.if-not-fit.true) r

pub returns-clause-read : goal.returns-clause-read
returns-clause-read c = λ r.
    let declares = c.in_ok-fit.ensures.given c.if-not-fit.false in
    let stay = faces_stay (terms_in c.args.table) (terms_in c.declare_faces.new.t) declares.extends c.args.env.now c.requires.within in
    outcome-of c.args.input.now c.as_slice-files.result.now c.args.trees.now (faces_of (types_in c.declare_faces.new.t) c.args.env.now) c.as_str-path.result.now (load_text c.in_ok-loaded.loaded.0)
    c.requires.files (subst (λ (faces : Env). AreInterfaces c.args.input.now.env faces) (sym stay) c.requires.read) c.as_slice-files.ensures c.as_str-path.ensures c.in_ok-loaded.ensures.told

pub returns-in_err-loaded-clause-circle : goal.returns-in_err-loaded-clause-circle
returns-in_err-loaded-clause-circle c =
    let p = err_from_is_err_and c.from_residual-in_err-loaded.result c.from_residual-in_err-loaded.ensures.1 in
    let declares = c.in_ok-fit.ensures.given c.if-not-fit.false in
    let stay = faces_stay (terms_in c.args.table) (terms_in c.declare_faces.new.t) declares.extends c.args.env.now c.requires.within in
    rw (p.1, p.2) (λ e. stuck-of c.args.input.now c.as_slice-files.result.now c.args.trees.now (faces_of (types_in c.declare_faces.new.t) c.args.env.now) c.as_str-path.result.now
    c.requires.files (subst (λ (faces : Env). AreInterfaces c.args.input.now.env faces) (sym stay) c.requires.read) c.as_slice-files.ensures c.as_str-path.ensures (c.in_err-loaded.ensures.circle (err_as _ _ e)))

pub returns-clause-unread : goal.returns-clause-unread
returns-clause-unread c = λ unread.
    absurd (unread (readable c.args.input.now c.args.trees.now (faces_of (types_in c.args.table) c.args.env.now) c.as_bytes.result.now c.requires.few c.requires.files c.requires.read
    (c.as_bytes.ensures.value ∙ c.as_str-path.ensures) (c.in_ok-fit.ensures.are_fit c.if-not-fit.false)))

pub returns-clause-extends : goal.returns-clause-extends
returns-clause-extends c =
    let declares = c.in_ok-fit.ensures.given c.if-not-fit.false in
    some-so c.in_ok-loaded.loaded.1 (λ t. Extends (terms_in c.declare_faces.new.t) (terms_in t)) (λ t. Extends (terms_in c.args.table) (terms_in t))
    (λ t more. extends-then (terms_in c.args.table) (terms_in c.declare_faces.new.t) (terms_in t) declares.extends more) c.in_ok-loaded.ensures.extends

pub returns-clause-grown : goal.returns-clause-grown
returns-clause-grown c =
    let declares = c.in_ok-fit.ensures.given c.if-not-fit.false in
    accepted-so c.in_ok-loaded.loaded.0 (λ t. Extends (terms_in c.declare_faces.new.t) (terms_in t.state.table)) (λ t. Extends (terms_in c.args.table) (terms_in t.state.table))
    (λ t more. extends-then (terms_in c.args.table) (terms_in c.declare_faces.new.t) (terms_in t.state.table) declares.extends more) c.in_ok-loaded.ensures.grown

pub returns-clause-accepted : goal.returns-clause-accepted
returns-clause-accepted c =
    let declares = c.in_ok-fit.ensures.given c.if-not-fit.false in
    let faces = faces_of (types_in c.declare_faces.new.t) c.args.env.now in
    accepted-both c.in_ok-loaded.loaded.0 (IsAcceptedOf (package_of c.as_str-path.result.now c.as_slice-files.result.now c.args.trees.now) faces) (λ t. Extends (terms_in c.declare_faces.new.t) (terms_in t.state.table))
    (IsTypedOver c.args.input.now c.args.trees.now c.args.env.now)
    (λ t accepted more. typed-over c.args.input.now c.as_slice-files.result.now c.args.trees.now c.as_str-path.result.now c.args.table c.declare_faces.new.t c.args.env.now t c.as_slice-files.ensures c.as_str-path.ensures
    declares.extends more c.requires.within c.requires.read accepted)
    c.in_ok-loaded.ensures.accepted c.in_ok-loaded.ensures.grown
