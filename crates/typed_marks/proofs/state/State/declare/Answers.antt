use Rattle.std.proofs.Common.{◌≡◌, Some, refl, ap, ◌∙◌}
use Rattle.type_model.specs.Tables.{types_in, declaration_of as declaration_over, declarations_in}
use Rattle.type_model.specs.GoTypes.{type_at, DefinedType}
use Rattle.typed_marks.specs.Meanings.{mark_in, declaration_of, declared}
use Rattle.typed_marks.specs.States.{so_far, said_over}
use Rattle.typed_marks.proofs.TableLemmas.{HasMore, declares_more, mark_still, stays, none_stays, stays_adds}
use Rattle.typed_marks.proofs.state.State.declare.Goals as goal

pub keep-requires-clause-state : goal.keep-requires-clause-state
keep-requires-clause-state c =
    let old = c.args.self.now in
    let t = c.declare.new.self in
    let is = c.in_ok-declare.ensures.declared in
    let more = declares_more old.table t old.constants.items c.args.name c.args.under c.args.methods.items is c.requires.fresh in
    record {
      table = is.table;
      blocks = c.requires.state.blocks;
      over = λ n mark e. mark_still old.table t old.constants.items old.constants.items more mark (c.requires.state.over n mark e);
    }

pub keep-requires-clause-unmarked : goal.keep-requires-clause-unmarked
unfolding so_far
keep-requires-clause-unmarked c =
    let old = c.args.self.now in
    let t = c.declare.new.self in
    let more = declares_more old.table t old.constants.items c.args.name c.args.under c.args.methods.items c.in_ok-declare.ensures.declared c.requires.fresh in
    none_stays (said_over old.table old.constants.items old.blocks.items old.cells.items) (said_over t old.constants.items old.blocks.items old.cells.items) c.args.item
    (stays old.table t old.constants.items old.constants.items more old.blocks.items old.cells.items c.requires.state.over) c.requires.unmarked

pub returns-clause-adds : goal.returns-clause-adds
unfolding so_far
returns-clause-adds c =
    let old = c.args.self.now in
    let t = c.declare.new.self in
    let is = c.in_ok-declare.ensures.declared in
    let more = declares_more old.table t old.constants.items c.args.name c.args.under c.args.methods.items is c.requires.fresh in
    let named : type_at (types_in t) c.args.of ≡ DefinedType c.args.name = (is.extends c.args.of.0 c.requires.within).1 ∙ c.requires.named in
    let says : declaration_of (declarations_in t) (type_at (types_in t) c.args.of) ≡ Some (declaration_over (types_in old.table) (record { under = c.args.under; methods = c.args.methods.items })) =
    ap (declaration_of (declarations_in t)) named ∙ is.here in
    stays_adds (said_over old.table old.constants.items old.blocks.items old.cells.items) (said_over t old.constants.items old.blocks.items old.cells.items) (so_far c.keep.new.self) c.args.item _ _
    (stays old.table t old.constants.items old.constants.items more old.blocks.items old.cells.items c.requires.state.over) c.in_ok-keep.ensures.adds (ap declared says)
