use Rattle.std.proofs.Common.{rules, ◌≡◌, List, [], length, Some, ap, sym, subst}
use Rattle.std.proofs.lemmas.List.{nil_from_length}
use Rattle.std.proofs.lemmas.Result.{err_from_is_err_and}
use Rattle.type_model.specs.Tables.{types_in, count}
use Rattle.type_texts.specs.Building.{built, built_over}
use Rattle.type_texts.specs.Values.{parts_in, Stand}
use Rattle.type_texts.specs.declared.values.Value.{Value}
use Rattle.type_texts.proofs.ValueLaws.{stand_nil}
use Rattle.type_texts.proofs.BuildLaws.{built_step, built_fails, built_all}
use Rattle.type_texts.proofs.GrowLaws.{grown_itself, grown_then}
use Rattle.type_texts.proofs.type_reading.build.Goals as goal

pub loop-piece-init : goal.loop-piece-init
loop-piece-init c =
    let none : c.in_ok-values.values.items ≡ [] = c.in_ok-values.ensures.items in
    record {
      grown = grown_itself c.args.table.now c.requires.table;
      table = c.requires.table;
      is = ap (λ (values : List Value). built_over c.args.row.items (Some (parts_in (types_in c.args.table.now) values))) none;
      stand = subst (λ (values : List Value). Stand (count c.args.table.now) values) (sym none) (stand_nil (count c.args.table.now));
    }

pub loop-piece-preserved : goal.loop-piece-preserved
loop-piece-preserved c = record {
  grown = grown_then c.args.table.now c.loop-piece.table c.place.new.table c.loop-piece.invariant.grown c.place.ensures.grown;
  table = c.place.ensures.table;
  is = built_step c.loop-piece.row.items c.pop.new.self.items c.in-Some.piece (parts_in (types_in c.loop-piece.table) c.loop-piece.values.items) (parts_in (types_in c.place.new.table) c.place.new.values.items) (built c.args.row.items) c.in-Some.ensures.items c.in_ok-place.ensures.is c.loop-piece.invariant.is;
  stand = c.in_ok-place.ensures.stand;
}

pub returns-clause-is : goal.returns-clause-is
returns-clause-is c =
    let none : length c.loop-piece.row.items ≡ 0 = search rules in
    built_all c.loop-piece.row.items (parts_in (types_in c.loop-piece.table) c.loop-piece.values.items) (built c.args.row.items) (nil_from_length c.loop-piece.row.items none) c.loop-piece.invariant.is

pub returns-in_err-place-clause-is : goal.returns-in_err-place-clause-is
returns-in_err-place-clause-is c =
    let p = err_from_is_err_and c.from_residual-in_err-place.result c.from_residual-in_err-place.ensures.1 in
    rw (p.1, p.2) (built_fails c.in_err-place.field-0.0 c.loop-piece.row.items c.pop.new.self.items c.in-Some.piece (parts_in (types_in c.loop-piece.table) c.loop-piece.values.items) (built c.args.row.items) c.in-Some.ensures.items c.in_err-place.ensures.is c.loop-piece.invariant.is)

pub returns-in_err-place-clause-grown : goal.returns-in_err-place-clause-grown
returns-in_err-place-clause-grown c = grown_then c.args.table.now c.loop-piece.table c.place.new.table c.loop-piece.invariant.grown c.place.ensures.grown
