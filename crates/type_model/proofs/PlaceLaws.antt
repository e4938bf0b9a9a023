-- Where a table spells its terms says nothing of it.
use Rattle.std.proofs.Common.{◌≡◌, ℕ, refl}
use Rattle.std.specs.Global.{Vec}
use Rattle.std.specs.Prelude.{Result, Ok, Err, OnErr}
use Rattle.type_model.specs.declared.table.Added.{Added}
use Rattle.type_model.specs.declared.table.Added.TheVariants.{Id, TooWide}
use Rattle.type_model.specs.declared.table.TypeTable.{TypeTable}
use Rattle.type_model.specs.declared.term.Term.{Term}
use Rattle.type_model.specs.Tables.{IsTable, Grown, IsAdded, IsAppended, IsSame, with_spelling}
use Rattle.type_model.proofs.TypeLaws.{extends-itself}

pub table_spelled : (t : TypeTable) (s : Vec ℕ) → IsTable t → IsTable (with_spelling t s)
table_spelled t s table = record {
  terms = table.terms;
  index = table.index;
  widths = table.widths;
  size = table.size;
  only = table.only;
  ordered = table.ordered;
  inside = table.inside;
  plain = table.plain;
  ends = table.ends;
  classes = table.classes;
  woven = table.woven;
}

pub same_with : (t : TypeTable) (s : Vec ℕ) → IsSame t (with_spelling t s)
same_with t s = record { terms = refl; widths = refl; declared = refl }

pub same_spelled : (t new : TypeTable) (s : Vec ℕ) → IsSame (with_spelling t s) new → IsSame t new
same_spelled t new s same = record { terms = same.terms; widths = same.widths; declared = same.declared }

pub grown_with : (t : TypeTable) (s : Vec ℕ) → IsTable t → Grown t (with_spelling t s)
grown_with t s table = record {
  table = table_spelled t s table;
  extends = extends-itself t.terms.items;
  declared = λ i. refl;
  declarations = λ name. refl;
}

pub grown_spelled : (t new : TypeTable) (s : Vec ℕ) → Grown (with_spelling t s) new → Grown t new
grown_spelled t new s grown = record {
  table = grown.table;
  extends = grown.extends;
  declared = grown.declared;
  declarations = grown.declarations;
}

pub added_spelled : (t new : TypeTable) (s : Vec ℕ) (term : Term) (a : Added) → IsAdded (with_spelling t s) new term a → IsAdded t new term a
added_spelled t new s term (Id id) is = is
added_spelled t new s term TooWide is = (is.0, same_spelled t new s is.1)

pub appended_spelled : (t new : TypeTable) (s : Vec ℕ) (term : Term) (a : Added) → IsAppended (with_spelling t s) new term a → IsAppended t new term a
appended_spelled t new s term (Id id) is = is
appended_spelled t new s term TooWide is = is

-- what holds anyhow holds of an error
pub on_any_err : {A E : Type 0} {P : Type 0} (r : Result A E) → P → OnErr r P
on_any_err (Ok a) p = tt
on_any_err (Err e) p = p
