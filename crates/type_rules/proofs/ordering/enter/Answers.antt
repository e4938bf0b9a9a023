use Rattle.std.proofs.Common.{List, sym, ap, ◌∙◌, subst}
use Rattle.type_rules.specs.Elements.{Entry, entries_in, AreEntries}
use Rattle.type_rules.proofs.OrderLemmas.{inserted_as, entered_more}
use Rattle.type_rules.proofs.ordering.enter.Goals as goal

pub returns-clause-is : goal.returns-clause-is
returns-clause-is c =
    let s = c.args.s.now in
    ap (λ (es : List Entry). entries_in s es) c.in_ok-insert.ensures.entries
    ∙ inserted_as s c.args.names.now.entries (c.as_str.result, c.as_str-2.result) c.args.m _ _ c.as_str.ensures c.as_str-2.ensures

pub returns-clause-entries : goal.returns-clause-entries
returns-clause-entries c =
    let s = c.args.s.now in
    subst (λ (es : List Entry). AreEntries s es) (sym c.in_ok-insert.ensures.entries)
    (entered_more s c.args.names.now.entries (c.as_str.result, c.as_str-2.result) c.args.m c.requires.entries (c.as_str.ensures, c.as_str-2.ensures, c.requires.of))
