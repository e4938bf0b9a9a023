use Rattle.std.proofs.Common.{List, refl, subst, ap, ◌∙◌}
use Rattle.type_model.specs.declared.term.Term.{Term}
use Rattle.type_model.specs.declared.table.TypeTable.{TypeTable}
use Rattle.type_model.specs.Comparing.{IsWeave}
use Rattle.type_model.specs.Forgetting.{nothings}
use Rattle.type_model.proofs.ForgetLaws.{forgotten, none_declared_in}
use Rattle.type_model.proofs.table.TypeTable.forget.Goals as goal

pub returns-clause-table : goal.returns-clause-table
returns-clause-table c =
    forgotten c.args.self (record { alloc = c.args.self.alloc; terms = c.args.self.terms; widths = c.args.self.widths; declared = c.in_ok-declared.declared; numbers = c.args.self.numbers; classes = c.args.self.classes; net = c.in_ok-net.net; spelling = c.args.self.spelling })
    c.requires refl refl refl refl (c.in_ok-declared.ensures ∙ ap nothings c.deref.ensures.value)
    (subst (λ (l : List Term). IsWeave l (nothings l) c.in_ok-net.net) c.deref-2.ensures.value c.in_ok-net.ensures)

pub returns-clause-undeclared : goal.returns-clause-undeclared
returns-clause-undeclared c =
    none_declared_in (record { alloc = c.args.self.alloc; terms = c.args.self.terms; widths = c.args.self.widths; declared = c.in_ok-declared.declared; numbers = c.args.self.numbers; classes = c.args.self.classes; net = c.in_ok-net.net; spelling = c.args.self.spelling })
    c.args.self.terms.items (c.in_ok-declared.ensures ∙ ap nothings c.deref.ensures.value)
