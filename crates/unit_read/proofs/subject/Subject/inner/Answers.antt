use Rattle.std.proofs.Common.{◌≡◌, ℕ, ◌-◌, sym, ap, ◌∙◌, Some, None, slice_get, true, false}
use Rattle.go_tree.specs.declared.tree.NodeRef.{NodeRef}
use Rattle.type_model.specs.Tables.{is_same_name}
use Rattle.unit_read.specs.Units.{defined, type_name}
use Rattle.unit_read.specs.Subjects.{unit_of}
use Rattle.unit_read.proofs.TypeLemmas.{named_is, named_not, inner_only}
use Rattle.unit_read.proofs.subject.Subject.inner.Goals as goal

pub is_called-requires-clause-defined : goal.is_called-requires-clause-defined
is_called-requires-clause-defined c =
    sym (ap (λ l. slice_get l (c.args.name.now.local - 1)) c.requires.read.types) ∙ sym c.nth.ensures ∙ c.in-Some.is

pub returns-then-is_called : goal.returns-then-is_called
returns-then-is_called c =
    let u = unit_of c.args.self.now in
    let name = c.args.name.now in
    let at : slice_get (defined u) (name.local - 1) ≡ Some c.in-Some.at = sym (ap (λ l. slice_get l (name.local - 1)) c.requires.read.types) ∙ sym c.nth.ensures ∙ c.in-Some.is in
    let same : is_same_name (type_name u c.in-Some.at) name ≡ true = sym c.is_called.ensures ∙ c.if-is_called.true in
    sym (named_is u name c.in-Some.at (defined u) (name.local - 1) (λ j x has is. let here : slice_get (defined u) (name.local - 1) ≡ Some x = inner_only u name j x c.requires.inner has is in cc) at same)

pub returns-else-is_called : goal.returns-else-is_called
returns-else-is_called c =
    let u = unit_of c.args.self.now in
    let name = c.args.name.now in
    let at : slice_get (defined u) (name.local - 1) ≡ Some c.in-Some.at = sym (ap (λ l. slice_get l (name.local - 1)) c.requires.read.types) ∙ sym c.nth.ensures ∙ c.in-Some.is in
    let other : is_same_name (type_name u c.in-Some.at) name ≡ false = sym c.is_called.ensures ∙ c.if-is_called.false in
    sym (named_not u name (defined u) (λ j x has is.
    let here : slice_get (defined u) (name.local - 1) ≡ Some x = inner_only u name j x c.requires.inner has is in
    let one : x ≡ c.in-Some.at = cc in
    let same : is_same_name (type_name u c.in-Some.at) name ≡ true = ap (λ (y : NodeRef). is_same_name (type_name u y) name) (sym one) ∙ is in
    absurd cc))

pub returns-in-None : goal.returns-in-None
returns-in-None c =
    let u = unit_of c.args.self.now in
    let name = c.args.name.now in
    let at : slice_get (defined u) (name.local - 1) ≡ None = sym (ap (λ l. slice_get l (name.local - 1)) c.requires.read.types) ∙ sym c.nth.ensures ∙ c.in-None.is in
    sym (named_not u name (defined u) (λ j x has is.
    let here : slice_get (defined u) (name.local - 1) ≡ Some x = inner_only u name j x c.requires.inner has is in
    absurd cc))
