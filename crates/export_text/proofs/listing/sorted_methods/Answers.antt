use Rattle.std.proofs.Common.{List, map, sym, ap, ◌∙◌, subst}
use Rattle.std.specs.List.Sorted.{IsPermutation}
use Rattle.std.proofs.lemmas.List.Sorted.{All-permutation, IsPermutation-map}
use Rattle.type_model.specs.declared.term.Method.{Method}
use Rattle.type_model.specs.GoTypes.{SignatureBelow, MethodsBelow}
use Rattle.type_model.specs.Parts.{GoMethod, method_of}
use Rattle.type_model.specs.Tables.{types_in, count}
use Rattle.export_text.proofs.listing.sorted_methods.Goals as goal

pub returns-clause-same : goal.returns-clause-same
returns-clause-same c =
    let t = c.args.table.now in
    let moved = IsPermutation-map (λ (m : Method). method_of (types_in t) m) c.in_ok-methods.methods.items c.sort_methods.new.methods.items c.sort_methods.ensures.same in
    subst (λ (l : List GoMethod). IsPermutation l (map (λ (m : Method). method_of (types_in t) m) c.sort_methods.new.methods.items)) (ap (map (λ (m : Method). method_of (types_in t) m)) c.in_ok-methods.ensures ∙ c.methods.ensures.are) moved

pub returns-clause-below : goal.returns-clause-below
returns-clause-below c =
    All-permutation (λ (m : Method). SignatureBelow (count c.args.table.now) m.of) c.in_ok-methods.methods.items c.sort_methods.new.methods.items c.sort_methods.ensures.same
    (subst (λ (l : List Method). MethodsBelow (count c.args.table.now) l) (sym c.in_ok-methods.ensures) c.methods.ensures.below)
