-- Results of function types, by number.
use Rattle.std.proofs.Common.{◌≡◌, ◌<◌, ◌≤◌, ℕ, zero, suc, List, [], ◌∷◌, map, slice_get, Option, Some, None, IfSome, option_map, refl, sym, ap, ◌∙◌, subst, arith}
use Rattle.std.proofs.lemmas.List.Elements.{All-head, All-tail}
use Rattle.type_model.specs.declared.term.Signature.{Signature}
use Rattle.type_model.specs.declared.term.Term.{Term}
use Rattle.type_model.specs.declared.term.Term.TheVariants.{Func}
use Rattle.type_model.specs.declared.term.TypeId.{TypeId}
use Rattle.type_model.specs.GoTypes.{GoType, FuncOf, types_at, signature_of, type_of, type_at, AreBelow}
use Rattle.type_model.specs.Parts.{type_list}
use Rattle.type_model.specs.Tables.{types_in, count}
use Rattle.typed_marks.specs.declared.state.State.{State}
use Rattle.rule_words.specs.Scenes.{type_in, IsTypeOf, MayBeTypeOf}
use Rattle.variable_rules.specs.InCode.{types_of}
use Rattle.variable_rules.specs.Several.{results_of}

types_listed : (s : State) (ids : List TypeId) → types_of s ids ≡ type_list (types_at (types_in s.table) ids)
types_listed s [] = refl
types_listed s (id ∷ ids) = ap (λ l. type_in s id ∷ l) (types_listed s ids)

pub results_shown : (s : State) (of : GoType) (term : Term) (signature : Signature) (list : List TypeId) → of ≡ type_of (types_in s.table) term → term ≡ Func signature → list ≡ signature.results
    → types_of s list ≡ results_of of
results_shown s of term signature list is term_is same =
    ap (types_of s) same ∙ (types_listed s signature.results ∙ sym (ap results_of (is ∙ ap (type_of (types_in s.table)) term_is)))

pub nth_type : (s : State) (ids : List TypeId) (i : ℕ) → option_map (type_in s) (slice_get ids i) ≡ slice_get (types_of s ids) i
nth_type s [] i = refl
nth_type s (id ∷ ids) zero = refl
nth_type s (id ∷ ids) (suc i) = nth_type s ids i

pub nth_below : (s : State) (ids : List TypeId) (i : ℕ) → AreBelow (count s.table) ids → MayBeTypeOf s (slice_get ids i)
nth_below s [] i below = tt
nth_below s (id ∷ ids) zero below = All-head (λ (x : TypeId). x.0 < count s.table) id ids below
nth_below s (id ∷ ids) (suc i) below = nth_below s ids i (All-tail (λ (x : TypeId). x.0 < count s.table) id ids below)
