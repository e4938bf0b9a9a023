-- Parts that were read, and lists of types.
use Rattle.std.proofs.Common.{◌≡◌, ℕ, ◌+◌, ◌<◌, zero, suc, Bool, ◌&&◌, List, [], ◌∷◌, map, slice_get, Some, refl, sym, ap, ◌∙◌, subst, arith}
use Rattle.type_model.specs.declared.term.TypeId.{TypeId}
use Rattle.type_model.specs.declared.term.Signature.{Signature}
use Rattle.type_model.specs.declared.term.Term.{Term}
use Rattle.type_model.specs.declared.term.Term.TheVariants.{Func}
use Rattle.type_model.specs.GoTypes.{GoType, GoTypes, AndType, type_at, types_at, type_of, IsOver, AreBelow, SignatureBelow}
use Rattle.type_model.specs.Tables.{types_in, count}
use Rattle.typed_marks.specs.declared.state.State.{State}
use Rattle.rule_words.specs.Parts.{Part, part_at}
use Rattle.type_rules.specs.declared.taken.Taken.{Taken}
use Rattle.type_rules.specs.Signatures.{is_good, are_good, types_from, Params, params_told}
use Rattle.type_rules.specs.Taken.{taken_in, IsTakenOf}
use Rattle.type_rules.proofs.ListLemmas.{below_weaker}

pub good_on : (ps : List Part) (i : ℕ) (good x next : Bool) → good ≡ are_good ps i → x ≡ is_good (part_at ps i) → next ≡ (good && x) → next ≡ are_good ps (i + 1)
good_on ps i good x next before here is =
    is ∙ ap (λ g. g && x) before ∙ ap (λ b. are_good ps i && b) here ∙ (let e : suc i ≡ i + 1 = omega arith in ap (are_good ps) e)

pub types_from_all : (types : List GoType) (ids : List TypeId) → types_at types ids ≡ types_from (map (type_at types) ids)
types_from_all types [] = refl
types_from_all types (id ∷ ids) = ap (AndType (type_at types id)) (types_from_all types ids)

-- ---- parameters that are taken from the mark of a list

abbrev made : GoTypes → Bool → Params
made types variadic = record { types = types; variadic = variadic }

pub taken_shown : (s : State) (of : GoType) (term : Term) (signature : Signature) (t : Taken) → of ≡ type_of (types_in s.table) term → term ≡ Func signature
    → t.types.items ≡ signature.params → t.variadic ≡ signature.variadic → Some (taken_in s t) ≡ params_told of
taken_shown s of term signature t is term_is types variadic =
    ap (λ (l : List TypeId). Some (made (types_at (types_in s.table) l) t.variadic)) types
    ∙ (ap (λ (b : Bool). Some (made (types_at (types_in s.table) signature.params) b)) variadic
    ∙ sym (ap (λ (x : GoType). params_told x) (is ∙ ap (λ (x : Term). type_of (types_in s.table) x) term_is)))

pub taken_over : (s : State) (u : ℕ) (term : Term) (signature : Signature) (t : Taken) → IsOver u term → u < count s.table → term ≡ Func signature
    → t.types.items ≡ signature.params → IsTakenOf s t
taken_over s u term signature t over low is types =
    let there : SignatureBelow u signature = subst (λ (x : Term). IsOver u x) is over in
    subst (λ (l : List TypeId). AreBelow (count s.table) l) (sym types) (below_weaker u (count s.table) signature.params (omega arith) there.0)
