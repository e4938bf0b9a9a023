-- Methods in code, and the types that they stand for.
use Rattle.std.proofs.Common.{◌≡◌, ℕ, ◌<◌, ◌≤◌, List, [], ◌∷◌, ◌++◌, map, option_map, Option, Some, None, refl, sym, ap, ◌∙◌, subst, arith}
use Rattle.std.specs.List.{All}
use Rattle.std.proofs.lemmas.List.Elements.{All-nil, All-cons, All-tail}
use Rattle.type_model.specs.declared.term.Method.{Method}
use Rattle.type_model.specs.declared.term.Signature.{Signature}
use Rattle.type_model.specs.declared.term.Term.{Term}
use Rattle.type_model.specs.declared.term.Term.TheVariants.{Func, Interface}
use Rattle.type_model.specs.GoTypes.{GoType, GoMethods, GoSignature, AndMethod, FuncOf, InterfaceOf, type_of, signature_of, methods_of, IsOver, SignatureBelow}
use Rattle.type_model.specs.Parts.{GoMethod, method_list}
use Rattle.type_model.specs.Tables.{types_in}
use Rattle.method_sets.proofs.Shows.{methods_listed, interface_shown}
use Rattle.typed_marks.specs.declared.state.State.{State}
use Rattle.rule_words.specs.Putting.{methods_from}
use Rattle.type_rules.specs.Interfaces.{methods_told, signature_told}
use Rattle.type_rules.specs.Elements.{method_in}
use Rattle.type_rules.proofs.ListLemmas.{below_weaker}

pub methods_from_all : (s : State) (methods : List Method) → methods_of (types_in s.table) methods ≡ methods_from (map (method_in s) methods)
methods_from_all s [] = refl
methods_from_all s (m ∷ methods) = ap (AndMethod m.name m.package m.pointer (signature_of (types_in s.table) m.of)) (methods_from_all s methods)

pub methods_shown : (s : State) (of : GoType) (term : Term) (methods list : List Method) → of ≡ type_of (types_in s.table) term → term ≡ Interface methods → list ≡ methods
    → map (method_in s) list ≡ methods_told of
methods_shown s of term methods list is term_is same =
    methods_listed (types_in s.table) list ∙ ap (λ (x : GoType). methods_told x) (sym (interface_shown (types_in s.table) of term methods list is term_is same))

pub signature_weaker : (n count : ℕ) (of : Signature) → n ≤ count → SignatureBelow n of → SignatureBelow count of
signature_weaker n count of more below = (below_weaker n count of.params more below.0, below_weaker n count of.results more below.1)

pub signature_over : (u count : ℕ) (term : Term) (of : Signature) → IsOver u term → u < count → term ≡ Func of → SignatureBelow count of
signature_over u count term of over low is = signature_weaker u count of (omega arith) (subst (λ (x : Term). IsOver u x) is over)

pub signature_shown : (s : State) (of : GoType) (term : Term) (signature : Signature) → of ≡ type_of (types_in s.table) term → term ≡ Func signature
    → Some (signature_of (types_in s.table) signature) ≡ signature_told of
signature_shown s of term signature is term_is = sym (ap (λ (x : GoType). signature_told x) (is ∙ ap (λ (x : Term). type_of (types_in s.table) x) term_is))

pub all_more : {X : Type 0} (P : X → Type 0) (xs : List X) (x : X) → All P xs → P x → All P (xs ++ x ∷ [])
all_more P [] x all is = All-cons P x [] is (All-nil P)
all_more P (y ∷ xs) x all is = All-cons P y (xs ++ x ∷ []) (all 0 y (omega arith)) (all_more P xs x (All-tail P y xs all) is)
