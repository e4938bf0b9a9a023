-- A table of which nothing is declared any more.
use Rattle.std.proofs.Common.{◌≡◌, ℕ, zero, suc, ◌+◌, ◌<◌, ◌≤◌, ◌++◌, Bool, true, false, if◌then◌else◌, List, [], ◌∷◌, length, map, take, slice_get, slice_index_or, Option, option_map, Some, None, refl, sym, ap, ◌∙◌, subst, arith}
use Rattle.std.specs.List.{All}
use Rattle.std.specs.HashMap.{HashMap}
use Rattle.std.specs.Global.{Vec}
use Rattle.std.proofs.lemmas.List.{map-append, length-map, take_all}
use Rattle.std.proofs.lemmas.Option.{slice_get-get_or}
use Rattle.settled.specs.declared.net.Net.{Net}
use Rattle.settled.specs.Nets.{IsNet, IsSame, AddsWaits, size}
use Rattle.type_model.specs.declared.term.TypeName.{TypeName}
use Rattle.type_model.specs.declared.term.Term.{Term}
use Rattle.type_model.specs.declared.term.Declared.{Declared}
use Rattle.type_model.specs.declared.table.TypeTable.{TypeTable}
use Rattle.type_model.specs.GoTypes.{GoType, types_of}
use Rattle.type_model.specs.Declarations.{Declaration}
use Rattle.type_model.specs.Comparing.{IsWoven, IsWeave, is_ruled_out, parts_of}
use Rattle.type_model.specs.Forgetting.{nothing_of, nothings}
use Rattle.type_model.specs.declared.classes.Classes.{Classes}
use Rattle.type_model.specs.Classes.{AreClasses}
use Rattle.type_model.specs.Indexes.{AreTerms, IsIndex}
use Rattle.type_model.specs.Tables.{IsTable, AreWidths, declared_as, declared_at, declaration_of, declarations_in, is_named}
use Rattle.type_model.proofs.WovenLaws.{woven_push, woven_same, parts_below, weave}
use Rattle.type_model.proofs.EndLaws.{all_end_as, all_end_empty, nothing}

pub take-one-more : {X : Type 0} (xs : List X) (n : ℕ) (d : X) → n < length xs → take (n + 1) xs ≡ take n xs ++ slice_index_or xs n d ∷ []
take-one-more [] n d lt = absurd (omega (arith, lt))
take-one-more (x ∷ xs) zero d lt = refl
take-one-more (x ∷ xs) (suc n) d lt =
    let e : suc n + 1 ≡ suc (n + 1) = omega arith in
    rw e (ap (λ l. x ∷ l) (take-one-more xs n d (omega (arith, lt))))

pub beside : (terms : List Term) → length (nothings terms) ≡ length terms
beside terms = length-map terms nothing_of

pub take-length : {X : Type 0} (xs : List X) (n : ℕ) → n < length xs → length (take n xs) ≡ n
take-length [] n lt = absurd (omega (arith, lt))
take-length (x ∷ xs) zero lt = refl
take-length (x ∷ xs) (suc n) lt = ap suc (take-length xs n (omega (arith, lt)))

-- a term more
pub one_more : (terms : List Term) (k : ℕ) (term : Term) (n mid new : Net) (parts : List ℕ) (ruled : Bool) → k < length terms → term ≡ slice_index_or terms k term
    → IsWoven (take k terms) (nothings (take k terms)) n → IsNet mid → size mid ≡ size n → IsSame n mid
    → IsNet new → size new ≡ size mid + 1 → ruled ≡ is_ruled_out term None → parts ≡ parts_of term None
    → new.marks.blocked.items ≡ mid.marks.blocked.items ++ ruled ∷ [] → AddsWaits mid new (size mid) parts (length parts)
    → IsWoven (take (k + 1) terms) (nothings (take (k + 1) terms)) new
one_more terms k term n mid new parts ruled lt item woven net count same its more is_ruled are_parts blocked waits =
    let upto : take (k + 1) terms ≡ take k terms ++ term ∷ [] = take-one-more terms k term lt ∙ ap (λ x. take k terms ++ x ∷ []) (sym item) in
    let between : IsWoven (take k terms) (nothings (take k terms)) mid = woven_same (take k terms) (nothings (take k terms)) n mid woven net count same in
    let after : IsWoven (take k terms ++ term ∷ []) (nothings (take k terms) ++ None ∷ []) new =
    woven_push (take k terms) (nothings (take k terms)) mid new term parts ruled between (beside (take k terms)) its more is_ruled are_parts blocked waits in
    subst (λ (l : List Term). IsWoven l (nothings l) new) (sym upto)
    (subst (λ (d : List (Option Declared)). IsWoven (take k terms ++ term ∷ []) d new) (sym (map-append nothing_of (take k terms) (term ∷ []))) after)

-- the types on which a term depends are things already
pub over_before : (terms : List Term) (k : ℕ) (term : Term) (n mid : Net) → k < length terms → term ≡ slice_index_or terms k term → AreTerms terms
    → IsWoven (take k terms) (nothings (take k terms)) n → size mid ≡ size n → All (λ p. p < size mid) (parts_of term None)
over_before terms k term n mid lt item are woven count =
    let there : slice_get terms k ≡ Some term = slice_get-get_or terms k term lt ∙ ap Some (sym item) in
    let upto : length (take k terms) ≡ k = take-length terms k lt in
    let things : k ≡ size mid = sym (count ∙ (woven.count ∙ upto)) in
    subst (λ m. All (λ p. p < m) (parts_of term None)) things (parts_below k term (are.over k term there))

pub all_woven : (terms : List Term) (k : ℕ) (n : Net) → length terms ≤ k → IsWoven (take k terms) (nothings (take k terms)) n → IsWeave terms (nothings terms) n
all_woven terms k n done woven = weave terms (nothings terms) n (subst (λ (l : List Term). IsWoven l (nothings l) n) (take_all k terms done) woven)

-- nothing is declared
pub none_at : (terms : List Term) (i : ℕ) → slice_index_or (nothings terms) i None ≡ None
none_at [] zero = refl
none_at [] (suc i) = refl
none_at (t ∷ terms) zero = refl
none_at (t ∷ terms) (suc i) = none_at terms i

abbrev nothing_here : Option Declared
nothing_here = None

none_as : (name : TypeName) (types : List GoType) (terms : List Term) → declared_as name types (nothings terms) ≡ None
none_as name [] terms = refl
none_as name (g ∷ types) [] = refl
none_as name (g ∷ types) (t ∷ terms) = ap (λ (o : Option Declared). if is_named name g then nothing_here else o) (none_as name types terms) ∙ either (is_named name g)
  where
    either : (b : Bool) → (if b then nothing_here else nothing_here) ≡ None
    either true = refl
    either false = refl

pub none_declared_in : (t : TypeTable) (terms : List Term) → t.declared.items ≡ nothings terms → (name : TypeName) → declarations_in t name ≡ None
none_declared_in t terms is name =
    ap (λ (l : List (Option Declared)). option_map (λ d. declaration_of (types_of t.terms.items) d) (declared_as name (types_of t.terms.items) l)) is
    ∙ ap (λ (o : Option Declared). option_map (λ d. declaration_of (types_of t.terms.items) d) o) (none_as name (types_of t.terms.items) terms)

no_some : (o : Option Declared) (d : Declared) → o ≡ None → o ≡ Some d → ⊥
no_some o d none some = absurd cc

-- the table
pub forgotten : (old new : TypeTable) → IsTable old → new.terms ≡ old.terms → new.widths ≡ old.widths → new.numbers ≡ old.numbers → new.classes ≡ old.classes
    → new.declared.items ≡ nothings old.terms.items → IsWeave old.terms.items (nothings old.terms.items) new.net → IsTable new
forgotten old new table terms widths numbers classes declared woven = record {
  terms = subst (λ (l : List Term). AreTerms l) (sym same) table.terms;
  index = subst (λ (m : HashMap (Vec ℕ) ℕ _). IsIndex new.terms.items m) (sym numbers) (subst (λ (l : List Term). IsIndex l old.numbers) (sym same) table.index);
  widths = subst (λ (w : List ℕ). AreWidths new.terms.items w) (sym (ap (λ (v : Vec ℕ). v.items) widths)) (subst (λ (l : List Term). AreWidths l old.widths.items) (sym same) table.widths);
  size = ap length declared ∙ (beside old.terms.items ∙ ap length (sym same));
  only = λ i d e. absurd (none i d e);
  ordered = λ i term read. table.ordered i term (ap (λ (l : List Term). slice_get l i) (sym same) ∙ read);
  inside = λ i d e. absurd (none i d e);
  plain = λ i d e. absurd (none i d e);
  ends = all_end_as nothing (declarations_in new) (none_declared_in new old.terms.items declared) all_end_empty;
  classes = subst (λ (c : Classes). AreClasses new.terms.items c) (sym classes) (subst (λ (l : List Term). AreClasses l old.classes) (sym same) table.classes);
  woven = subst (λ (d : List (Option Declared)). IsWeave new.terms.items d new.net) (sym declared)
      (subst (λ (l : List Term). IsWeave l (nothings old.terms.items) new.net) (sym same) woven);
}
  where
    same : new.terms.items ≡ old.terms.items
    same = ap (λ (v : Vec Term). v.items) terms

    none : (i : ℕ) (d : Declared) → declared_at new i ≡ Some d → ⊥
    none i d e = no_some (declared_at new i) d (ap (λ (l : List (Option Declared)). slice_index_or l i None) declared ∙ none_at old.terms.items i) e
