-- What was met in a run, one operand more at a time.
use Rattle.std.proofs.Common.{◌≡◌, ℕ, zero, suc, ◌+◌, ◌<◌, ◌≤◌, Bool, true, false, cond, ◌||◌, is_some, if◌then◌else◌, List, [], ◌∷◌, ◌++◌, drop, length, slice_get, Option, Some, None, option_map, refl, sym, ap, ◌∙◌, subst, append_assoc, append-nil, arith}
use Rattle.std.specs.Option.{option_map_or}
use Rattle.std.specs.Global.{Vec}
use Rattle.std.specs.HashMap.{HashMap}
use Rattle.std.specs.Str.{bytes_eq}
use Rattle.std.proofs.lemmas.Slice.Eq.{bytes_eq-Decides}
use Rattle.typed_marks.specs.declared.item.Item.{Item}
use Rattle.typed_marks.specs.Meanings.{Meaning}
use Rattle.unit_read.specs.Units.{Unit}
use Rattle.analysis_core.specs.declared.diagnostic.Diagnostic.{Diagnostic}
use Rattle.vet_words.specs.Quiet.{is_quiet}
use Rattle.vet_words.specs.Texts.{key_at, is_same}
use Rattle.vet_simple.specs.declared.chains.Chain.{Chain}
use Rattle.vet_simple.specs.Bools.{is_again, redundant, suspect, tested, tests_same, first_testing, in_run, run_with, if_quiet, in_runs}
use Rattle.vet_simple.specs.InRuns.{kept, has_key, first_keyed, IsTable, noted, operand_key, compared_key, AreSeen}

-- ---- tables

noted_none : (b : Bool) (x : ℕ) → (if b then Some x else None) ≡ noted None b x
noted_none true x = refl
noted_none false x = refl

noted_on : (b h : Bool) (y x : ℕ) (o p : Option ℕ) → p ≡ noted o h x → (if b then Some y else p) ≡ noted (if b then Some y else o) h x
noted_on true h y x o p e = refl
noted_on false h y x o p e = e

pub keyed_more : (key : ℕ → Option (List ℕ)) (run : List ℕ) (x : ℕ) (k : List ℕ) → first_keyed key (run ++ x ∷ []) k ≡ noted (first_keyed key run k) (has_key key k x) x
keyed_more key [] x k = noted_none (has_key key k x) x
keyed_more key (y ∷ run) x k = noted_on (has_key key k y) (has_key key k x) y x (first_keyed key run k) (first_keyed key (run ++ x ∷ []) k) (keyed_more key run x k)

-- an operand with a key is noted
pub table_more : {S T : Type 0} (key : ℕ → Option (List ℕ)) (run : List ℕ) (x : ℕ) (q : List ℕ) (old : HashMap (Vec ℕ) ℕ S) (new : HashMap (Vec ℕ) ℕ T) → IsTable key run old → key x ≡ Some q
    → ((k : List ℕ) → kept new k ≡ noted (kept old k) (bytes_eq q k) x) → IsTable key (run ++ x ∷ []) new
table_more key run x q old new was is after = λ k.
    after k ∙ (ap (λ o. noted o (bytes_eq q k) x) (was k) ∙ (ap (λ o. noted (first_keyed key run k) (option_map_or (λ p. bytes_eq p k) o false) x) (sym is) ∙ sym (keyed_more key run x k)))

noted_not : (o : Option ℕ) (x : ℕ) → noted o false x ≡ o
noted_not None x = refl
noted_not (Some y) x = refl

-- one without isn't
pub table_same : {S : Type 0} (key : ℕ → Option (List ℕ)) (run : List ℕ) (x : ℕ) (met : HashMap (Vec ℕ) ℕ S) → IsTable key run met → key x ≡ None → IsTable key (run ++ x ∷ []) met
table_same key run x met was none = λ k.
    was k ∙ (sym (noted_not (first_keyed key run k) x) ∙ (ap (λ o. noted (first_keyed key run k) (option_map_or (λ p. bytes_eq p k) o false) x) (sym none) ∙ sym (keyed_more key run x k)))

pub kept_none : {S : Type 0} (met : HashMap (Vec ℕ) ℕ S) → met.entries ≡ [] → (k : List ℕ) → kept met k ≡ None
kept_none met e k = rw e refl

-- ---- noting

same_key : {S : Type 0} (met : HashMap (Vec ℕ) ℕ S) (q k : List ℕ) → bytes_eq q k ≡ true → kept met q ≡ kept met k
same_key met q k e = ap (kept met) ((bytes_eq-Decides q k).0 e)

noted_some : (o : Option ℕ) (b : Bool) (x y : ℕ) → o ≡ Some y → o ≡ noted o b x
noted_some None b x y e = absurd cc
noted_some (Some z) b x y e = refl

-- what was there stays
pub note_old : {S : Type 0} (met : HashMap (Vec ℕ) ℕ S) (q : List ℕ) (x y : ℕ) → kept met q ≡ Some y → (k : List ℕ) → kept met k ≡ noted (kept met k) (bytes_eq q k) x
note_old met q x y there k = by (bytes_eq q k) refl where
  by : (b : Bool) → bytes_eq q k ≡ b → kept met k ≡ noted (kept met k) (bytes_eq q k) x
  by true e = noted_some (kept met k) (bytes_eq q k) x y (sym (same_key met q k e) ∙ there)
  by false e = sym (ap (λ b. noted (kept met k) b x) e ∙ noted_not (kept met k) x)

pub note_new : {S T : Type 0} (old : HashMap (Vec ℕ) ℕ S) (new : HashMap (Vec ℕ) ℕ T) (q : List ℕ) (x : ℕ) → kept old q ≡ None → ((k : List ℕ) → kept new k ≡ (if bytes_eq q k then Some x else kept old k))
    → (k : List ℕ) → kept new k ≡ noted (kept old k) (bytes_eq q k) x
note_new old new q x none put k = put k ∙ by (bytes_eq q k) refl where
  by : (b : Bool) → bytes_eq q k ≡ b → (if bytes_eq q k then Some x else kept old k) ≡ noted (kept old k) (bytes_eq q k) x
  by true e = ap (λ b. if b then Some x else kept old k) e ∙ (ap (λ o. noted o true x) (sym (sym (same_key old q k e) ∙ none)) ∙ ap (λ b. noted (kept old k) b x) (sym e))
  by false e = ap (λ b. if b then Some x else kept old k) e ∙ (sym (noted_not (kept old k) x) ∙ ap (λ b. noted (kept old k) b x) (sym e))

-- ---- what the tables tell

some_or : (b : Bool) (y : ℕ) (o : Option ℕ) (r : Bool) → r ≡ is_some o → (b || r) ≡ is_some (if b then Some y else o)
some_or true y o r e = refl
some_or false y o r e = e

pub again_is : (u : Unit) (f : ℕ) (run : List ℕ) (x : ℕ) → is_again u f run x ≡ is_some (first_keyed (operand_key u f) run (key_at u f x))
again_is u f [] x = refl
again_is u f (y ∷ run) x = some_or (is_same u f y x) y (first_keyed (operand_key u f) run (key_at u f x)) (is_again u f run x) (again_is u f run x)

mapped : (g : ℕ → List ℕ) (k : List ℕ) (o : Option ℕ) → option_map_or (λ s. bytes_eq (g s) k) o false ≡ option_map_or (λ q. bytes_eq q k) (option_map g o) false
mapped g k None = refl
mapped g k (Some s) = refl

same_if : (a b : Bool) (y : ℕ) (o p : Option ℕ) → a ≡ b → o ≡ p → (if a then Some y else o) ≡ (if b then Some y else p)
same_if a b y o p e h = ap (λ c. if c then Some y else o) e ∙ ap (λ q. if b then Some y else q) h

pub testing_is : (u : Unit) (marks : Item → Meaning) (f : ℕ) (c : Chain) (run : List ℕ) (t : ℕ) → first_testing u marks f c run t ≡ first_keyed (compared_key u marks f c) run (key_at u f t)
testing_is u marks f c [] t = refl
testing_is u marks f c (y ∷ run) t =
    same_if (tests_same u marks f c t y) (has_key (compared_key u marks f c) (key_at u f t) y) y (first_testing u marks f c run t) (first_keyed (compared_key u marks f c) run (key_at u f t))
    (mapped (key_at u f) (key_at u f t) (tested u marks f c y)) (testing_is u marks f c run t)

-- ---- operands, one more at a time

drop_at : {X : Type 0} (list : List X) (i : ℕ) (x : X) → slice_get list i ≡ Some x → drop i list ≡ x ∷ drop (i + 1) list
drop_at [] i x is = absurd cc
drop_at (y ∷ list) zero x is = let same : y ≡ x = cc in ap (λ z. z ∷ list) same
drop_at (y ∷ list) (suc i) x is = let e : suc i + 1 ≡ suc (i + 1) = omega arith in rw e (drop_at list i x is)

drop_end : {X : Type 0} (list : List X) (i : ℕ) → length list ≤ i → drop i list ≡ []
drop_end [] zero low = refl
drop_end [] (suc i) low = refl
drop_end (x ∷ xs) zero low = absurd (omega arith)
drop_end (x ∷ xs) (suc i) low = drop_end xs i (omega arith)

module _ (u : Unit) (marks : Item → Meaning) (f : ℕ) (c : Chain) (xs : List ℕ) (start : List Diagnostic) where
  found_more : (run : List ℕ) (i x : ℕ) (found new more : List Diagnostic) → slice_get xs i ≡ Some x → found ++ in_runs u marks f c run (drop i xs) ≡ start ++ in_runs u marks f c [] xs
      → new ≡ found ++ more → more ≡ if_quiet u marks f c run x → new ++ in_runs u marks f c (run_with u marks f run x) (drop (i + 1) xs) ≡ start ++ in_runs u marks f c [] xs
  found_more run i x found new more at was is some =
      ap (λ (l : List Diagnostic). l ++ in_runs u marks f c (run_with u marks f run x) (drop (i + 1) xs)) (is ∙ ap (λ (l : List Diagnostic). found ++ l) some)
      ∙ (append_assoc found (if_quiet u marks f c run x) (in_runs u marks f c (run_with u marks f run x) (drop (i + 1) xs))
      ∙ (ap (λ (l : List ℕ). found ++ in_runs u marks f c run l) (sym (drop_at xs i x at)) ∙ was))

  -- a quiet operand
  pub seen_quiet : {S T V W : Type 0} (i x : ℕ) (found mid new : List Diagnostic) (operands : HashMap (Vec ℕ) ℕ S) (compared : HashMap (Vec ℕ) ℕ T) (operands_new : HashMap (Vec ℕ) ℕ V) (compared_new : HashMap (Vec ℕ) ℕ W)
      → AreSeen u marks f c xs start found i operands compared → slice_get xs i ≡ Some x → is_quiet u marks f x ≡ true
      → ((run : List ℕ) → IsTable (operand_key u f) run operands → mid ≡ found ++ redundant u f c run x)
      → ((run : List ℕ) → IsTable (compared_key u marks f c) run compared → new ≡ mid ++ suspect u marks f c run x)
      → ((run : List ℕ) → IsTable (operand_key u f) run operands → IsTable (operand_key u f) (run ++ x ∷ []) operands_new)
      → ((run : List ℕ) → IsTable (compared_key u marks f c) run compared → IsTable (compared_key u marks f c) (run ++ x ∷ []) compared_new)
      → AreSeen u marks f c xs start new (i + 1) operands_new compared_new
  seen_quiet {V = V} {W = W} i x found mid new operands compared operands_new compared_new was at quiet first second noted_operand noted_compared =
      let run = was.run in
      record {
        run = run ++ x ∷ [];
        met_operands = noted_operand run was.met_operands;
        met_compared = noted_compared run was.met_compared;
        so_far = subst (λ (r : List ℕ). new ++ in_runs u marks f c r (drop (i + 1) xs) ≡ start ++ in_runs u marks f c [] xs) (ap (λ b. if b then run ++ x ∷ [] else []) quiet)
            (found_more run i x found new (in_run u marks f c run x) at was.so_far
            (second run was.met_compared ∙ (ap (λ (l : List Diagnostic). l ++ suspect u marks f c run x) (first run was.met_operands) ∙ append_assoc found (redundant u f c run x) (suspect u marks f c run x)))
            (sym (ap (λ b. if b then in_run u marks f c run x else []) quiet)));
      }

  -- another ends the run
  pub seen_noisy : {S T V W : Type 0} (i x : ℕ) (found : List Diagnostic) (operands : HashMap (Vec ℕ) ℕ S) (compared : HashMap (Vec ℕ) ℕ T) (operands_new : HashMap (Vec ℕ) ℕ V) (compared_new : HashMap (Vec ℕ) ℕ W)
      → AreSeen u marks f c xs start found i operands compared → slice_get xs i ≡ Some x → is_quiet u marks f x ≡ false
      → IsTable (operand_key u f) [] operands_new → IsTable (compared_key u marks f c) [] compared_new
      → AreSeen u marks f c xs start found (i + 1) operands_new compared_new
  seen_noisy i x found operands compared operands_new compared_new was at noisy bare_operands bare_compared =
      let run = was.run in
      record {
        run = [];
        met_operands = bare_operands;
        met_compared = bare_compared;
        so_far = subst (λ (r : List ℕ). found ++ in_runs u marks f c r (drop (i + 1) xs) ≡ start ++ in_runs u marks f c [] xs) (ap (λ b. if b then run ++ x ∷ [] else []) noisy)
            (found_more run i x found found [] at was.so_far (sym (append-nil found)) (sym (ap (λ b. if b then in_run u marks f c run x else []) noisy)));
      }

  pub seen_all : {S T : Type 0} (i : ℕ) (found : List Diagnostic) (operands : HashMap (Vec ℕ) ℕ S) (compared : HashMap (Vec ℕ) ℕ T) → AreSeen u marks f c xs start found i operands compared → length xs ≤ i
      → found ≡ start ++ in_runs u marks f c [] xs
  seen_all i found operands compared was past = sym (append-nil found) ∙ (ap (λ (l : List ℕ). found ++ in_runs u marks f c was.run l) (sym (drop_end xs i past)) ∙ was.so_far)
