-- What a reply says can be put in order: so each reply has its bytes, in each form.
use Rattle.std.proofs.Common.{◌≡◌, ℕ, zero, suc, ◌+◌, Bool, true, false, cond, Option, Some, None, List, [], ◌∷◌, IsPermutation, refl, sym, subst, arith}
use Rattle.std.specs.Cmp.{IsStrictWeakOrder}
use Rattle.std.specs.List.Sorted.{IsSortedBy}
use Rattle.std.specs.Option.{option_map_or}
use Rattle.std.specs.Ordering.{is_lt}
use Rattle.std.specs.Prelude.{slice_index_or}
use Rattle.std.proofs.lemmas.List.Sorted.{IsPermutation-refl, IsPermutation-trans, IsPermutation-cons, IsPermutation-middle, ranks_by}
use Rattle.gv_base.specs.Files.{Entry}
use Rattle.analysis_core.specs.declared.command.Command.{Command}
use Rattle.analysis_core.specs.declared.command.Command.TheVariants.{Check, Report, Facts, Fix}
use Rattle.analysis_core.specs.declared.reply.Reply.{Reply}
use Rattle.analysis_core.specs.declared.reply.TreeLimit.{TreeLimit}
use Rattle.analysis_core.specs.declared.said.Said.{Said}
use Rattle.analysis_core.specs.JsonReplies.{all_said, json_line, said_order, IsJson}
use Rattle.analysis_core.specs.Replies.{limit_line, reply_text}
use Rattle.analysis_core.proofs.JsonLemmas.{said_total}
use Rattle.tree_runs.specs.declared.report.Form.{Form}
use Rattle.tree_runs.specs.declared.report.Form.TheVariants.{Text, Json, Last}
use Rattle.tree_runs.specs.Reports.{IsPrinted, ending_line}

-- ---- a list in order

module _ {X : Type 0} (lt : X → X → Bool) (order : IsStrictWeakOrder lt) where
  abbrev into : X → List X → List X
  into x [] = x ∷ []
  into x (y ∷ ys) = cond (lt y x) (y ∷ into x ys) (x ∷ y ∷ ys)

  -- the first of these, if there is one, isn't less
  abbrev Follows : X → List X → Type 0
  Follows z [] = Unit {0}
  Follows z (y ∷ ys) = lt y z ≡ false

  later : (k : ℕ) → suc k + 1 ≡ suc (k + 1)
  later k = omega arith

  cons-sorted : (y : X) (ys : List X) → Follows y ys → IsSortedBy lt ys → IsSortedBy lt (y ∷ ys)
  cons-sorted y [] low s k d from within = absurd (omega (arith, within))
  cons-sorted y (z ∷ zs) low s zero d from within = low
  cons-sorted y (z ∷ zs) low s (suc k) d from within = subst (λ n. lt (slice_index_or (y ∷ z ∷ zs) n d) (slice_index_or (z ∷ zs) k d) ≡ false) (sym (later k)) (s k d (omega arith) (omega (arith, within)))

  tail-sorted : (y : X) (ys : List X) → IsSortedBy lt (y ∷ ys) → IsSortedBy lt ys
  tail-sorted y ys s k d from within = subst (λ n. lt (slice_index_or (y ∷ ys) n d) (slice_index_or ys k d) ≡ false) (later k) (s (suc k) d (omega arith) (omega (arith, within)))

  head-sorted : (y : X) (ys : List X) → IsSortedBy lt (y ∷ ys) → Follows y ys
  head-sorted y [] s = tt
  head-sorted y (z ∷ zs) s = s 0 z (omega arith) (omega arith)

  follows-into : (z x : X) (ys : List X) → lt x z ≡ false → Follows z ys → Follows z (into x ys)
  follows-into z x [] a b = a
  follows-into z x (y ∷ ys) a b = by (lt y x)
    where
      by : (c : Bool) → Follows z (cond c (y ∷ into x ys) (x ∷ y ∷ ys))
      by true = b
      by false = a

  into-sorted : (x : X) (ys : List X) → IsSortedBy lt ys → IsSortedBy lt (into x ys)
  into-sorted x [] s = cons-sorted x [] tt s
  into-sorted x (y ∷ ys) s = by (lt y x) refl (into-sorted x ys (tail-sorted y ys s))
    where
      by : (c : Bool) → lt y x ≡ c → IsSortedBy lt (into x ys) → IsSortedBy lt (cond c (y ∷ into x ys) (x ∷ y ∷ ys))
      by true e others = cons-sorted y (into x ys) (follows-into y x ys (order.one_way y x e) (head-sorted y ys s)) others
      by false e others = cons-sorted x (y ∷ ys) e s

  into-permutes : (x : X) (ys : List X) → IsPermutation (x ∷ ys) (into x ys)
  into-permutes x [] = IsPermutation-refl (x ∷ [])
  into-permutes x (y ∷ ys) = by (lt y x) (into-permutes x ys)
    where
      by : (c : Bool) → IsPermutation (x ∷ ys) (into x ys) → IsPermutation (x ∷ y ∷ ys) (cond c (y ∷ into x ys) (x ∷ y ∷ ys))
      by true others = IsPermutation-trans (x ∷ y ∷ ys) (y ∷ x ∷ ys) (y ∷ into x ys) (IsPermutation-middle (x ∷ []) y ys) (IsPermutation-cons y (x ∷ ys) (into x ys) others)
      by false others = IsPermutation-refl (x ∷ y ∷ ys)

  abbrev pub in_order : List X → List X
  in_order [] = []
  in_order (x ∷ xs) = into x (in_order xs)

  pub in_order-sorted : (xs : List X) → IsSortedBy lt (in_order xs)
  in_order-sorted [] = λ k d from within. absurd (omega (arith, within))
  in_order-sorted (x ∷ xs) = into-sorted x (in_order xs) (in_order-sorted xs)

  pub in_order-permutes : (xs : List X) → IsPermutation xs (in_order xs)
  in_order-permutes [] = IsPermutation-refl []
  in_order-permutes (x ∷ xs) = IsPermutation-trans (x ∷ xs) (x ∷ in_order xs) (into x (in_order xs)) (IsPermutation-cons x xs (in_order xs) (in_order-permutes xs)) (into-permutes x (in_order xs))

-- ---- the bytes of a reply

abbrev before : Said → Said → Bool
before s t = is_lt (said_order s t)

ranks : IsStrictWeakOrder before
ranks = ranks_by said_total (λ x. x)

record HasJson (files : List Entry) (r : Reply) : Type 0 where
  bytes : List ℕ
  is : IsJson files r bytes

has-json : (files : List Entry) (r : Reply) → HasJson files r
has-json files r = by r.limit refl
  where
    by : (l : Option TreeLimit) → r.limit ≡ l → HasJson files r
    by None e = record {
      bytes = json_line files (in_order before ranks (all_said r));
      is = record {
        over = subst (λ (o : Option TreeLimit). option_map_or (λ l. limit_line l) o (json_line files (in_order before ranks (all_said r))) ≡ json_line files (in_order before ranks (all_said r))) (sym e) refl;
        within = λ none. record { said = in_order before ranks (all_said r); all = in_order-permutes before ranks (all_said r); order = in_order-sorted before ranks (all_said r); line = refl };
      };
    }
    by (Some l) e = record {
      bytes = limit_line l;
      is = record {
        over = subst (λ (o : Option TreeLimit). option_map_or (λ x. limit_line x) o (limit_line l) ≡ limit_line l) (sym e) refl;
        within = λ none. absurd (some-none l (sym e) none);
      };
    }
      where
        some-none : (l : TreeLimit) → Some l ≡ r.limit → r.limit ≡ None → ⊥
        some-none l a b = cc

pub record HasPrinted (form : Form) (files : List Entry) (asked : Command) (r : Reply) : Type 0 where
  pub bytes : List ℕ
  pub is : IsPrinted form files asked r bytes

has-json-printed : (files : List Entry) (asked : Command) (r : Reply) → HasPrinted Json files asked r
has-json-printed files Check r = record { bytes = reply_text files Check r; is = refl }
has-json-printed files Report r = (let j = has-json files r in record { bytes = j.bytes; is = j.is })
has-json-printed files Facts r = record { bytes = reply_text files Facts r; is = refl }
has-json-printed files Fix r = record { bytes = reply_text files Fix r; is = refl }

pub has-printed : (form : Form) (files : List Entry) (asked : Command) (r : Reply) → HasPrinted form files asked r
has-printed Text files asked r = record { bytes = reply_text files asked r; is = refl }
has-printed Json files asked r = has-json-printed files asked r
has-printed Last files asked r = record { bytes = ending_line asked r; is = refl }
