-- What the machine reads is what the grammar says.
use Rattle.std.proofs.lemmas.List.{drop_all}
use Rattle.std.proofs.Common.{◌≡◌, ◌⊎◌, inl, inr, ℕ, suc, ◌+◌, get_or, drop, drop-cons, ◌<◌, ◌≤◌, List, [], ◌∷◌, length, codes, Bool, true, false, bytes_eq, Option, Some, None, is_some, option_map, option_and_then, refl, ap, sym, ◌∙◌, subst, arith, cond}
use Rattle.std.specs.Prelude.{unwrap_or, if◌then◌else◌}
use Rattle.std.specs.Fmt.{decimal}
use Rattle.std.proofs.lemmas.Option.{none-some, same_Some}
use Rattle.std.proofs.lemmas.Slice.Eq.{bytes_eq-Decides}
use Rattle.analysis_core.specs.declared.command.Command.TheVariants as run
use Rattle.words.specs.declared.asked.Asked.{Asked}
use Rattle.words.specs.declared.asked.Asked.TheVariants as asked
use Rattle.words.specs.declared.asked.Words.{Words}
use Rattle.words.specs.declared.word.Valued.{Valued}
use Rattle.words.specs.declared.word.Valued.TheVariants as option
use Rattle.words.specs.declared.draft.Expects.{Expects}
use Rattle.words.specs.declared.draft.Expects.TheVariants as expects
use Rattle.words.specs.declared.draft.Counted.{Counted}
use Rattle.words.specs.declared.draft.Counted.TheVariants as command
use Rattle.words.specs.declared.draft.Position.{Position}
use Rattle.words.specs.declared.draft.Position.TheVariants as position
use Rattle.words.specs.declared.draft.Draft.{Draft}
use Rattle.words.specs.Pieces.{WordKind, dashes, flag, named, given, plain, wrong, dashed, kind_of}
use Rattle.words.specs.Numbers.{numeral}
use Rattle.words.specs.Lists.{set_named}
use Rattle.words.specs.Grammar.{Given, nothing, text_of, with_text, Takes, no_words, dashes_then, plain_word, json_flag, value_next, value_within, IsCommand, session, check, report, facts, fix, gen, load, IsWorkers, IsNamed, IsOnly, Asks}
use Rattle.words.specs.Machine.{first_position, done_with, next_position, with_workers, with_only, set_at, set_value, with_json, any_kind, any_word, step, whole_at, finish, read, reading}
use Rattle.words.proofs.NumberLaws.{numeral-decimal, numeral-is}
use Rattle.words.proofs.ListLaws.{set-named, named-set}

abbrev pub draft : Expects → Position → Option ℕ → Option ℕ → Bool → Draft
draft x p w u j = record { expects = x; position = p; workers = w; only = u; json = j }

abbrev pub run_on : Option Draft → List (List ℕ) → Option Words
run_on o ws = option_and_then finish (option_and_then (λ e. read e ws) o)

-- the plain words that are left lead to this
abbrev pub Leads : Position → List (List ℕ) → Asked → Type 0
Leads position.Start ps a = IsCommand ps a
Leads (position.Counting c) ps a = (n : ℕ) × (ps ≡ decimal n ∷ []) × (1 ≤ n) × (n ≤ 1000) × (done_with c n ≡ position.Done a)
Leads (position.Done b) ps a = (ps ≡ []) × (a ≡ b)

abbrev pub FillsWorkers : Option ℕ → Option (List ℕ) → ℕ → Type 0
FillsWorkers None text n = IsWorkers text n
FillsWorkers (Some m) text n = (text ≡ None) × (n ≡ m)

abbrev pub FillsOnly : Option ℕ → Option (List ℕ) → ℕ → Type 0
FillsOnly None text set = IsOnly text set
FillsOnly (Some m) text set = (text ≡ None) × (set ≡ m)

abbrev pub FillsJson : Bool → Bool → Bool → Type 0
FillsJson true asked_for k = (asked_for ≡ false) × (k ≡ true)
FillsJson false asked_for k = k ≡ asked_for

-- these words complete what the words before them said
pub record Reads (p : Position) (w u : Option ℕ) (j : Bool) (ws : List (List ℕ)) (call : Words) : Type 0 where
  pub plains : List (List ℕ)
  pub options : Given
  pub takes : Takes ws plains options
  pub place : Leads p plains call.asked
  pub workers : FillsWorkers w options.workers call.workers
  pub only : FillsOnly u options.only call.only
  pub json : FillsJson j options.json call.json

-- one plain word
leads-count : (c : Counted) (n : ℕ) (a : Asked) (q : Position) → done_with c n ≡ position.Done a → Leads (done_with c n) [] a
leads-count c n a q e = let P : Position → Type 0 = λ p. Leads p [] a in subst P (sym e) (refl, refl)

pub leads-step : (p : Position) (w : List ℕ) (ps : List (List ℕ)) (a : Asked) → Leads p (w ∷ ps) a → (q : Position) × (next_position p w ≡ Some q) × Leads q ps a
leads-step position.Start _ _ _ session = (position.Done asked.Session, refl, (refl, refl))
leads-step position.Start _ _ _ check = (position.Done (asked.Run run.Check), refl, (refl, refl))
leads-step position.Start _ _ _ report = (position.Done (asked.Run run.Report), refl, (refl, refl))
leads-step position.Start _ _ _ facts = (position.Done (asked.Run run.Facts), refl, (refl, refl))
leads-step position.Start _ _ _ fix = (position.Done (asked.Run run.Fix), refl, (refl, refl))
leads-step position.Start _ _ _ (gen n low high) = (position.Counting command.Gen, refl, (n, refl, low, high, refl))
leads-step position.Start _ _ _ (load n low high) = (position.Counting command.Load, refl, (n, refl, low, high, refl))
leads-step (position.Counting c) w ps a (n, e, low, high, is) =
    let head : w ≡ decimal n = cc in
    let tail : ps ≡ [] = cc in
    let P : List (List ℕ) → Type 0 = λ z. Leads (done_with c n) z a in
    (done_with c n, ap (λ z. option_map (done_with c) (numeral 1000 z)) head ∙ ap (option_map (done_with c)) (numeral-decimal 1000 n low high (omega (arith, high))), subst P (sym tail) (leads-count c n a (done_with c n) is))
leads-step (position.Done b) w ps a h = absurd (let e = h.0 in let l : length (w ∷ ps) ≡ length {A = List ℕ} [] = ap length e in omega (arith, l))

choose : (b : Bool) (x q : Position) (y : Option Position) → cond b (Some x) y ≡ Some q → ((b ≡ true) × (x ≡ q)) ⊎ (y ≡ Some q)
choose true x q y e = inl (refl, same_Some x q e)
choose false x q y e = inr e

-- the word is this one, and it is all of the command
whole-word : (text w : List ℕ) (ps : List (List ℕ)) (a b : Asked) (q : Position) → IsCommand (text ∷ []) b → bytes_eq w text ≡ true → position.Done b ≡ q → Leads q ps a → IsCommand (w ∷ ps) a
whole-word text w ps a b q is e at h =
    let k : Leads (position.Done b) ps a = let P : Position → Type 0 = λ z. Leads z ps a in subst P (sym at) h in
    let P : List ℕ → Type 0 = λ z. IsCommand (z ∷ ps) a in
    let Q : List (List ℕ) → Type 0 = λ z. IsCommand (text ∷ z) a in
    let R : Asked → Type 0 = λ z. IsCommand (text ∷ []) z in
    subst P (sym ((bytes_eq-Decides w text).0 e)) (subst Q (sym k.0) (subst R (sym k.1) is))

gen-word : (w : List ℕ) (ps : List (List ℕ)) (a : Asked) (q : Position) → bytes_eq w (codes "gen") ≡ true → position.Counting command.Gen ≡ q → Leads q ps a → IsCommand (w ∷ ps) a
gen-word w ps a q e at h =
    let k : Leads (position.Counting command.Gen) ps a = let P : Position → Type 0 = λ z. Leads z ps a in subst P (sym at) h in
    let P : List ℕ → Type 0 = λ z. IsCommand (z ∷ ps) a in
    let Q : List (List ℕ) → Type 0 = λ z. IsCommand (codes "gen" ∷ z) a in
    let R : Asked → Type 0 = λ z. IsCommand (codes "gen" ∷ decimal k.0 ∷ []) z in
    let s : asked.Gen k.0 ≡ a = done-same _ _ k.4 in
    subst P (sym ((bytes_eq-Decides w (codes "gen")).0 e)) (subst Q (sym k.1) (subst R s (gen k.0 k.2 k.3)))
  where
    done-same : (x y : Asked) → position.Done x ≡ position.Done y → x ≡ y
    done-same x y e = cc

load-word : (w : List ℕ) (ps : List (List ℕ)) (a : Asked) (q : Position) → bytes_eq w (codes "load") ≡ true → position.Counting command.Load ≡ q → Leads q ps a → IsCommand (w ∷ ps) a
load-word w ps a q e at h =
    let k : Leads (position.Counting command.Load) ps a = let P : Position → Type 0 = λ z. Leads z ps a in subst P (sym at) h in
    let P : List ℕ → Type 0 = λ z. IsCommand (z ∷ ps) a in
    let Q : List (List ℕ) → Type 0 = λ z. IsCommand (codes "load" ∷ z) a in
    let R : Asked → Type 0 = λ z. IsCommand (codes "load" ∷ decimal k.0 ∷ []) z in
    let s : asked.Load k.0 ≡ a = done-same _ _ k.4 in
    subst P (sym ((bytes_eq-Decides w (codes "load")).0 e)) (subst Q (sym k.1) (subst R s (load k.0 k.2 k.3)))
  where
    done-same : (x y : Asked) → position.Done x ≡ position.Done y → x ≡ y
    done-same x y e = cc

pub leads-first : (w : List ℕ) (ps : List (List ℕ)) (q : Position) (a : Asked) → first_position w ≡ Some q → Leads q ps a → IsCommand (w ∷ ps) a
leads-first w ps q a e h = at-session e
  where
    at-none : None ≡ Some q → IsCommand (w ∷ ps) a
    at-none e = absurd (none-some q e)

    at-load : (if bytes_eq w (codes "load") then Some (position.Counting command.Load) else (None)) ≡ Some q → IsCommand (w ∷ ps) a
    at-load e = elim (choose (bytes_eq w (codes "load")) (position.Counting command.Load) q (None) e) [ inl k ↦ load-word w ps a q k.0 k.1 h | inr e ↦ at-none e ]

    at-gen : (if bytes_eq w (codes "gen") then Some (position.Counting command.Gen) else (if bytes_eq w (codes "load") then Some (position.Counting command.Load) else (None))) ≡ Some q → IsCommand (w ∷ ps) a
    at-gen e = elim (choose (bytes_eq w (codes "gen")) (position.Counting command.Gen) q (if bytes_eq w (codes "load") then Some (position.Counting command.Load) else (None)) e) [ inl k ↦ gen-word w ps a q k.0 k.1 h | inr e ↦ at-load e ]

    at-fix : (if bytes_eq w (codes "fix") then Some (position.Done (asked.Run run.Fix)) else (if bytes_eq w (codes "gen") then Some (position.Counting command.Gen) else (if bytes_eq w (codes "load") then Some (position.Counting command.Load) else (None)))) ≡ Some q → IsCommand (w ∷ ps) a
    at-fix e = elim (choose (bytes_eq w (codes "fix")) (position.Done (asked.Run run.Fix)) q (if bytes_eq w (codes "gen") then Some (position.Counting command.Gen) else (if bytes_eq w (codes "load") then Some (position.Counting command.Load) else (None))) e) [ inl k ↦ whole-word (codes "fix") w ps a (asked.Run run.Fix) q fix k.0 k.1 h | inr e ↦ at-gen e ]

    at-facts : (if bytes_eq w (codes "facts") then Some (position.Done (asked.Run run.Facts)) else (if bytes_eq w (codes "fix") then Some (position.Done (asked.Run run.Fix)) else (if bytes_eq w (codes "gen") then Some (position.Counting command.Gen) else (if bytes_eq w (codes "load") then Some (position.Counting command.Load) else (None))))) ≡ Some q → IsCommand (w ∷ ps) a
    at-facts e = elim (choose (bytes_eq w (codes "facts")) (position.Done (asked.Run run.Facts)) q (if bytes_eq w (codes "fix") then Some (position.Done (asked.Run run.Fix)) else (if bytes_eq w (codes "gen") then Some (position.Counting command.Gen) else (if bytes_eq w (codes "load") then Some (position.Counting command.Load) else (None)))) e) [ inl k ↦ whole-word (codes "facts") w ps a (asked.Run run.Facts) q facts k.0 k.1 h | inr e ↦ at-fix e ]

    at-report : (if bytes_eq w (codes "report") then Some (position.Done (asked.Run run.Report)) else (if bytes_eq w (codes "facts") then Some (position.Done (asked.Run run.Facts)) else (if bytes_eq w (codes "fix") then Some (position.Done (asked.Run run.Fix)) else (if bytes_eq w (codes "gen") then Some (position.Counting command.Gen) else (if bytes_eq w (codes "load") then Some (position.Counting command.Load) else (None)))))) ≡ Some q → IsCommand (w ∷ ps) a
    at-report e = elim (choose (bytes_eq w (codes "report")) (position.Done (asked.Run run.Report)) q (if bytes_eq w (codes "facts") then Some (position.Done (asked.Run run.Facts)) else (if bytes_eq w (codes "fix") then Some (position.Done (asked.Run run.Fix)) else (if bytes_eq w (codes "gen") then Some (position.Counting command.Gen) else (if bytes_eq w (codes "load") then Some (position.Counting command.Load) else (None))))) e) [ inl k ↦ whole-word (codes "report") w ps a (asked.Run run.Report) q report k.0 k.1 h | inr e ↦ at-facts e ]

    at-check : (if bytes_eq w (codes "check") then Some (position.Done (asked.Run run.Check)) else (if bytes_eq w (codes "report") then Some (position.Done (asked.Run run.Report)) else (if bytes_eq w (codes "facts") then Some (position.Done (asked.Run run.Facts)) else (if bytes_eq w (codes "fix") then Some (position.Done (asked.Run run.Fix)) else (if bytes_eq w (codes "gen") then Some (position.Counting command.Gen) else (if bytes_eq w (codes "load") then Some (position.Counting command.Load) else (None))))))) ≡ Some q → IsCommand (w ∷ ps) a
    at-check e = elim (choose (bytes_eq w (codes "check")) (position.Done (asked.Run run.Check)) q (if bytes_eq w (codes "report") then Some (position.Done (asked.Run run.Report)) else (if bytes_eq w (codes "facts") then Some (position.Done (asked.Run run.Facts)) else (if bytes_eq w (codes "fix") then Some (position.Done (asked.Run run.Fix)) else (if bytes_eq w (codes "gen") then Some (position.Counting command.Gen) else (if bytes_eq w (codes "load") then Some (position.Counting command.Load) else (None)))))) e) [ inl k ↦ whole-word (codes "check") w ps a (asked.Run run.Check) q check k.0 k.1 h | inr e ↦ at-report e ]

    at-session : (if bytes_eq w (codes "session") then Some (position.Done asked.Session) else (if bytes_eq w (codes "check") then Some (position.Done (asked.Run run.Check)) else (if bytes_eq w (codes "report") then Some (position.Done (asked.Run run.Report)) else (if bytes_eq w (codes "facts") then Some (position.Done (asked.Run run.Facts)) else (if bytes_eq w (codes "fix") then Some (position.Done (asked.Run run.Fix)) else (if bytes_eq w (codes "gen") then Some (position.Counting command.Gen) else (if bytes_eq w (codes "load") then Some (position.Counting command.Load) else (None)))))))) ≡ Some q → IsCommand (w ∷ ps) a
    at-session e = elim (choose (bytes_eq w (codes "session")) (position.Done asked.Session) q (if bytes_eq w (codes "check") then Some (position.Done (asked.Run run.Check)) else (if bytes_eq w (codes "report") then Some (position.Done (asked.Run run.Report)) else (if bytes_eq w (codes "facts") then Some (position.Done (asked.Run run.Facts)) else (if bytes_eq w (codes "fix") then Some (position.Done (asked.Run run.Fix)) else (if bytes_eq w (codes "gen") then Some (position.Counting command.Gen) else (if bytes_eq w (codes "load") then Some (position.Counting command.Load) else (None))))))) e) [ inl k ↦ whole-word (codes "session") w ps a asked.Session q session k.0 k.1 h | inr e ↦ at-check e ]

count-back : (c : Counted) (n : ℕ) (ps : List (List ℕ)) (a : Asked) → Leads (done_with c n) ps a → (ps ≡ []) × (done_with c n ≡ position.Done a)
count-back command.Gen n ps a h = (h.0, ap position.Done (sym h.1))
count-back command.Load n ps a h = (h.0, ap position.Done (sym h.1))

pub leads-back : (p : Position) (w : List ℕ) (ps : List (List ℕ)) (q : Position) (a : Asked) → next_position p w ≡ Some q → Leads q ps a → Leads p (w ∷ ps) a
leads-back position.Start w ps q a e h = leads-first w ps q a e h
leads-back (position.Counting c) w ps q a e h = at (numeral 1000 w) refl e
  where
    at : (o : Option ℕ) → numeral 1000 w ≡ o → option_map (done_with c) o ≡ Some q → Leads (position.Counting c) (w ∷ ps) a
    at None is e = absurd (none-some q e)
    at (Some n) is e =
        let s : done_with c n ≡ q = same_Some (done_with c n) q e in
        let P : Position → Type 0 = λ z. Leads z ps a in
        let k = count-back c n ps a (subst P (sym s) h) in
        let m = numeral-is 1000 n w is in
        (n, ap (λ z. z ∷ ps) m.0 ∙ ap (λ z. decimal n ∷ z) k.0, m.1, m.2, k.1)
leads-back (position.Done b) w ps q a e h = absurd (none-some q e)

-- the end
same-words : (call : Words) (a : Asked) (n s : ℕ) (j : Bool) → call.asked ≡ a → call.workers ≡ n → call.only ≡ s → call.json ≡ j → record { asked = a; workers = n; only = s; json = j } ≡ call
same-words call a n s j ea en es ej = sym (λ i. record { asked = ea i; workers = en i; only = es i; json = ej i })

no-command : (a : Asked) (ps : List (List ℕ)) → ps ≡ [] → IsCommand ps a → ⊥
no-command a _ e session = let l = ap length e in omega (arith, l)
no-command a _ e check = let l = ap length e in omega (arith, l)
no-command a _ e report = let l = ap length e in omega (arith, l)
no-command a _ e facts = let l = ap length e in omega (arith, l)
no-command a _ e fix = let l = ap length e in omega (arith, l)
no-command a _ e (gen n low high) = let l = ap length e in omega (arith, l)
no-command a _ e (load n low high) = let l = ap length e in omega (arith, l)

fills-end : (w : Option ℕ) (n : ℕ) → FillsWorkers w None n → n ≡ unwrap_or w 1
fills-end None n h = h
fills-end (Some m) n h = h.1

fills-only : (u : Option ℕ) (n : ℕ) → FillsOnly u None n → n ≡ unwrap_or u 2046
fills-only None n h = h
fills-only (Some m) n h = h.1

fills-json : (j k : Bool) → FillsJson j false k → k ≡ j
fills-json true k h = h.1
fills-json false k h = h

end-of : (x : Expects) (p : Position) (w u : Option ℕ) (j : Bool) (call : Words) → Leads p [] call.asked → FillsWorkers w None call.workers → FillsOnly u None call.only → FillsJson j false call.json → whole_at p (draft x p w u j) ≡ Some call
end-of x position.Start w u j call h fw fu fj = absurd (no-command call.asked [] refl h)
end-of x (position.Counting c) w u j call h fw fu fj = absurd (let l : length {A = List ℕ} [] ≡ length (decimal h.0 ∷ []) = ap length h.1 in omega (arith, l))
end-of x (position.Done b) w u j call h fw fu fj = ap Some (same-words call b (unwrap_or w 1) (unwrap_or u 2046) j h.1 (fills-end w call.workers fw) (fills-only u call.only fu) (fills-json j call.json fj))

-- the other way
record End (p : Position) (w u : Option ℕ) (j : Bool) (call : Words) : Type 0 where
  pub place : Leads p [] call.asked
  pub workers : FillsWorkers w None call.workers
  pub only : FillsOnly u None call.only
  pub json : FillsJson j false call.json

end-workers : (w : Option ℕ) → FillsWorkers w None (unwrap_or w 1)
end-workers None = refl
end-workers (Some m) = (refl, refl)

end-only : (u : Option ℕ) → FillsOnly u None (unwrap_or u 2046)
end-only None = refl
end-only (Some m) = (refl, refl)

end-json : (j : Bool) → FillsJson j false j
end-json true = (refl, refl)
end-json false = refl

end-back : (x : Expects) (p : Position) (w u : Option ℕ) (j : Bool) (call : Words) → whole_at p (draft x p w u j) ≡ Some call → End p w u j call
end-back x position.Start w u j call e = absurd (none-some call e)
end-back x (position.Counting c) w u j call e = absurd (none-some call e)
end-back x (position.Done b) w u j call e =
    let P : Words → Type 0 = λ z. End (position.Done b) w u j z in
    subst P (same_Some _ call e) (record { place = (refl, refl); workers = end-workers w; only = end-only u; json = end-json j })

-- after `--`
plain-run : (ws : List (List ℕ)) (p : Position) (w u : Option ℕ) (j : Bool) (call : Words) → Leads p ws call.asked → FillsWorkers w None call.workers → FillsOnly u None call.only → FillsJson j false call.json → run_on (Some (draft expects.Plain p w u j)) ws ≡ Some call
plain-run [] p w u j call h fw fu fj = end-of expects.Plain p w u j call h fw fu fj
plain-run (v ∷ ws) p w u j call h fw fu fj =
    let k = leads-step p v ws call.asked h in
    ap (λ o. run_on (option_map (λ q. draft expects.Plain q w u j) o) ws) k.1 ∙ plain-run ws k.0 w u j call k.2 fw fu fj

record PlainEnd (ws : List (List ℕ)) (p : Position) (w u : Option ℕ) (j : Bool) (call : Words) : Type 0 where
  pub place : Leads p ws call.asked
  pub workers : FillsWorkers w None call.workers
  pub only : FillsOnly u None call.only
  pub json : FillsJson j false call.json

plain-back : (ws : List (List ℕ)) (p : Position) (w u : Option ℕ) (j : Bool) (call : Words) → run_on (Some (draft expects.Plain p w u j)) ws ≡ Some call → PlainEnd ws p w u j call
plain-back [] p w u j call e = let k = end-back expects.Plain p w u j call e in record { place = k.place; workers = k.workers; only = k.only; json = k.json }
plain-back (v ∷ ws) p w u j call e = at (next_position p v) refl e (λ q. plain-back ws q w u j call)
  where
    at : (o : Option Position) → next_position p v ≡ o → run_on (option_map (λ q. draft expects.Plain q w u j) o) ws ≡ Some call → ((q : Position) → run_on (Some (draft expects.Plain q w u j)) ws ≡ Some call → PlainEnd ws q w u j call) → PlainEnd (v ∷ ws) p w u j call
    at None is e more = absurd (none-some call e)
    at (Some q) is e more = let k = more q e in record { place = leads-back p v ws q call.asked is k.place; workers = k.workers; only = k.only; json = k.json }

-- the value of an option
workers-step : (x : Expects) (p : Position) (w u : Option ℕ) (j : Bool) (v : List ℕ) (n : ℕ) → dashed v ≡ false → FillsWorkers w (Some v) n → set_value option.Workers v (draft x p w u j) ≡ Some (draft expects.Any p (Some n) u j)
workers-step x p None u j v n d h =
    ap (λ b. cond b None (with_workers v (draft x p None u j))) d
    ∙ ap (λ z. option_map (λ n. draft expects.Any p (Some n) u j) (numeral 64 z)) h.0
    ∙ ap (option_map (λ n. draft expects.Any p (Some n) u j)) (numeral-decimal 64 n h.1 h.2 (omega (arith, h.2)))
workers-step x p (Some m) u j v n d h = absurd (none-some v (sym h.0))

only-step : (x : Expects) (p : Position) (w u : Option ℕ) (j : Bool) (v : List ℕ) (n : ℕ) → dashed v ≡ false → FillsOnly u (Some v) n → set_value option.Only v (draft x p w u j) ≡ Some (draft expects.Any p w (Some n) j)
only-step x p w None j v n d h =
    ap (λ b. cond b None (with_only v (draft x p w None j))) d
    ∙ ap (option_map (λ n. draft expects.Any p w (Some n) j)) (set-named v n h)
only-step x p w (Some m) j v n d h = absurd (none-some v (sym h.0))

at_kind : (k : WordKind) (w : List ℕ) (ws : List (List ℕ)) (d : Draft) → kind_of w ≡ k → run_on (any_word w d) ws ≡ run_on (any_kind k w d) ws
at_kind k w ws d e = ap (λ z. run_on (any_kind z w d) ws) e

-- what the grammar reads, the machine reads
pub complete : (ws ps : List (List ℕ)) (g : Given) → Takes ws ps g → (p : Position) (w u : Option ℕ) (j : Bool) (call : Words) → Leads p ps call.asked → FillsWorkers w g.workers call.workers → FillsOnly u g.only call.only → FillsJson j g.json call.json
    → run_on (Some (draft expects.Any p w u j)) ws ≡ Some call
complete _ _ _ no_words p w u j call h fw fu fj = end-of expects.Any p w u j call h fw fu fj
complete _ _ _ (dashes_then v ws e) p w u j call h fw fu fj = at_kind dashes v ws (draft expects.Any p w u j) e ∙ plain-run ws p w u j call h fw fu fj
complete _ _ _ (plain_word v ws ps g e more) p w u j call h fw fu fj =
    let k = leads-step p v ps call.asked h in
    at_kind plain v ws (draft expects.Any p w u j) e
    ∙ ap (λ o. run_on (option_map (λ q. draft expects.Any q w u j) o) ws) k.1
    ∙ complete ws ps g more k.0 w u j call k.2 fw fu fj
complete _ _ _ (json_flag v ws ps g e fresh more) p w u true call h fw fu fj = absurd (let f : ◌≡◌ {A = Bool} true false = fj.0 in cc)
complete _ _ _ (json_flag v ws ps g e fresh more) p w u false call h fw fu fj =
    at_kind flag v ws (draft expects.Any p w u false) e ∙ complete ws ps g more p w u true call h fw fu (fresh, fj)
complete _ _ _ (value_next option.Workers o v ws ps g e d fresh more) p w u j call h fw fu fj =
    at_kind (named option.Workers) o (v ∷ ws) (draft expects.Any p w u j) e
    ∙ ap (λ z. run_on z ws) (workers-step (expects.Value option.Workers) p w u j v call.workers d fw)
    ∙ complete ws ps g more p (Some call.workers) u j call h (fresh, refl) fu fj
complete _ _ _ (value_next option.Only o v ws ps g e d fresh more) p w u j call h fw fu fj =
    at_kind (named option.Only) o (v ∷ ws) (draft expects.Any p w u j) e
    ∙ ap (λ z. run_on z ws) (only-step (expects.Value option.Only) p w u j v call.only d fu)
    ∙ complete ws ps g more p w (Some call.only) j call h fw (fresh, refl) fj
complete _ _ _ (value_within option.Workers o v ws ps g e d fresh more) p w u j call h fw fu fj =
    at_kind (given option.Workers v) o ws (draft expects.Any p w u j) e
    ∙ ap (λ z. run_on z ws) (workers-step expects.Any p w u j v call.workers d fw)
    ∙ complete ws ps g more p (Some call.workers) u j call h (fresh, refl) fu fj
complete _ _ _ (value_within option.Only o v ws ps g e d fresh more) p w u j call h fw fu fj =
    at_kind (given option.Only v) o ws (draft expects.Any p w u j) e
    ∙ ap (λ z. run_on z ws) (only-step expects.Any p w u j v call.only d fu)
    ∙ complete ws ps g more p w (Some call.only) j call h fw (fresh, refl) fj

-- what the machine reads behind a value, with this value before it
record Set (o : Valued) (v : List ℕ) (p : Position) (w u : Option ℕ) (j : Bool) (ws : List (List ℕ)) (call : Words) : Type 0 where
  pub undashed : dashed v ≡ false
  pub plains : List (List ℕ)
  pub options : Given
  pub takes : Takes ws plains options
  pub fresh : text_of o options ≡ None
  pub place : Leads p plains call.asked
  pub workers : FillsWorkers w (with_text o v options).workers call.workers
  pub only : FillsOnly u (with_text o v options).only call.only
  pub json : FillsJson j (with_text o v options).json call.json

abbrev More : Position → Bool → List (List ℕ) → Words → Type 0
More p j ws call = (w u : Option ℕ) → run_on (Some (draft expects.Any p w u j)) ws ≡ Some call → Reads p w u j ws call

set-back : (o : Valued) (v : List ℕ) (x : Expects) (p : Position) (w u : Option ℕ) (j : Bool) (ws : List (List ℕ)) (call : Words) → More p j ws call → run_on (set_value o v (draft x p w u j)) ws ≡ Some call → Set o v p w u j ws call
set-back o v x p w u j ws call more e = at (dashed v) refl e
  where
    workers_at : dashed v ≡ false → (w : Option ℕ) (o : Option ℕ) → numeral 64 v ≡ o → run_on (cond (is_some w) None (option_map (λ n. draft expects.Any p (Some n) u j) o)) ws ≡ Some call → Set option.Workers v p w u j ws call
    workers_at d (Some m) o is e = absurd (none-some call e)
    workers_at d None None is e = absurd (none-some call e)
    workers_at d None (Some n) is e =
        let k = more (Some n) u e in
        let m = numeral-is 64 n v is in
        let s : call.workers ≡ n = k.workers.1 in
        record { undashed = d; plains = k.plains; options = k.options; takes = k.takes; fresh = k.workers.0; place = k.place; workers = (m.0 ∙ ap decimal (sym s), omega (arith, m.1, s), omega (arith, m.2, s)); only = k.only; json = k.json }

    only_at : dashed v ≡ false → (u : Option ℕ) (o : Option ℕ) → set_named v ≡ o → run_on (cond (is_some u) None (option_map (λ n. draft expects.Any p w (Some n) j) o)) ws ≡ Some call → Set option.Only v p w u j ws call
    only_at d (Some m) o is e = absurd (none-some call e)
    only_at d None None is e = absurd (none-some call e)
    only_at d None (Some n) is e =
        let k = more w (Some n) e in
        let s : call.only ≡ n = k.only.1 in
        record { undashed = d; plains = k.plains; options = k.options; takes = k.takes; fresh = k.only.0; place = k.place; workers = k.workers; only = (let P : ℕ → Type 0 = λ z. IsNamed v z in subst P (sym s) (named-set v n is)); json = k.json }

    option_at : (o : Valued) → dashed v ≡ false → run_on (set_at o v (draft x p w u j)) ws ≡ Some call → Set o v p w u j ws call
    option_at option.Workers d e = workers_at d w (numeral 64 v) refl e
    option_at option.Only d e = only_at d u (set_named v) refl e

    at : (b : Bool) → dashed v ≡ b → run_on (cond b None (set_at o v (draft x p w u j))) ws ≡ Some call → Set o v p w u j ws call
    at true d e = absurd (none-some call e)
    at false d e = option_at o d e

set-next : (o : Valued) (name v : List ℕ) (p : Position) (w u : Option ℕ) (j : Bool) (ws : List (List ℕ)) (call : Words) → kind_of name ≡ named o → Set o v p w u j ws call → Reads p w u j (name ∷ v ∷ ws) call
set-next o name v p w u j ws call e s = record { plains = s.plains; options = with_text o v s.options; takes = value_next o name v ws s.plains s.options e s.undashed s.fresh s.takes; place = s.place; workers = s.workers; only = s.only; json = s.json }

set-equals : (o : Valued) (name v : List ℕ) (p : Position) (w u : Option ℕ) (j : Bool) (ws : List (List ℕ)) (call : Words) → kind_of name ≡ given o v → Set o v p w u j ws call → Reads p w u j (name ∷ ws) call
set-equals o name v p w u j ws call e s = record { plains = s.plains; options = with_text o v s.options; takes = value_within o name v ws s.plains s.options e s.undashed s.fresh s.takes; place = s.place; workers = s.workers; only = s.only; json = s.json }

abbrev AnyMore : List (List ℕ) → Words → Type 0
AnyMore ws call = (p : Position) (w u : Option ℕ) (j : Bool) → run_on (Some (draft expects.Any p w u j)) ws ≡ Some call → Reads p w u j ws call

-- a word, where the words behind it, and those behind the next, are read so
word-back : (v : List ℕ) (ws : List (List ℕ)) (call : Words) → AnyMore ws call → ((y : List ℕ) (ys : List (List ℕ)) → ws ≡ y ∷ ys → AnyMore ys call) → AnyMore (v ∷ ws) call
word-back v ws call more after p w u j e = at (kind_of v) refl e
  where
    flag_at : (j : Bool) → kind_of v ≡ flag → run_on (with_json (draft expects.Any p w u j)) ws ≡ Some call → Reads p w u j (v ∷ ws) call
    flag_at true k e = absurd (none-some call e)
    flag_at false k e =
        let r = more p w u true e in
        record { plains = r.plains; options = record r.options { json = true }; takes = json_flag v ws r.plains r.options k r.json.0 r.takes; place = r.place; workers = r.workers; only = r.only; json = r.json.1 }

    plain_at : (o : Option Position) → next_position p v ≡ o → kind_of v ≡ plain → run_on (option_map (λ q. draft expects.Any q w u j) o) ws ≡ Some call → Reads p w u j (v ∷ ws) call
    plain_at None is k e = absurd (none-some call e)
    plain_at (Some q) is k e =
        let r = more q w u j e in
        record { plains = v ∷ r.plains; options = r.options; takes = plain_word v ws r.plains r.options k r.takes; place = leads-back p v r.plains q call.asked is r.place; workers = r.workers; only = r.only; json = r.json }

    named_at : (o : Valued) (left : List (List ℕ)) → ws ≡ left → kind_of v ≡ named o → run_on (Some (draft (expects.Value o) p w u j)) left ≡ Some call → Reads p w u j (v ∷ left) call
    named_at o [] is k e = absurd (none-some call e)
    named_at o (y ∷ ys) is k e = set-next o v y p w u j ys call k (set-back o y (expects.Value o) p w u j ys call (λ w u. after y ys is p w u j) e)

    at : (k : WordKind) → kind_of v ≡ k → run_on (any_kind k v (draft expects.Any p w u j)) ws ≡ Some call → Reads p w u j (v ∷ ws) call
    at dashes k e =
        let r = plain-back ws p w u j call e in
        record { plains = ws; options = nothing; takes = dashes_then v ws k; place = r.place; workers = r.workers; only = r.only; json = r.json }
    at flag k e = flag_at j k e
    at (named o) k e = named_at o ws refl k e
    at (given o y) k e = set-equals o v y p w u j ws call k (set-back o y expects.Any p w u j ws call (λ w u. more p w u j) e)
    at plain k e = plain_at (next_position p v) refl k e
    at wrong k e = absurd (none-some call e)

-- what the machine reads, the grammar reads: for a list and the list behind its first word
both : (ws : List (List ℕ)) (call : Words) → AnyMore ws call × ((y : List ℕ) (ys : List (List ℕ)) → ws ≡ y ∷ ys → AnyMore ys call)
both [] call = (nothing_left, λ y ys e. absurd (let l : length {A = List ℕ} [] ≡ length (y ∷ ys) = ap length e in omega (arith, l)))
  where
    nothing_left : AnyMore [] call
    nothing_left p w u j e = let k = end-back expects.Any p w u j call e in record { plains = []; options = nothing; takes = no_words; place = k.place; workers = k.workers; only = k.only; json = k.json }
both (v ∷ ws) call = let k = both ws call in (word-back v ws call k.0 k.1, λ y ys e. (let P : List (List ℕ) → Type 0 = λ z. AnyMore z call in let s : ws ≡ ys = cc in subst P s k.0))

pub read-asks : (words : List (List ℕ)) (call : Words) → reading words ≡ Some call → Asks words call
read-asks words call e =
    let r = (both words call).0 position.Start None None false e in
    record { plains = r.plains; options = r.options; takes = r.takes; command = r.place; workers = r.workers; only = r.only; json = r.json }

pub asks-read : (words : List (List ℕ)) (call : Words) → Asks words call → reading words ≡ Some call
asks-read words call h = complete words h.plains h.options h.takes position.Start None None false call h.command h.workers h.only h.json

-- one word that can't come
pub read-none : (d : Draft) (ws : List (List ℕ)) (i : ℕ) → i < length ws → None ≡ step d (get_or ws i []) → None ≡ read d (drop i ws)
read-none d ws i lt e = ap (option_and_then (λ f. read f (drop (suc i) ws))) e ∙ ap (read d) (sym (drop-cons ws i [] lt))

-- one word more
pub read-more : (d e : Draft) (ws : List (List ℕ)) (i : ℕ) → i < length ws → Some e ≡ step d (get_or ws i []) → read d (drop i ws) ≡ read e (drop (i + 1) ws)
read-more d e ws i lt s =
    let n : suc i ≡ i + 1 = omega arith in
    ap (read d) (drop-cons ws i [] lt) ∙ ap (option_and_then (λ f. read f (drop (suc i) ws))) (sym s) ∙ ap (λ k. read e (drop k ws)) n

-- no word more
pub read-end : (d : Draft) (ws : List (List ℕ)) (i : ℕ) → length ws ≤ i → read d (drop i ws) ≡ Some d
read-end d ws i le = ap (read d) (drop_all i ws le)
