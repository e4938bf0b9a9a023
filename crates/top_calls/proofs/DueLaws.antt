-- What is due is one, and what was seen is the beginning of it.
use Rattle.std.proofs.Common.{◌≡◌, ℕ, ◌+◌, List, [], ◌∷◌, ◌++◌, length, sym, ap, ◌∙◌, append_assoc, subst, Option, Some}
use Rattle.std.proofs.lemmas.List.{append-nil}
use Rattle.tree_runs.specs.Reports.{Tree}
use Rattle.top_calls.specs.declared.options.ToolOptions.{ToolOptions}
use Rattle.scripts.specs.declared.halt.Halt.{Halt}
use Rattle.scripts.specs.Reading.{IsHalt, IsPrefix, spell}
use Rattle.top_calls.specs.Standing.{Standing, start_at}
use Rattle.top_calls.specs.Deeds.{Leads}
use Rattle.top_calls.specs.Ends.{line_of}
use Rattle.top_calls.specs.Outcome.{Seen, seen_at, Arrives, offset_of, said}
use Rattle.top_calls.specs.Due.{IsLawfulKept, Due}
use Rattle.top_calls.proofs.RunsLaws.{RunLaws}
use Rattle.scripts.proofs.ReadLaws.{Stops, same-read, halt-stops, one_halt}
use Rattle.top_calls.proofs.CourseLaws.{one_course, one_opening, opens-honest}

pub IsPrefix-trans : (x y z : List ℕ) → IsPrefix x y → IsPrefix y z → IsPrefix x z
IsPrefix-trans x y z a b = (a.0 ++ b.0, sym (append_assoc x a.0 b.0) ∙ ap (λ w. w ++ b.0) a.1 ∙ b.1)

pub IsPrefix-same : (x y : List ℕ) → x ≡ y → IsPrefix x y
IsPrefix-same x y e = ([], append-nil x ∙ e)

pub IsPrefix-after : (w x y : List ℕ) → IsPrefix x y → IsPrefix (w ++ x) (w ++ y)
IsPrefix-after w x y p = (p.0, append_assoc w x p.0 ∙ ap (λ z. w ++ z) p.1)

-- two arrivals at one place
pub record SameArrival (n m : Standing) (x y u v : List ℕ) (i j : ℕ) : Type 0 where
  pub now : n ≡ m
  pub rest : x ≡ y
  pub said : u ≡ v
  pub offset : i ≡ j

pub record SameReadings (x y : List ℕ) (i j : ℕ) : Type 0 where
  pub rest : x ≡ y
  pub offset : i ≡ j

pub same-readings : (o : ToolOptions) (t : Tree) (k : Option (List ℕ)) (bytes : List ℕ) (a b : Arrives o t k bytes) → Stops (offset_of a) a.rest → Stops (offset_of b) b.rest → SameReadings a.rest b.rest (offset_of a) (offset_of b)
same-readings o t k bytes a b g h = let s = same-read a.read b.read g h in record { rest = s.rest; offset = ap (λ z. length (spell z)) s.commands }

pub same-arrival : RunLaws → (o : ToolOptions) (t : Tree) (k : Option (List ℕ)) (bytes : List ℕ) → IsLawfulKept k → (a b : Arrives o t k bytes) → Stops (offset_of a) a.rest → Stops (offset_of b) b.rest → SameArrival a.now b.now a.rest b.rest (said a) (said b) (offset_of a) (offset_of b)
same-arrival law o t k bytes l a b g h =
    let s = same-read a.read b.read g h in
    let e = one_opening law k a.cache b.cache a.greeting b.greeting a.opens b.opens in
    let w : Leads o a.commands (start_at t a.cache k) b.now b.replies = subst (λ z. Leads o a.commands (start_at t z k) b.now b.replies) (sym e.cache) (subst (λ z. Leads o z (start_at t b.cache k) b.now b.replies) (sym s.commands) b.leads) in
    let c = one_course law o a.commands (start_at t a.cache k) a.now b.now a.replies b.replies (opens-honest law k a.cache a.greeting l a.opens) a.leads w in
    record { now = c.now; rest = s.rest; said = ap (λ z. z ++ a.replies) e.greeting ∙ ap (λ z. b.greeting ++ z) c.reply; offset = ap (λ z. length (spell z)) s.commands }

pub one_reason : (o : ToolOptions) (k : Option (List ℕ)) (bytes : List ℕ) (x y : Seen) (h j : Halt) → Due o k bytes x h → Due o k bytes y j → h ≡ j
one_reason o k bytes x y h j a b =
    let s = same-readings o [] k bytes a.arrives b.arrives (halt-stops h (offset_of a.arrives) a.arrives.rest a.halts) (halt-stops j (offset_of b.arrives) b.arrives.rest b.halts) in
    let b' : IsHalt j (offset_of a.arrives) a.arrives.rest (Some []) = rw (s.rest, s.offset) b.halts in
    one_halt h j (offset_of a.arrives) a.arrives.rest a.halts b'

pub one_due : RunLaws → (o : ToolOptions) (k : Option (List ℕ)) (bytes : List ℕ) (x y : Seen) (h j : Halt) → IsLawfulKept k → Due o k bytes x h → Due o k bytes y j → x ≡ y
one_due law o k bytes x y h j l a b =
    let s = same-arrival law o [] k bytes l a.arrives b.arrives (halt-stops h (offset_of a.arrives) a.arrives.rest a.halts) (halt-stops j (offset_of b.arrives) b.arrives.rest b.halts) in
    let r = one_reason o k bytes x y h j a b in
    a.sees ∙ ap (λ z. seen_at z (said a.arrives ++ line_of h (offset_of a.arrives))) s.now ∙ ap (λ z. seen_at b.arrives.now (z ++ line_of h (offset_of a.arrives))) s.said ∙ ap (λ z. seen_at b.arrives.now (said b.arrives ++ line_of z (offset_of a.arrives))) r ∙ ap (λ z. seen_at b.arrives.now (said b.arrives ++ line_of j z)) s.offset ∙ sym b.sees
