-- The headline of a session, from its course.
use Rattle.std.proofs.Common.{◌≡◌, ◌⊎◌, inl, inr, ℕ, ◌+◌, ◌≤◌, List, [], ◌∷◌, length, get_or, refl, sym, ap, ◌∙◌, arith, Bool, true, false, Option, Some, None, subst}
use Rattle.std.proofs.lemmas.List.{length-append}
use Rattle.std.proofs.lemmas.Option.{same_Some}
use Rattle.std.specs.Io.KnownBytes.{Consumes, Appends}
use Rattle.gv_base.specs.Counts.{Rose, RoseBy}
use Rattle.gv_base.specs.Sources.{SourceView}
use Rattle.gv_base.specs.Sinks.{SinkView}
use Rattle.gv_base.specs.Keepers.{KeeperView}
use Rattle.tree_runs.specs.Reports.{Work}
use Rattle.top_calls.specs.declared.options.ToolOptions.{ToolOptions}
use Rattle.scripts.specs.declared.halt.Halt.{Halt}
use Rattle.scripts.specs.declared.halt.Halt.TheVariants.{Ended, Refused, TooLong}
use Rattle.top_calls.specs.declared.stop.Cut.{Cut}
use Rattle.top_calls.specs.declared.stop.Cut.TheVariants.{Source, Tree, Keeper, Sink, Memory, Stalled, Circle}
use Rattle.top_calls.specs.declared.stop.Stop.{Stop}
use Rattle.top_calls.specs.declared.stop.Stop.TheVariants.{Halted, Broken}
use Rattle.scripts.specs.Reading.{limit, IsHalt, IsPastLimit, spell}
use Rattle.top_calls.specs.Ends.{is_exact, number_of, number_of_halt, number_of_cut, Moment, Fetching, Greeting, Reading, Idle, Running, Writing, Telling, Storing, Lining, may}
use Rattle.top_calls.specs.Outcome.{Seen, Outcome, unopened, greeted, halted, broken, Arrives, offset_of, said, CutAt, IsCauseAt}
use Rattle.top_calls.specs.Due.{IsLawfulKept, GoesOut}
use Rattle.top_calls.specs.Desk.{IsHeld}
use Rattle.top_calls.specs.Turn.{Runs}
use Rattle.top_calls.specs.Headline.{keeper_faults, IsLawfulHeld, IsLeftOff, GoesOutOf, MeetsCircle, Session, Causes, NothingRose, IsComplete}
use Rattle.top_calls.proofs.RunsLaws.{RunLaws}
use Rattle.top_calls.proofs.KeepLaws.{not-allowed}
use Rattle.top_calls.proofs.OutLaws.{arrives-honest, goes-out, outcome-lawful}

-- the table of causes by their numbers
abbrev cuts : List (Option Cut)
cuts = None ∷ None ∷ None ∷ Some Source ∷ Some Tree ∷ Some Keeper ∷ Some Sink ∷ Some Memory ∷ None ∷ None ∷ Some Stalled ∷ None ∷ Some Circle ∷ []

cut-at : (c : Cut) → get_or cuts (number_of_cut c) None ≡ Some c
cut-at Source = refl
cut-at Tree = refl
cut-at Keeper = refl
cut-at Sink = refl
cut-at Memory = refl
cut-at Stalled = refl
cut-at Circle = refl

no-cut-at : (h : Halt) (f : Bool) → get_or cuts (number_of_halt h f) None ≡ None
no-cut-at Ended true = refl
no-cut-at Ended false = refl
no-cut-at Refused f = refl
no-cut-at TooLong f = refl

none-some : (c : Cut) → ◌≡◌ {A = Option Cut} None (Some c) → ⊥
none-some c e = cc

-- a number is one cause's
pub only-cut : (stop : Stop) (c : Cut) → number_of stop ≡ number_of_cut c → stop ≡ Broken c
only-cut (Halted h f) c e = absurd (none-some c (sym (no-cut-at h f) ∙ ap (λ n. get_or cuts n None) e ∙ cut-at c))
only-cut (Broken d) c e = ap Broken (same_Some d c (sym (cut-at d) ∙ ap (λ n. get_or cuts n None) e ∙ cut-at c))

pub too-long-only : (stop : Stop) → number_of stop ≡ 9 → (found : Bool) × (stop ≡ Halted TooLong found)
too-long-only (Halted Ended true) e = absurd (omega arith)
too-long-only (Halted Ended false) e = absurd (omega arith)
too-long-only (Halted Refused f) e = absurd (omega arith)
too-long-only (Halted TooLong f) e = (f, refl)
too-long-only (Broken c) e = absurd (none-some-sym (sym (cut-at c) ∙ ap (λ n. get_or cuts n None) e))
  where
    none-some-sym : ◌≡◌ {A = Option Cut} (Some c) None → ⊥
    none-some-sym x = none-some c (sym x)

pub not-usage : (stop : Stop) → number_of stop ≡ 2 → ⊥
not-usage (Halted Ended true) e = omega arith
not-usage (Halted Ended false) e = omega arith
not-usage (Halted Refused f) e = omega arith
not-usage (Halted TooLong f) e = omega arith
not-usage (Broken c) e = none-some c (sym (sym (cut-at c) ∙ ap (λ n. get_or cuts n None) e))

pub broken-cut : (c d : Cut) (stop : Stop) → stop ≡ Broken c → stop ≡ Broken d → c ≡ d
broken-cut c d stop x y = let z : ◌≡◌ {A = Stop} (Broken c) (Broken d) = sym x ∙ y in cc

pub never-both : (c : Cut) (h : Halt) (f : Bool) (stop : Stop) → stop ≡ Broken c → stop ≡ Halted h f → ⊥
never-both c h f stop x y = let z : ◌≡◌ {A = Stop} (Broken c) (Halted h f) = sym x ∙ y in cc

same-halt : (h j : Halt) (f g : Bool) (stop : Stop) → stop ≡ Halted h f → stop ≡ Halted j g → h ≡ j
same-halt h j f g stop x y = let z : ◌≡◌ {A = Stop} (Halted h f) (Halted j g) = sym x ∙ y in cc

false-true : {X : Type 0} → false ≡ true → X
false-true e = absurd (let x : ◌≡◌ {A = Bool} false true = e in cc)

-- no session ends by a fault of a tree
tree-moment : (m : Moment) (o : ToolOptions) (k : Option (List ℕ)) (given : List ℕ) (left : Option (List ℕ)) (seen : Seen) (a : Arrives o [] k given) → may Tree m ≡ true → CutAt m o a.now (offset_of a) a.rest (said a) left seen → ⊥
tree-moment Reading o k given left seen a t c = c
tree-moment Writing o k given left seen a t c = c
tree-moment Fetching o k given left seen a t c = c
tree-moment Greeting o k given left seen a t c = c
tree-moment Idle o k given left seen a t c = false-true t
tree-moment Running o k given left seen a t c = false-true t
tree-moment Telling o k given left seen a t c = false-true t
tree-moment Storing o k given left seen a t c = false-true t
tree-moment Lining o k given left seen a t c = false-true t

never-tree : (o : ToolOptions) (k : Option (List ℕ)) (given : List ℕ) (left : Option (List ℕ)) (seen : Seen) (stop : Stop) → Outcome o k given left seen stop → stop ≡ Broken Tree → ⊥
never-tree o k given left seen stop (unopened cut s allowed g e) y = not-allowed cut Tree Fetching refl allowed (broken-cut cut Tree stop s y)
never-tree o k given left seen stop (greeted cut s allowed g c l p q r e) y = not-allowed cut Tree Greeting refl allowed (broken-cut cut Tree stop s y)
never-tree o k given left seen stop (halted h s a x e) y = never-both Tree h seen.found stop y s
never-tree o k given left seen stop (broken cut s a m allowed i c) y = tree-moment m o k given left seen a (subst (λ z. may z m ≡ true) (broken-cut cut Tree stop s y) allowed) c

-- a script that is too long has more bytes than its limit
too-long-given : (o : ToolOptions) (k : Option (List ℕ)) (given : List ℕ) (left : Option (List ℕ)) (seen : Seen) (stop : Stop) (f : Bool) → Outcome o k given left seen stop → stop ≡ Halted TooLong f → limit + 1 ≤ length given
too-long-given o k given left seen stop f (unopened cut s allowed g e) y = absurd (never-both cut TooLong f stop s y)
too-long-given o k given left seen stop f (greeted cut s allowed g c l p q r e) y = absurd (never-both cut TooLong f stop s y)
too-long-given o k given left seen stop f (broken cut s a m allowed i c) y = absurd (never-both cut TooLong f stop s y)
too-long-given o k given left seen stop f (halted h s a x e) y =
    let p : IsPastLimit (offset_of a) a.rest = subst (λ z. IsHalt z (offset_of a) a.rest left) (same-halt h TooLong seen.found f stop s y) x in
    let l : length given ≡ offset_of a + length a.rest = ap length a.read.parts ∙ length-append (spell a.commands) a.rest in
    let r : length a.rest ≡ length p.first + length p.more = ap length p.parts ∙ length-append p.first p.more in
    let full = p.full in let some = p.surplus in
    omega arith

RoseBy-same : (n m a b : ℕ) → n ≤ m → m ≤ n → RoseBy m a b → RoseBy n a b
RoseBy-same n m a b h w k = let e : m ≡ n = omega arith in subst (λ z. RoseBy z a b) e k

-- where rules go in a circle
meets-circle : RunLaws → (o : ToolOptions) (k : Option (List ℕ)) (given : List ℕ) (left : Option (List ℕ)) (seen : Seen) (stop : Stop) → Outcome o k given left seen stop → IsLawfulKept k → stop ≡ Broken Circle → MeetsCircle o k given
meets-circle law o k given left seen stop (unopened cut s allowed g e) l y = absurd (not-allowed cut Circle Fetching refl allowed (broken-cut cut Circle stop s y))
meets-circle law o k given left seen stop (greeted cut s allowed g c gr p op pre e) l y = absurd (not-allowed cut Circle Greeting refl allowed (broken-cut cut Circle stop s y))
meets-circle law o k given left seen stop (halted h s a x e) l y = absurd (never-both Circle h seen.found stop y s)
meets-circle law o k given left seen stop (broken cut s a m allowed cause c) l y =
    let there : IsCauseAt Circle a.now (offset_of a) a.rest = subst (λ z. IsCauseAt z a.now (offset_of a) a.rest) (broken-cut cut Circle stop s y) cause in
    record { arrives = a; circular = there (arrives-honest law o [] k given l a) }

goes-out-of : RunLaws → (o : ToolOptions) (k : Option (List ℕ)) (left left' : Option (List ℕ)) (given : List ℕ) (seen : Seen) (stop : Stop) → Consumes left left' given → Outcome o k given left' seen stop → GoesOutOf o k left seen stop
goes-out-of law o k None left' given seen stop c out = tt
goes-out-of law o k (Some script) None given seen stop c out = absurd c
goes-out-of law o k (Some script) (Some rest) given seen stop c out = subst (λ z. GoesOut o k z seen stop) (sym c) (goes-out law o k given rest seen stop out)

pub Session-of : RunLaws → (o : ToolOptions) (a b : SourceView) (x y : SinkView) (h i : KeeperView) (k l : Work) (stop : Stop) (n : ℕ) → Runs o a b x y k l h.kept i.kept stop → n ≡ number_of stop → Session o a b x y h i k l n
Session-of law o a b x y h i k l stop n r e = record {
  kept = r.kept;
  found = r.held_is;
  given = r.given;
  takes = r.takes;
  counts = r.counts;
  within = r.within;
  seen = r.ended.seen;
  says = subst (λ z. Appends x.held y.held z) r.ended.out_is r.says;
  holds = r.ended.holds;
  stop = stop;
  number = e;
  work = r.ended.work;
  outcome = r.ended.outcome;
  circle = meets-circle law o r.kept r.given b.left r.ended.seen stop r.ended.outcome;
  due = goes-out-of law o r.kept a.left b.left r.given r.ended.seen stop r.takes r.ended.outcome;
}

-- the causes of the statuses, from those of the stops
pub Causes-of : (o : ToolOptions) (a b : SourceView) (x y : SinkView) (h i : KeeperView) (k l : Work) (stop : Stop) (n : ℕ) → Runs o a b x y k l h.kept i.kept stop → n ≡ number_of stop → (stop ≡ Broken Source → Rose a.faults b.faults) → (stop ≡ Broken Keeper → Rose (keeper_faults h) (keeper_faults i)) → (stop ≡ Broken Sink → Rose x.faults y.faults) → (stop ≡ Broken Stalled → Rose x.stalls y.stalls) → Causes a b x y h i n
Causes-of o a b x y h i k l stop n r e source keeper sink stalled = record {
  source_fault = λ z. source (only-cut stop Source (sym e ∙ z));
  keeper_fault = λ z. keeper (only-cut stop Keeper (sym e ∙ z));
  sink_fault = λ z. sink (only-cut stop Sink (sym e ∙ z));
  sink_stuck = λ z. stalled (only-cut stop Stalled (sym e ∙ z));
  too_long = λ z. (let t = too-long-only stop (sym e ∙ z) in RoseBy-same (limit + 1) (length r.given) a.given b.given (too-long-given o r.kept r.given b.left r.ended.seen stop t.0 r.ended.outcome t.1) r.within r.counts);
  not_usage = λ z. not-usage stop (sym e ∙ z);
  not_tree = λ z. never-tree o r.kept r.given b.left r.ended.seen stop r.ended.outcome (only-cut stop Tree (sym e ∙ z));
}

-- status 9 comes only where more than the limit was given
pub session-long : (o : ToolOptions) (a b : SourceView) (x y : SinkView) (h i : KeeperView) (k l : Work) (n : ℕ) → Session o a b x y h i k l n → n ≡ 9 → RoseBy (limit + 1) a.given b.given
session-long o a b x y h i k l n s z =
    let t = too-long-only s.stop (sym s.number ∙ z) in
    RoseBy-same (limit + 1) (length s.given) a.given b.given (too-long-given o s.kept s.given b.left s.seen s.stop t.0 s.outcome t.1) s.within s.counts

pub lawful-kept : (held : Option (Option (List ℕ))) (kept : Option (List ℕ)) → IsHeld held kept → IsLawfulKept kept → IsLawfulHeld held
lawful-kept None kept h l = tt
lawful-kept (Some k) kept h l = subst IsLawfulKept (sym h) l

pub lawful-of : RunLaws → (o : ToolOptions) (a b : SourceView) (x y : SinkView) (h i : Option (Option (List ℕ))) (k l : Work) (stop : Stop) → Runs o a b x y k l h i stop → (kept : Option (List ℕ)) → h ≡ Some kept → IsLawfulKept kept → IsLawfulHeld i
lawful-of law o a b x y h i k l stop r kept e w =
    let t : IsHeld (Some kept) r.kept = subst (λ z. IsHeld z r.kept) e r.held_is in
    lawful-kept i r.ended.seen.kept r.ended.holds (outcome-lawful law o r.kept r.given b.left r.ended.seen stop (subst IsLawfulKept t w) r.ended.outcome)

same-found : (h j : Halt) (f g : Bool) (stop : Stop) → stop ≡ Halted h f → stop ≡ Halted j g → g ≡ f
same-found h j f g stop x y = let z : ◌≡◌ {A = Stop} (Halted h f) (Halted j g) = sym x ∙ y in cc

-- what is found is what is seen
found-of : (o : ToolOptions) (k : Option (List ℕ)) (given : List ℕ) (left : Option (List ℕ)) (seen : Seen) (stop : Stop) (j : Halt) (f : Bool) → Outcome o k given left seen stop → stop ≡ Halted j f → f ≡ seen.found
found-of o k given left seen stop j f (unopened cut s allowed g e) y = absurd (never-both cut j f stop s y)
found-of o k given left seen stop j f (greeted cut s allowed g c l p q r e) y = absurd (never-both cut j f stop s y)
found-of o k given left seen stop j f (broken cut s a m allowed i c) y = absurd (never-both cut j f stop s y)
found-of o k given left seen stop j f (halted h s a x e) y = same-found h j seen.found f stop s y

-- where nothing rose, all that is due is seen, or memory was wanting, or rules go in a circle
pub complete-of : (o : ToolOptions) (a b : SourceView) (x y : SinkView) (h i : KeeperView) (k l : Work) (n : ℕ) → Session o a b x y h i k l n → Causes a b x y h i n → NothingRose a b x y h i
    → ((script : List ℕ) → a.left ≡ Some script → IsComplete o script a b x y h i k l n) ⊎ IsLeftOff n
complete-of o a b x y h i k l n s c w = go s.stop refl
  where
    due : (script : List ℕ) → a.left ≡ Some script → GoesOut o s.kept script s.seen s.stop
    due script e = subst (λ z. GoesOutOf o s.kept z s.seen s.stop) e s.due

    number : (t : Stop) → s.stop ≡ t → n ≡ number_of t
    number t p = s.number ∙ ap number_of p

    whole : (j : Halt) (f : Bool) → s.stop ≡ Halted j f → f ≡ s.seen.found → (script : List ℕ) → a.left ≡ Some script → IsComplete o script a b x y h i k l n
    whole j f p q script e = record {
      kept = s.kept;
      found = s.found;
      seen = s.seen;
      halt = j;
      due = (due script e).due j (p ∙ ap (Halted j) q);
      number = number (Halted j s.seen.found) (p ∙ ap (Halted j) q);
      says = s.says;
      holds = s.holds;
      loads = λ z. (s.work z).loads_all (ap is_exact p);
      runs = λ z. (s.work z).runs_all (ap is_exact p);
    }

    go : (t : Stop) → s.stop ≡ t → ((script : List ℕ) → a.left ≡ Some script → IsComplete o script a b x y h i k l n) ⊎ IsLeftOff n
    go (Halted j f) p = inl (whole j f p (found-of o s.kept s.given b.left s.seen s.stop j f s.outcome p))
    go (Broken Source) p = absurd (w.source_faults (c.source_fault (number (Broken Source) p)))
    go (Broken Tree) p = absurd (c.not_tree (number (Broken Tree) p))
    go (Broken Keeper) p = absurd (w.keeper_faults_same (c.keeper_fault (number (Broken Keeper) p)))
    go (Broken Sink) p = absurd (w.sink_faults (c.sink_fault (number (Broken Sink) p)))
    go (Broken Memory) p = inr (inl (number (Broken Memory) p))
    go (Broken Circle) p = inr (inr (number (Broken Circle) p))
    go (Broken Stalled) p = absurd (w.sink_stalls (c.sink_stuck (number (Broken Stalled) p)))

-- the same of a script that is told
pub complete-for : (o : ToolOptions) (a b : SourceView) (x y : SinkView) (h i : KeeperView) (k l : Work) (n : ℕ) (script : List ℕ) → Session o a b x y h i k l n → Causes a b x y h i n → a.left ≡ Some script → NothingRose a b x y h i
    → IsComplete o script a b x y h i k l n ⊎ IsLeftOff n
complete-for o a b x y h i k l n script s c e w = elim (complete-of o a b x y h i k l n s c w) [
  | inl done ↦ inl (done script e)
  | inr off ↦ inr off
]
