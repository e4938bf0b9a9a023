-- What was seen of a session is the beginning of what is due, and what is kept stays lawful.
use Rattle.std.proofs.Common.{◌≡◌, inl, inr, ℕ, ◌+◌, ◌≤◌, List, [], ◌∷◌, ◌++◌, refl, sym, ap, ◌∙◌, arith, append_assoc, subst, Option, Some, Bool}
use Rattle.std.proofs.lemmas.List.{append-nil}
use Rattle.tree_runs.specs.Reports.{Tree, IsHonest}
use Rattle.top_calls.specs.declared.options.ToolOptions.{ToolOptions}
use Rattle.scripts.specs.declared.halt.Halt.{Halt}
use Rattle.top_calls.specs.declared.stop.Cut.{Cut}
use Rattle.top_calls.specs.declared.stop.Stop.{Stop}
use Rattle.top_calls.specs.declared.stop.Stop.TheVariants.{Halted, Broken}
use Rattle.scripts.specs.Script.{Command}
use Rattle.scripts.specs.Reading.{IsPrefix, Begun}
use Rattle.top_calls.specs.Standing.{Standing, start_at}
use Rattle.top_calls.specs.Deeds.{Does, Leads, deed_of}
use Rattle.top_calls.specs.Ends.{Moment, Fetching, Greeting, Reading, Idle, Running, Writing, Telling, Storing, Lining, line_of}
use Rattle.top_calls.specs.Outcome.{Seen, seen_at, Arrives, offset_of, said, NextStep, CutAt, Outcome, unopened, greeted, halted, broken}
use Rattle.top_calls.specs.Due.{IsLawfulKept, Due, IsWithin, GoesOut}
use Rattle.top_calls.proofs.RunsLaws.{RunLaws}
use Rattle.scripts.proofs.ReadLaws.{Stops, Read-begins, Read-next, Read-more, Begun-more, halt-stops, halt-whole}
use Rattle.top_calls.proofs.CourseLaws.{SameStep, Later, course-keeps, course-lawful, one_course, one_act, split, one_opening, opens-honest, step-honest, step-lawful}
use Rattle.top_calls.proofs.DueLaws.{IsPrefix-trans, IsPrefix-same, IsPrefix-after, one_reason, one_due}

-- the cache where it arrives is honest
pub arrives-honest : RunLaws → (o : ToolOptions) (t : Tree) (k : Option (List ℕ)) (bytes : List ℕ) → IsLawfulKept k → (a : Arrives o t k bytes) → IsHonest a.now.cache
arrives-honest law o t k bytes l a = let h = course-keeps law o a.commands (start_at t a.cache k) a.now a.replies (opens-honest law k a.cache a.greeting l a.opens) a.leads in h.honest

-- more bytes come
abbrev pub Arrives-more : {o : ToolOptions} {t : Tree} {k : Option (List ℕ)} {bytes : List ℕ} (more : List ℕ) → Arrives o t k bytes → Arrives o t k (bytes ++ more)
Arrives-more more a = record { cache = a.cache; greeting = a.greeting; opens = a.opens; commands = a.commands; rest = a.rest ++ more; read = Read-more more a.read; now = a.now; replies = a.replies; leads = a.leads }

-- of two arrivals over some bytes, the first is on the way to one that has stopped
record OnTheWay (n m : Standing) (u v : List ℕ) : Type 0 where
  begins : IsPrefix u v
  later : Later n m

-- what went out first, a greeting and replies, begins what went out in the end
goes-on : (g h a b more all : List ℕ) → g ≡ h → a ≡ b → all ≡ b ++ more → (g ++ a) ++ more ≡ h ++ all
goes-on g h a b more all e c whole = append_assoc g a more ∙ ap (λ z. z ++ (a ++ more)) e ∙ ap (λ z. h ++ (z ++ more)) c ∙ ap (λ z. h ++ z) (sym whole)

on_the_way : RunLaws → (o : ToolOptions) (t : Tree) (k : Option (List ℕ)) (bytes : List ℕ) → IsLawfulKept k → (a d : Arrives o t k bytes) → Stops (offset_of d) d.rest → OnTheWay a.now d.now (said a) (said d)
on_the_way law o t k bytes l a d h =
    let g = Read-begins a.read d.read h in
    let e = one_opening law k a.cache d.cache a.greeting d.greeting a.opens d.opens in
    let s : Leads o (a.commands ++ g.more) (start_at t a.cache k) d.now d.replies = subst (λ z. Leads o (a.commands ++ g.more) (start_at t z k) d.now d.replies) (sym e.cache) (subst (λ z. Leads o z (start_at t d.cache k) d.now d.replies) (sym g.whole) d.leads) in
    let p = split o a.commands g.more (start_at t a.cache k) d.now d.replies s in
    let honest : IsHonest a.cache = opens-honest law k a.cache a.greeting l a.opens in
    let c = one_course law o a.commands (start_at t a.cache k) a.now p.mid a.replies p.first honest a.leads p.before in
    let w : Leads o g.more a.now d.now p.second = subst (λ z. Leads o g.more z d.now p.second) (sym c.now) p.after in
    let kept = course-keeps law o g.more a.now d.now p.second (arrives-honest law o t k bytes l a) w in
    record {
      begins = (p.second, goes-on a.greeting d.greeting a.replies p.first p.second d.replies e.greeting c.reply p.whole);
      later = kept.later;
    }

-- a reply more among it
goes-on-with : (g h a one b more all : List ℕ) → g ≡ h → b ≡ a ++ one → all ≡ b ++ more → ((g ++ a) ++ one) ++ more ≡ h ++ all
goes-on-with g h a one b more all e f whole = ap (λ z. z ++ more) (append_assoc g a one) ∙ goes-on g h (a ++ one) b more all e (sym f) whole

-- the next command, as what is due has it
record StepOnTheWay (o : ToolOptions) (c : Command) (n m : Standing) (u v : List ℕ) : Type 0 where
  next : Standing
  reply : List ℕ
  does : Does o c n next reply
  begins : IsPrefix (u ++ reply) v
  later : Later next m

step_on_the_way : RunLaws → (o : ToolOptions) (t : Tree) (k : Option (List ℕ)) (bytes : List ℕ) → IsLawfulKept k → (a d : Arrives o t k bytes) → Stops (offset_of d) d.rest → (b : Begun (offset_of a) a.rest) → StepOnTheWay o b.command a.now d.now (said a) (said d)
step_on_the_way law o t k bytes l a d h b =
    let g = Read-begins (Read-next a.read b) d.read h in
    let e = one_opening law k a.cache d.cache a.greeting d.greeting a.opens d.opens in
    let s : Leads o ((a.commands ++ b.command ∷ []) ++ g.more) (start_at t a.cache k) d.now d.replies = subst (λ z. Leads o ((a.commands ++ b.command ∷ []) ++ g.more) (start_at t z k) d.now d.replies) (sym e.cache) (subst (λ z. Leads o z (start_at t d.cache k) d.now d.replies) (sym g.whole) d.leads) in
    let p = split o (a.commands ++ b.command ∷ []) g.more (start_at t a.cache k) d.now d.replies s in
    let q = split o a.commands (b.command ∷ []) (start_at t a.cache k) p.mid p.first p.before in
    let honest : IsHonest a.cache = opens-honest law k a.cache a.greeting l a.opens in
    let c = one_course law o a.commands (start_at t a.cache k) a.now q.mid a.replies q.first honest a.leads q.before in
    let w : Leads o (b.command ∷ []) a.now p.mid q.second = subst (λ z. Leads o (b.command ∷ []) z p.mid q.second) (sym c.now) q.after in
    let does : Does o b.command a.now w.0 w.1 = w.3 in
    let mid : p.mid ≡ w.0 = w.4.0 in
    let reply : q.second ≡ w.1 = w.5 ∙ ap (λ z. w.1 ++ z) w.4.1 ∙ append-nil w.1 in
    let rest : Leads o g.more w.0 d.now p.second = subst (λ z. Leads o g.more z d.now p.second) mid p.after in
    let kept = course-keeps law o g.more w.0 d.now p.second (step-honest law o b.command a.now w.0 w.1 (arrives-honest law o t k bytes l a) does) rest in
    let first : p.first ≡ a.replies ++ w.1 = q.whole ∙ ap (λ z. z ++ q.second) (sym c.reply) ∙ ap (λ z. a.replies ++ z) reply in
    record {
      next = w.0;
      reply = w.1;
      does = does;
      begins = (p.second, goes-on-with a.greeting d.greeting a.replies w.1 p.first p.second d.replies e.greeting first p.whole);
      later = kept.later;
    }

within-of : (seen due : Seen) (out : List ℕ) (loads runs : ℕ) → seen.out ≡ out → seen.loads ≤ loads → seen.runs ≤ runs → IsPrefix out due.out → loads ≤ due.loads → runs ≤ due.runs → IsWithin seen due
within-of seen due out loads runs e l r p m q = record { out = IsPrefix-trans seen.out out due.out (IsPrefix-same seen.out out e) p; loads = omega arith; runs = omega arith }

same-numbers : (a b : ℕ) → a ≡ b → a ≤ b
same-numbers a b e = omega arith

-- what is seen at a moment is within what is due
cut-within : RunLaws → (o : ToolOptions) (k : Option (List ℕ)) (given rest : List ℕ) (seen whole : Seen) (h : Halt) (m : Moment) → IsLawfulKept k → (a : Arrives o [] k given) → Due o k (given ++ rest) whole h → CutAt m o a.now (offset_of a) a.rest (said a) (Some rest) seen → IsWithin seen whole
cut-within law o k given rest seen whole h m l a due cut = go m cut
  where
    d : Arrives o [] k (given ++ rest)
    d = due.arrives

    stopped : Stops (offset_of d) d.rest
    stopped = halt-stops h (offset_of d) d.rest due.halts

    out : IsPrefix (said d) whole.out
    out = (line_of h (offset_of d), sym (ap (λ (z : Seen). z.out) due.sees))

    loads : d.now.loads ≡ whole.loads
    loads = sym (ap (λ (z : Seen). z.loads) due.sees)

    runs : d.now.runs ≡ whole.runs
    runs = sym (ap (λ (z : Seen). z.runs) due.sees)

    way : OnTheWay a.now d.now (said a) (said d)
    way = on_the_way law o [] k (given ++ rest) l (Arrives-more rest a) d stopped

    step : (b : Begun (offset_of a) a.rest) → StepOnTheWay o b.command a.now d.now (said a) (said d)
    step b = step_on_the_way law o [] k (given ++ rest) l (Arrives-more rest a) d stopped (Begun-more rest b)

    same : (s : NextStep o a.now (offset_of a) a.rest) → SameStep s.next (step s.begun).next s.reply (step s.begun).reply
    same s = one_act law o (deed_of s.begun.command.word s.begun.command.fields) a.now s.next (step s.begun).next s.reply (step s.begun).reply (arrives-honest law o [] k given l a) s.does (step s.begun).does

    after : (s : NextStep o a.now (offset_of a) a.rest) → IsPrefix (said a ++ s.reply) whole.out
    after s = IsPrefix-trans (said a ++ s.reply) (said d) whole.out (subst (λ z. IsPrefix (said a ++ z) (said d)) (sym (same s).reply) (step s.begun).begins) out

    later : (s : NextStep o a.now (offset_of a) a.rest) → Later s.next d.now
    later s = subst (λ z. Later z d.now) (sym (same s).now) (step s.begun).later

    go : (m : Moment) → CutAt m o a.now (offset_of a) a.rest (said a) (Some rest) seen → IsWithin seen whole
    go Fetching c = absurd c
    go Greeting c = absurd c
    go Reading c = absurd c
    go Writing c = absurd c
    go Idle c =
        let p = way.later.loads in let q = way.later.runs in
        within-of seen whole (said a) a.now.loads a.now.runs (ap (λ (z : Seen). z.out) c) (same-numbers seen.loads a.now.loads (ap (λ (z : Seen). z.loads) c)) (same-numbers seen.runs a.now.runs (ap (λ (z : Seen). z.runs) c)) (IsPrefix-trans (said a) (said d) whole.out way.begins out) (let e = loads in omega arith) (let e = runs in omega arith)
    go Running c =
        let s = step c.0 in
        let honest : IsHonest a.now.cache = arrives-honest law o [] k given l a in
        let p = s.later.loads in let q = s.later.runs in
        within-of seen whole (said a) s.next.loads s.next.runs c.1 (c.3 honest s.next s.reply s.does) (c.4 honest s.next s.reply s.does) (IsPrefix-trans (said a) (said d) whole.out way.begins out) (let e = loads in omega arith) (let e = runs in omega arith)
    go Telling c =
        let s = c.0 in
        let p = (later s).loads in let q = (later s).runs in
        within-of seen whole (said a ++ c.1) s.next.loads s.next.runs (ap (λ (z : Seen). z.out) c.3) (same-numbers seen.loads s.next.loads (ap (λ (z : Seen). z.loads) c.3)) (same-numbers seen.runs s.next.runs (ap (λ (z : Seen). z.runs) c.3)) (IsPrefix-trans (said a ++ c.1) (said a ++ s.reply) whole.out (IsPrefix-after (said a) c.1 s.reply c.2) (after s)) (let e = loads in omega arith) (let e = runs in omega arith)
    go Storing c =
        let s = c.0 in
        let p = (later s).loads in let q = (later s).runs in
        within-of seen whole (said a ++ s.reply) s.next.loads s.next.runs (ap (λ (z : Seen). z.out) c.3) (same-numbers seen.loads s.next.loads (ap (λ (z : Seen). z.loads) c.3)) (same-numbers seen.runs s.next.runs (ap (λ (z : Seen). z.runs) c.3)) (after s) (let e = loads in omega arith) (let e = runs in omega arith)
    go Lining c =
        let there = halt-whole c.0 (offset_of a) a.rest rest c.2 in
        let due' : Due o k (given ++ rest) (seen_at a.now (said a ++ line_of c.0 (offset_of a))) c.0 = record { arrives = Arrives-more rest a; halts = there; sees = refl } in
        let e = one_due law o k (given ++ rest) (seen_at a.now (said a ++ line_of c.0 (offset_of a))) whole c.0 h l due' due in
        let x : a.now.loads ≡ whole.loads = ap (λ (z : Seen). z.loads) e in
        let y : a.now.runs ≡ whole.runs = ap (λ (z : Seen). z.runs) e in
        within-of seen whole (said a ++ c.1) a.now.loads a.now.runs (ap (λ (z : Seen). z.out) c.4) (same-numbers seen.loads a.now.loads (ap (λ (z : Seen). z.loads) c.4)) (same-numbers seen.runs a.now.runs (ap (λ (z : Seen). z.runs) c.4)) (subst (λ z. IsPrefix (said a ++ c.1) z) (ap (λ (z : Seen). z.out) e) (IsPrefix-after (said a) c.1 (line_of c.0 (offset_of a)) c.3)) (omega arith) (omega arith)

never-both : (c : Cut) (h : Halt) (f : Bool) (stop : Stop) → stop ≡ Broken c → stop ≡ Halted h f → ⊥
never-both c h f stop x y = let z : ◌≡◌ {A = Stop} (Broken c) (Halted h f) = sym x ∙ y in cc

one-halted : (h j : Halt) (f : Bool) (stop : Stop) → stop ≡ Halted h f → stop ≡ Halted j f → h ≡ j
one-halted h j f stop x y = let z : ◌≡◌ {A = Stop} (Halted h f) (Halted j f) = sym x ∙ y in cc

within-same : (seen whole : Seen) → seen ≡ whole → IsWithin seen whole
within-same seen whole e = record { out = IsPrefix-same seen.out whole.out (ap (λ (z : Seen). z.out) e); loads = same-numbers seen.loads whole.loads (ap (λ (z : Seen). z.loads) e); runs = same-numbers seen.runs whole.runs (ap (λ (z : Seen). z.runs) e) }

seen-due : (o : ToolOptions) (k : Option (List ℕ)) (given rest : List ℕ) (seen : Seen) (stop : Stop) → Outcome o k given (Some rest) seen stop → (h : Halt) → stop ≡ Halted h seen.found → Due o k (given ++ rest) seen h
seen-due o k given rest seen stop (unopened cut s allowed g e) h y = absurd (never-both cut h seen.found stop s y)
seen-due o k given rest seen stop (greeted cut s allowed g c l p o' q e) h y = absurd (never-both cut h seen.found stop s y)
seen-due o k given rest seen stop (broken cut s a m allowed i c) h y = absurd (never-both cut h seen.found stop s y)
seen-due o k given rest seen stop (halted j s a x e) h y =
    let due : Due o k (given ++ rest) seen j = record { arrives = Arrives-more rest a; halts = halt-whole j (offset_of a) a.rest rest x; sees = e } in
    subst (λ z. Due o k (given ++ rest) seen z) (one-halted j h seen.found stop s y) due

seen-within : RunLaws → (o : ToolOptions) (k : Option (List ℕ)) (given rest : List ℕ) (seen : Seen) (stop : Stop) → Outcome o k given (Some rest) seen stop → IsLawfulKept k → (whole : Seen) (h : Halt) → Due o k (given ++ rest) whole h → IsWithin seen whole
seen-within law o k given rest seen stop (unopened cut s allowed g e) l whole h due = record { out = (whole.out, ap (λ (z : Seen). z.out ++ whole.out) e); loads = let x : seen.loads ≡ 0 = ap (λ (z : Seen). z.loads) e in omega arith; runs = let x : seen.runs ≡ 0 = ap (λ (z : Seen). z.runs) e in omega arith }
seen-within law o k given rest seen stop (greeted cut s allowed g c gr part op p e) l whole h due =
    let d = due.arrives in
    let x = one_opening law k c d.cache gr d.greeting op d.opens in
    let y : IsPrefix d.greeting whole.out = (d.replies ++ line_of h (offset_of d), sym (append_assoc d.greeting d.replies (line_of h (offset_of d))) ∙ sym (ap (λ (z : Seen). z.out) due.sees)) in
    let z : IsPrefix part whole.out = IsPrefix-trans part gr whole.out p (subst (λ w. IsPrefix w whole.out) (sym x.greeting) y) in
    record { out = IsPrefix-trans seen.out part whole.out (IsPrefix-same seen.out part (ap (λ (z : Seen). z.out) e)) z; loads = let x : seen.loads ≡ 0 = ap (λ (z : Seen). z.loads) e in omega arith; runs = let x : seen.runs ≡ 0 = ap (λ (z : Seen). z.runs) e in omega arith }
seen-within law o k given rest seen stop (halted j s a x e) l whole h due =
    within-same seen whole (one_due law o k (given ++ rest) seen whole j h l (record { arrives = Arrives-more rest a; halts = halt-whole j (offset_of a) a.rest rest x; sees = e }) due)
seen-within law o k given rest seen stop (broken cut s a m allowed i c) l whole h due = cut-within law o k given rest seen whole h m l a due c

-- what goes out of a session, where the source tells its script
pub goes-out : RunLaws → (o : ToolOptions) (k : Option (List ℕ)) (given rest : List ℕ) (seen : Seen) (stop : Stop) → Outcome o k given (Some rest) seen stop → GoesOut o k (given ++ rest) seen stop
goes-out law o k given rest seen stop out = record {
  due = λ h e. seen-due o k given rest seen stop out h e;
  halts = λ whole h j due e. one_reason o k (given ++ rest) whole seen h j due (seen-due o k given rest seen stop out j e);
  single = λ l whole h j due e. one_due law o k (given ++ rest) seen whole j h l (seen-due o k given rest seen stop out j e) due;
  within = λ l whole h due. seen-within law o k given rest seen stop out l whole h due;
}

-- what is kept after a session is lawful
cut-lawful : RunLaws → (o : ToolOptions) (k : Option (List ℕ)) (given : List ℕ) (left : Option (List ℕ)) (seen : Seen) (m : Moment) → IsLawfulKept k → (a : Arrives o [] k given) → CutAt m o a.now (offset_of a) a.rest (said a) left seen → IsLawfulKept seen.kept
cut-lawful law o k given left seen m l a cut = go m cut
  where
    start : IsHonest a.cache
    start = opens-honest law k a.cache a.greeting l a.opens

    honest : IsHonest a.now.cache
    honest = arrives-honest law o [] k given l a

    here : IsLawfulKept a.now.kept
    here = course-lawful law o a.commands (start_at [] a.cache k) a.now a.replies start l a.leads

    kept : a.now.kept ≡ seen.kept → IsLawfulKept seen.kept
    kept e = subst IsLawfulKept e here

    go : (m : Moment) → CutAt m o a.now (offset_of a) a.rest (said a) left seen → IsLawfulKept seen.kept
    go Fetching c = absurd c
    go Greeting c = absurd c
    go Reading c = absurd c
    go Writing c = absurd c
    go Idle c = kept (sym (ap (λ (z : Seen). z.kept) c))
    go Running c = kept (sym c.2)
    go Telling c = kept (sym (ap (λ (z : Seen). z.kept) c.3))
    go Storing c = elim c.2 [
      | inl e ↦ kept (sym e ∙ sym (ap (λ (z : Seen). z.kept) c.3))
      | inr e ↦ subst IsLawfulKept (sym e ∙ sym (ap (λ (z : Seen). z.kept) c.3)) (step-lawful law o c.0.begun.command a.now c.0.next c.0.reply honest here c.0.does)
    ]
    go Lining c = kept (sym (ap (λ (z : Seen). z.kept) c.4))

pub outcome-lawful : RunLaws → (o : ToolOptions) (k : Option (List ℕ)) (given : List ℕ) (left : Option (List ℕ)) (seen : Seen) (stop : Stop) → IsLawfulKept k → Outcome o k given left seen stop → IsLawfulKept seen.kept
outcome-lawful law o k given left seen stop l (unopened cut s allowed g e) = subst IsLawfulKept (sym (ap (λ (z : Seen). z.kept) e)) l
outcome-lawful law o k given left seen stop l (greeted cut s allowed g c gr part op p e) = subst IsLawfulKept (sym (ap (λ (z : Seen). z.kept) e)) l
outcome-lawful law o k given left seen stop l (halted j s a x e) = subst IsLawfulKept (sym (ap (λ (z : Seen). z.kept) e)) (course-lawful law o a.commands (start_at [] a.cache k) a.now a.replies (opens-honest law k a.cache a.greeting l a.opens) l a.leads)
outcome-lawful law o k given left seen stop l (broken cut s a m allowed i c) = cut-lawful law o k given left seen m l a c
