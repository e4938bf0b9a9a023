-- What is due for a single run is one, and what is seen of it is the beginning of that.
use Rattle.std.proofs.Common.{◌≡◌, inl, inr, ℕ, ◌+◌, ◌≤◌, List, [], ◌∷◌, ◌++◌, length, take, refl, sym, ap, ◌∙◌, arith, Option, subst}
use Rattle.std.proofs.lemmas.List.{take_all}
use Rattle.gv_base.specs.Files.{Entry}
use Rattle.analysis_core.specs.declared.reply.ChangedFile.{ChangedFile as Changed}
use Rattle.analysis_core.specs.declared.command.Command.{Command as Kind}
use Rattle.tree_runs.specs.declared.report.TreeReport.{TreeReport}
use Rattle.folder.specs.Folders.{put_all}
use Rattle.tree_runs.specs.Reports.{IsHonest}
use Rattle.top_calls.specs.declared.options.ToolOptions.{ToolOptions}
use Rattle.top_calls.specs.declared.stop.Stop.{Stop}
use Rattle.scripts.specs.Reading.{IsPrefix}
use Rattle.top_calls.specs.Standing.{Standing, start_at}
use Rattle.top_calls.specs.Deeds.{task_of}
use Rattle.top_calls.specs.Ends.{Moment, Fetching, Greeting, Reading, Idle, Running, Writing, Telling, Storing, Lining}
use Rattle.top_calls.specs.Outcome.{Seen, seen_at}
use Rattle.top_calls.specs.Due.{IsLawfulKept}
use Rattle.top_calls.specs.Single.{run_files, SeenRun, RunAnswer, RunAt, IsWhole, RunOutcome, unopened, greeted, cut_off, halted, DueRun, IsWithinRun}
use Rattle.top_calls.proofs.RunsLaws.{RunLaws}
use Rattle.top_calls.proofs.CourseLaws.{one_run, one_opening, opens-honest}
use Rattle.top_calls.proofs.DueLaws.{IsPrefix-trans, IsPrefix-same, IsPrefix-after}

record SameAnswer (n m : Standing) (r q : List ℕ) (cs ds : List Changed) : Type 0 where
  now : n ≡ m
  reply : r ≡ q
  changed : cs ≡ ds

one_answer : RunLaws → (o : ToolOptions) (kind : Kind) (s : Standing) → IsHonest s.cache → (a b : RunAnswer o kind s) → SameAnswer a.next b.next a.reply b.reply a.changed b.changed
one_answer law o kind s h a b =
    let e = one_run law o kind s a.next b.next a.reply b.reply (a.ran h) (b.ran h) in
    let r : (a.ran h).report ≡ (b.ran h).report = law.report s.tree (task_of o kind) s.cache a.next.cache b.next.cache (a.ran h).report (b.ran h).report (a.ran h).reports (b.ran h).reports in
    record { now = e.now; reply = e.reply; changed = sym (a.changes h) ∙ ap (λ (z : TreeReport). z.changed) r ∙ b.changes h }

whole-single : RunLaws → (o : ToolOptions) (kind : Kind) (s : Standing) (files : List Entry) (g : List ℕ) (x y : SeenRun) → IsHonest s.cache → IsWhole o kind s files g x → IsWhole o kind s files g y → x ≡ y
whole-single law o kind s files g x y h a b =
    let e = one_answer law o kind s h a.0 b.0 in
    a.1 ∙ ap (λ z. record { seen = seen_at z (g ++ a.0.reply); files = put_all files a.0.changed }) e.now ∙ ap (λ z. record { seen = seen_at b.0.next (g ++ z); files = put_all files a.0.changed }) e.reply ∙ ap (λ z. record { seen = seen_at b.0.next (g ++ b.0.reply); files = put_all files z }) e.changed ∙ sym b.1

pub run-single : RunLaws → (o : ToolOptions) (kind : Kind) (k : Option (List ℕ)) (files : List Entry) (x y : SeenRun) → IsLawfulKept k → DueRun o kind k files x → DueRun o kind k files y → x ≡ y
run-single law o kind k files x y l a b =
    let e = one_opening law k a.cache b.cache a.greeting b.greeting a.opens b.opens in
    let w : IsWhole o kind (start_at (run_files files) b.cache k) files b.greeting x = subst (λ z. IsWhole o kind (start_at (run_files files) b.cache k) files z x) e.greeting (subst (λ z. IsWhole o kind (start_at (run_files files) z k) files a.greeting x) e.cache a.whole) in
    whole-single law o kind (start_at (run_files files) b.cache k) files b.greeting x y (opens-honest law k b.cache b.greeting l b.opens) w b.whole

take-zero : (cs : List Changed) → take 0 cs ≡ []
take-zero [] = refl
take-zero (c ∷ cs) = refl

none-written : (files : List Entry) (cs : List Changed) → files ≡ put_all files (take 0 cs)
none-written files cs = ap (put_all files) (sym (take-zero cs))

all-written : (files : List Entry) (cs ds : List Changed) → cs ≡ ds → put_all files cs ≡ put_all files (take (length ds) ds)
all-written files cs ds e = ap (put_all files) (e ∙ sym (take_all (length ds) ds (omega arith)))

same-less : (a b c : ℕ) → a ≡ b → b ≡ c → a ≤ c
same-less a b c e f = omega arith

-- what is seen at a moment
at-within : RunLaws → (o : ToolOptions) (kind : Kind) (s : Standing) (files : List Entry) (g : List ℕ) (m : Moment) (got whole : SeenRun) → s.loads ≡ 0 → s.runs ≡ 0 → IsHonest s.cache → RunAt m o kind s files g got → (w : IsWhole o kind s files g whole) → IsWithinRun files got whole.seen w.0.changed
at-within law o kind s files g m got whole zl zr h at w = go m at
  where
    front : IsPrefix g whole.seen.out
    front = (w.0.reply, sym (ap (λ (z : SeenRun). z.seen.out) w.1))

    full : IsPrefix (g ++ w.0.reply) whole.seen.out
    full = IsPrefix-same (g ++ w.0.reply) whole.seen.out (sym (ap (λ (z : SeenRun). z.seen.out) w.1))

    loads : w.0.next.loads ≡ whole.seen.loads
    loads = sym (ap (λ (z : SeenRun). z.seen.loads) w.1)

    runs : w.0.next.runs ≡ whole.seen.runs
    runs = sym (ap (λ (z : SeenRun). z.seen.runs) w.1)

    from : (out p : List ℕ) → out ≡ p → IsPrefix p whole.seen.out → IsPrefix out whole.seen.out
    from out p e f = IsPrefix-trans out p whole.seen.out (IsPrefix-same out p e) f

    go : (m : Moment) → RunAt m o kind s files g got → IsWithinRun files got whole.seen w.0.changed
    go Fetching c = absurd c
    go Greeting c = absurd c
    go Idle c = absurd c
    go Lining c = absurd c
    go Reading c = record { out = from got.seen.out g (ap (λ (z : SeenRun). z.seen.out) c) front; loads = (let x : got.seen.loads ≡ s.loads = ap (λ (z : SeenRun). z.seen.loads) c in omega arith); runs = (let x : got.seen.runs ≡ s.runs = ap (λ (z : SeenRun). z.seen.runs) c in omega arith); count = 0; written = ap (λ (z : SeenRun). z.files) c ∙ none-written files w.0.changed }
    go Running c = record { out = from got.seen.out g c.1 front; loads = (let x = c.3 h w.0 in let y = loads in omega arith); runs = (let x = c.4 h w.0 in let y = runs in omega arith); count = 0; written = c.0 ∙ none-written files w.0.changed }
    go Writing c =
        let e = one_answer law o kind s h c.0 w.0 in
        record { out = from got.seen.out g (ap (λ (z : Seen). z.out) c.4) front; loads = same-less got.seen.loads w.0.next.loads whole.seen.loads (ap (λ (z : Seen). z.loads) c.4 ∙ ap (λ (z : Standing). z.loads) e.now) loads; runs = same-less got.seen.runs w.0.next.runs whole.seen.runs (ap (λ (z : Seen). z.runs) c.4 ∙ ap (λ (z : Standing). z.runs) e.now) runs; count = c.1; written = c.3 ∙ ap (λ z. put_all files (take c.1 z)) e.changed }
    go Telling c =
        let e = one_answer law o kind s h c.0 w.0 in
        record { out = from got.seen.out (g ++ c.1) (ap (λ (z : Seen). z.out) c.4) (IsPrefix-trans (g ++ c.1) (g ++ c.0.reply) whole.seen.out (IsPrefix-after g c.1 c.0.reply c.2) (subst (λ z. IsPrefix (g ++ z) whole.seen.out) (sym e.reply) full)); loads = same-less got.seen.loads w.0.next.loads whole.seen.loads (ap (λ (z : Seen). z.loads) c.4 ∙ ap (λ (z : Standing). z.loads) e.now) loads; runs = same-less got.seen.runs w.0.next.runs whole.seen.runs (ap (λ (z : Seen). z.runs) c.4 ∙ ap (λ (z : Standing). z.runs) e.now) runs; count = length w.0.changed; written = c.3 ∙ all-written files c.0.changed w.0.changed e.changed }
    go Storing c =
        let e = one_answer law o kind s h c.0 w.0 in
        record { out = from got.seen.out (g ++ c.0.reply) (ap (λ (z : Seen). z.out) c.4) (subst (λ z. IsPrefix (g ++ z) whole.seen.out) (sym e.reply) full); loads = same-less got.seen.loads w.0.next.loads whole.seen.loads (ap (λ (z : Seen). z.loads) c.4 ∙ ap (λ (z : Standing). z.loads) e.now) loads; runs = same-less got.seen.runs w.0.next.runs whole.seen.runs (ap (λ (z : Seen). z.runs) c.4 ∙ ap (λ (z : Standing). z.runs) e.now) runs; count = length w.0.changed; written = c.3 ∙ all-written files c.0.changed w.0.changed e.changed }

pub run-within : RunLaws → (o : ToolOptions) (kind : Kind) (k : Option (List ℕ)) (files : List Entry) (got whole : SeenRun) (stop : Stop) → IsLawfulKept k → RunOutcome o kind k files got stop → (due : DueRun o kind k files whole) → IsWithinRun files got whole.seen due.whole.0.changed
run-within law o kind k files got whole stop l (unopened cut s allowed e) due = record { out = (whole.seen.out, ap (λ (z : SeenRun). z.seen.out ++ whole.seen.out) e); loads = (let x : got.seen.loads ≡ 0 = ap (λ (z : SeenRun). z.seen.loads) e in omega arith); runs = (let x : got.seen.runs ≡ 0 = ap (λ (z : SeenRun). z.seen.runs) e in omega arith); count = 0; written = ap (λ (z : SeenRun). z.files) e ∙ none-written files due.whole.0.changed }
run-within law o kind k files got whole stop l (greeted cut s allowed cache g part op p e) due =
    let x = one_opening law k cache due.cache g due.greeting op due.opens in
    let y : IsPrefix due.greeting whole.seen.out = (due.whole.0.reply, sym (ap (λ (z : SeenRun). z.seen.out) due.whole.1)) in
    record { out = IsPrefix-trans got.seen.out part whole.seen.out (IsPrefix-same got.seen.out part (ap (λ (z : SeenRun). z.seen.out) e)) (IsPrefix-trans part g whole.seen.out p (subst (λ z. IsPrefix z whole.seen.out) (sym x.greeting) y)); loads = (let x : got.seen.loads ≡ 0 = ap (λ (z : SeenRun). z.seen.loads) e in omega arith); runs = (let x : got.seen.runs ≡ 0 = ap (λ (z : SeenRun). z.seen.runs) e in omega arith); count = 0; written = ap (λ (z : SeenRun). z.files) e ∙ none-written files due.whole.0.changed }
run-within law o kind k files got whole stop l (cut_off cut s cache g op m allowed cause at) due =
    let e = one_opening law k cache due.cache g due.greeting op due.opens in
    let at' : RunAt m o kind (start_at (run_files files) due.cache k) files due.greeting got = subst (λ z. RunAt m o kind (start_at (run_files files) due.cache k) files z got) e.greeting (subst (λ z. RunAt m o kind (start_at (run_files files) z k) files g got) e.cache at) in
    at-within law o kind (start_at (run_files files) due.cache k) files due.greeting m got whole refl refl (opens-honest law k due.cache due.greeting l due.opens) at' due.whole
run-within law o kind k files got whole stop l (halted s cache g op w) due =
    let e = run-single law o kind k files got whole l (record { cache = cache; greeting = g; opens = op; whole = w }) due in
    record { out = IsPrefix-same got.seen.out whole.seen.out (ap (λ (z : SeenRun). z.seen.out) e); loads = same-less got.seen.loads got.seen.loads whole.seen.loads refl (ap (λ (z : SeenRun). z.seen.loads) e); runs = same-less got.seen.runs got.seen.runs whole.seen.runs refl (ap (λ (z : SeenRun). z.seen.runs) e); count = length due.whole.0.changed; written = ap (λ (z : SeenRun). z.files) (e ∙ due.whole.1) ∙ all-written files due.whole.0.changed due.whole.0.changed refl }

act-kept : RunLaws → (o : ToolOptions) (kind : Kind) (s : Standing) → IsHonest s.cache → (a : RunAnswer o kind s) → IsLawfulKept a.next.kept
act-kept law o kind s h a =
    let b = a.ran h in
    let honest : IsHonest a.next.cache = law.honest s.tree (task_of o kind) s.cache a.next.cache b.report h b.reports in
    subst IsLawfulKept (sym b.kept) (λ small c e. subst IsHonest (law.value a.next.cache c b.text small b.spelled e) honest)

at-lawful : RunLaws → (o : ToolOptions) (kind : Kind) (s : Standing) (files : List Entry) (g : List ℕ) (m : Moment) (got : SeenRun) → IsHonest s.cache → IsLawfulKept s.kept → RunAt m o kind s files g got → IsLawfulKept got.seen.kept
at-lawful law o kind s files g m got h l at = go m at
  where
    kept : s.kept ≡ got.seen.kept → IsLawfulKept got.seen.kept
    kept e = subst IsLawfulKept e l

    go : (m : Moment) → RunAt m o kind s files g got → IsLawfulKept got.seen.kept
    go Fetching c = absurd c
    go Greeting c = absurd c
    go Idle c = absurd c
    go Lining c = absurd c
    go Reading c = kept (sym (ap (λ (z : SeenRun). z.seen.kept) c))
    go Running c = kept (sym c.2)
    go Writing c = kept (sym (ap (λ (z : Seen). z.kept) c.4))
    go Telling c = kept (sym (ap (λ (z : Seen). z.kept) c.4))
    go Storing c = elim c.2 [
      | inl e ↦ kept (sym e ∙ sym (ap (λ (z : Seen). z.kept) c.4))
      | inr e ↦ subst IsLawfulKept (sym e ∙ sym (ap (λ (z : Seen). z.kept) c.4)) (act-kept law o kind s h c.0)
    ]

pub run-lawful : RunLaws → (o : ToolOptions) (kind : Kind) (k : Option (List ℕ)) (files : List Entry) (got : SeenRun) (stop : Stop) → IsLawfulKept k → RunOutcome o kind k files got stop → IsLawfulKept got.seen.kept
run-lawful law o kind k files got stop l (unopened cut s allowed e) = subst IsLawfulKept (sym (ap (λ (z : SeenRun). z.seen.kept) e)) l
run-lawful law o kind k files got stop l (greeted cut s allowed cache g part op p e) = subst IsLawfulKept (sym (ap (λ (z : SeenRun). z.seen.kept) e)) l
run-lawful law o kind k files got stop l (cut_off cut s cache g op m allowed cause at) = at-lawful law o kind (start_at (run_files files) cache k) files g m got (opens-honest law k cache g l op) l at
run-lawful law o kind k files got stop l (halted s cache g op w) = subst IsLawfulKept (sym (ap (λ (z : SeenRun). z.seen.kept) w.1)) (act-kept law o kind (start_at (run_files files) cache k) (opens-honest law k cache g l op) w.0)
