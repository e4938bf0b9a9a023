-- Commands lead to one place, keep a cache honest and what is kept lawful, and the work never falls.
use Rattle.std.proofs.Common.{◌≡◌, ℕ, ◌+◌, ◌≤◌, List, [], ◌∷◌, ◌++◌, refl, sym, ap, ◌∙◌, arith, append_assoc, subst, Option, None, Some}
use Rattle.std.proofs.lemmas.List.{append-nil}
use Rattle.std.proofs.lemmas.Option.{same_Some}
use Rattle.analysis_core.specs.declared.command.Command.{Command as Kind}
use Rattle.tree_runs.specs.declared.report.TreeReport.{TreeReport}
use Rattle.folder.specs.Folders.{put_all}
use Rattle.tree_runs.specs.Reports.{Entries, IsHonest, CacheSpelled}
use Rattle.top_calls.specs.declared.options.ToolOptions.{ToolOptions}
use Rattle.scripts.specs.Script.{Command}
use Rattle.top_calls.specs.Standing.{Standing}
use Rattle.top_calls.specs.Deeds.{Deed, act, run, stop, deed_of, task_of, Ran, Acts, Does, Leads}
use Rattle.top_calls.specs.Outcome.{Opens, empty, spelled, ignored}
use Rattle.top_calls.specs.Due.{IsLawfulKept}
use Rattle.top_calls.proofs.RunsLaws.{RunLaws}

pub record SameStep (n m : Standing) (r s : List ℕ) : Type 0 where
  pub now : n ≡ m
  pub reply : r ≡ s

same-standing : (a b : Standing) → a.tree ≡ b.tree → a.found ≡ b.found → a.cache ≡ b.cache → a.counts ≡ b.counts → a.loads ≡ b.loads → a.runs ≡ b.runs → a.kept ≡ b.kept → a ≡ b
same-standing a b t f c n l r k =
    ap (λ z. record { tree = z; found = a.found; cache = a.cache; counts = a.counts; loads = a.loads; runs = a.runs; kept = a.kept }) t
    ∙ (ap (λ z. record { tree = b.tree; found = z; cache = a.cache; counts = a.counts; loads = a.loads; runs = a.runs; kept = a.kept }) f
    ∙ (ap (λ z. record { tree = b.tree; found = b.found; cache = z; counts = a.counts; loads = a.loads; runs = a.runs; kept = a.kept }) c
    ∙ (ap (λ z. record { tree = b.tree; found = b.found; cache = b.cache; counts = z; loads = a.loads; runs = a.runs; kept = a.kept }) n
    ∙ (ap (λ z. record { tree = b.tree; found = b.found; cache = b.cache; counts = b.counts; loads = z; runs = a.runs; kept = a.kept }) l
    ∙ (ap (λ z. record { tree = b.tree; found = b.found; cache = b.cache; counts = b.counts; loads = b.loads; runs = z; kept = a.kept }) r
    ∙ ap (λ z. record { tree = b.tree; found = b.found; cache = b.cache; counts = b.counts; loads = b.loads; runs = b.runs; kept = z }) k)))))

pub one_run : RunLaws → (o : ToolOptions) (k : Kind) (s n m : Standing) (r q : List ℕ) → Ran o k s n r → Ran o k s m q → SameStep n m r q
one_run law o k s n m r q a b =
    let e : a.report ≡ b.report = law.report s.tree (task_of o k) s.cache n.cache m.cache a.report b.report a.reports b.reports in
    let c : n.cache ≡ m.cache = law.cache s.tree (task_of o k) s.cache n.cache m.cache a.report b.report a.reports b.reports in
    let t : a.text ≡ b.text = law.text m.cache a.text b.text (subst (λ z. CacheSpelled z a.text) c a.spelled) b.spelled in
    let found : n.found ≡ m.found = a.found ∙ (ap (λ (z : TreeReport). z.found) e ∙ sym b.found) in
    let counts : n.counts ≡ m.counts = a.counts ∙ (ap (λ (z : TreeReport). z.counts) e ∙ sym b.counts) in
    let loads : n.loads ≡ m.loads = a.loads ∙ (ap (λ (z : TreeReport). s.loads + z.counts.loads) e ∙ sym b.loads) in
    let runs : n.runs ≡ m.runs = a.runs ∙ (ap (λ (z : TreeReport). s.runs + z.counts.runs) e ∙ sym b.runs) in
    let tree : n.tree ≡ m.tree = a.tree ∙ (ap (λ (z : TreeReport). put_all s.tree z.changed) e ∙ sym b.tree) in
    let kept : n.kept ≡ m.kept = a.kept ∙ (ap Some t ∙ sym b.kept) in
    record {
      now = same-standing n m tree found c counts loads runs kept;
      reply = a.reply_is ∙ (ap (λ (z : TreeReport). z.text) e ∙ sym b.reply_is);
    }

-- a deed does one thing
pub one_act : RunLaws → (o : ToolOptions) (d : Deed) (s n m : Standing) (r q : List ℕ) → IsHonest s.cache → Acts o d s n r → Acts o d s m q → SameStep n m r q
one_act law o (act sets says) s n m r q h a b = record { now = a.0 ∙ sym b.0; reply = a.1 ∙ sym b.1 }
one_act law o (run k) s n m r q h a b = one_run law o k s n m r q (a h) (b h)
one_act law o stop s n m r q h a b = absurd a

act-honest : RunLaws → (o : ToolOptions) (d : Deed) (s n : Standing) (r : List ℕ) → IsHonest s.cache → Acts o d s n r → IsHonest n.cache
act-honest law o (act sets says) s n r h a = subst IsHonest (sym (ap (λ (z : Standing). z.cache) a.0)) h
act-honest law o (run k) s n r h a = let b = a h in law.honest s.tree (task_of o k) s.cache n.cache b.report h b.reports
act-honest law o stop s n r h a = absurd a

pub step-honest : RunLaws → (o : ToolOptions) (c : Command) (s n : Standing) (r : List ℕ) → IsHonest s.cache → Does o c s n r → IsHonest n.cache
step-honest law o c s n r h d = act-honest law o (deed_of c.word c.fields) s n r h d

act-lawful : RunLaws → (o : ToolOptions) (d : Deed) (s n : Standing) (r : List ℕ) → IsHonest s.cache → IsLawfulKept s.kept → Acts o d s n r → IsLawfulKept n.kept
act-lawful law o (act sets says) s n r h k a = subst IsLawfulKept (sym (ap (λ (z : Standing). z.kept) a.0)) k
act-lawful law o (run kind) s n r h k a =
    let b = a h in
    let honest : IsHonest n.cache = law.honest s.tree (task_of o kind) s.cache n.cache b.report h b.reports in
    subst IsLawfulKept (sym b.kept) (λ small c e. subst IsHonest (law.value n.cache c b.text small b.spelled e) honest)
act-lawful law o stop s n r h k a = absurd a

pub step-lawful : RunLaws → (o : ToolOptions) (c : Command) (s n : Standing) (r : List ℕ) → IsHonest s.cache → IsLawfulKept s.kept → Does o c s n r → IsLawfulKept n.kept
step-lawful law o c s n r h k d = act-lawful law o (deed_of c.word c.fields) s n r h k d

pub record Later (s n : Standing) : Type 0 where
  pub loads : s.loads ≤ n.loads
  pub runs : s.runs ≤ n.runs

act-later : (o : ToolOptions) (d : Deed) (s n : Standing) (r : List ℕ) → IsHonest s.cache → Acts o d s n r → Later s n
act-later o (act sets says) s n r h a = let l : n.loads ≡ s.loads = ap (λ (z : Standing). z.loads) a.0 in let m : n.runs ≡ s.runs = ap (λ (z : Standing). z.runs) a.0 in record { loads = omega arith; runs = omega arith }
act-later o (run k) s n r h a = let b = a h in let l = b.loads in let m = b.runs in record { loads = omega arith; runs = omega arith }
act-later o stop s n r h a = absurd a

-- what commands keep
pub record Keeps (s n : Standing) : Type 0 where
  pub honest : IsHonest n.cache
  pub later : Later s n

pub course-keeps : RunLaws → (o : ToolOptions) (cs : List Command) (s n : Standing) (r : List ℕ) → IsHonest s.cache → Leads o cs s n r → Keeps s n
course-keeps law o [] s n r h a =
    let l : n.loads ≡ s.loads = ap (λ (z : Standing). z.loads) a.0 in let m : n.runs ≡ s.runs = ap (λ (z : Standing). z.runs) a.0 in
    record { honest = subst IsHonest (sym (ap (λ (z : Standing). z.cache) a.0)) h; later = record { loads = omega arith; runs = omega arith } }
course-keeps law o (c ∷ cs) s n r h a =
    let k = course-keeps law o cs a.0 n a.2 (step-honest law o c s a.0 a.1 h a.3) a.4 in
    let e = act-later o (deed_of c.word c.fields) s a.0 a.1 h a.3 in
    let l = e.loads in let m = e.runs in let p = k.later.loads in let q = k.later.runs in
    record { honest = k.honest; later = record { loads = omega arith; runs = omega arith } }

pub course-lawful : RunLaws → (o : ToolOptions) (cs : List Command) (s n : Standing) (r : List ℕ) → IsHonest s.cache → IsLawfulKept s.kept → Leads o cs s n r → IsLawfulKept n.kept
course-lawful law o [] s n r h k a = subst IsLawfulKept (sym (ap (λ (z : Standing). z.kept) a.0)) k
course-lawful law o (c ∷ cs) s n r h k a = course-lawful law o cs a.0 n a.2 (step-honest law o c s a.0 a.1 h a.3) (step-lawful law o c s a.0 a.1 h k a.3) a.4

-- commands lead to one place
pub one_course : RunLaws → (o : ToolOptions) (cs : List Command) (s n m : Standing) (r q : List ℕ) → IsHonest s.cache → Leads o cs s n r → Leads o cs s m q → SameStep n m r q
one_course law o [] s n m r q h a b = record { now = a.0 ∙ sym b.0; reply = a.1 ∙ sym b.1 }
one_course law o (c ∷ cs) s n m r q h a b =
    let e = one_act law o (deed_of c.word c.fields) s a.0 b.0 a.1 b.1 h a.3 b.3 in
    let b4 : Leads o cs a.0 m b.2 = subst (λ z. Leads o cs z m b.2) (sym e.now) b.4 in
    let t = one_course law o cs a.0 n m a.2 b.2 (step-honest law o c s a.0 a.1 h a.3) a.4 b4 in
    record { now = t.now; reply = a.5 ∙ ap (λ z. z ++ a.2) e.reply ∙ ap (λ z. b.1 ++ z) t.reply ∙ sym b.5 }

-- commands lead through the place to which the first of them lead
pub record Splits (o : ToolOptions) (cs ds : List Command) (s n : Standing) (r : List ℕ) : Type 0 where
  pub mid : Standing
  pub first : List ℕ
  pub second : List ℕ
  pub before : Leads o cs s mid first
  pub after : Leads o ds mid n second
  pub whole : r ≡ first ++ second

pub split : (o : ToolOptions) (cs ds : List Command) (s n : Standing) (r : List ℕ) → Leads o (cs ++ ds) s n r → Splits o cs ds s n r
split o [] ds s n r a = record { mid = s; first = []; second = r; before = (refl, refl); after = a; whole = refl }
split o (c ∷ cs) ds s n r a =
    let t = split o cs ds a.0 n a.2 a.4 in
    record {
      mid = t.mid;
      first = a.1 ++ t.first;
      second = t.second;
      before = (a.0, a.1, t.first, a.3, t.before, refl);
      after = t.after;
      whole = a.5 ∙ ap (λ z. a.1 ++ z) t.whole ∙ sym (append_assoc a.1 t.first t.second);
    }

-- one more command
pub Leads-next : (o : ToolOptions) (cs : List Command) (c : Command) (s n m : Standing) (r q : List ℕ) → Leads o cs s n r → Does o c n m q → Leads o (cs ++ c ∷ []) s m (r ++ q)
Leads-next o [] c s n m r q a d =
    let e : Does o c s m q = subst (λ z. Does o c z m q) a.0 d in
    (m, q, [], e, (refl, refl), ap (λ z. z ++ q) a.1 ∙ sym (append-nil q))
Leads-next o (b ∷ cs) c s n m r q a d = (a.0, a.1, a.2 ++ q, a.3, Leads-next o cs c a.0 n m a.2 q a.4 d, ap (λ z. z ++ q) a.5 ∙ append_assoc a.1 a.2 q)

pub record SameOpening (c d : Entries) (g h : List ℕ) : Type 0 where
  pub cache : c ≡ d
  pub greeting : g ≡ h

none-some : (k : Option (List ℕ)) (b : List ℕ) → k ≡ None → k ≡ Some b → ⊥
none-some k b e f = let t : ◌≡◌ {A = Option (List ℕ)} None (Some b) = sym e ∙ f in cc

-- a call begins in one way
pub one_opening : RunLaws → (k : Option (List ℕ)) (c d : Entries) (g h : List ℕ) → Opens k c g → Opens k d h → SameOpening c d g h
one_opening law k c d g h (empty e x y) (empty f z w) = record { cache = x ∙ sym z; greeting = y ∙ sym w }
one_opening law k c d g h (empty e x y) (spelled b f small z w) = absurd (none-some k b e f)
one_opening law k c d g h (empty e x y) (ignored b f z v w) = absurd (none-some k b e f)
one_opening law k c d g h (spelled b e small x y) (empty f z w) = absurd (none-some k b f e)
one_opening law k c d g h (spelled b e small x y) (spelled a f short z w) = let s : b ≡ a = same_Some b a (sym e ∙ f) in record { cache = law.value c d a short (subst (λ q. CacheSpelled c q) s x) z; greeting = y ∙ sym w }
one_opening law k c d g h (spelled b e small x y) (ignored a f z v w) = let s : b ≡ a = same_Some b a (sym e ∙ f) in absurd (z c (subst (λ q. CacheSpelled c q) s x))
one_opening law k c d g h (ignored b e x u y) (empty f z w) = absurd (none-some k b f e)
one_opening law k c d g h (ignored b e x u y) (spelled a f short z w) = let s : b ≡ a = same_Some b a (sym e ∙ f) in absurd (x d (subst (λ q. CacheSpelled d q) (sym s) z))
one_opening law k c d g h (ignored b e x u y) (ignored a f z v w) = record { cache = u ∙ sym v; greeting = y ∙ sym w }

-- over what is lawful a call begins with an honest cache
pub opens-honest : RunLaws → (k : Option (List ℕ)) (c : Entries) (g : List ℕ) → IsLawfulKept k → Opens k c g → IsHonest c
opens-honest law k c g l (empty e x y) = subst IsHonest (sym x) law.fresh
opens-honest law k c g l (spelled b e small x y) = let t : IsLawfulKept (Some b) = subst IsLawfulKept e l in t small c x
opens-honest law k c g l (ignored b e x u y) = subst IsHonest (sym u) law.fresh
