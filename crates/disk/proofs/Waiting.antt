-- How much a listing has left to look into: less with each folder that it looks into.
use Rattle.std.proofs.Common.{◌≡◌, ◌⊎◌, inl, inr, ℕ, suc, ◌+◌, ◌-◌, ◌*◌, ◌^◌, ◌<◌, ◌≤◌, List, [], ◌∷◌, ◌++◌, length, Bool, true, false, Option, refl, ap, subst, sym, ◌∙◌, arith, fold}
use Rattle.std.specs.Prelude.{if◌then◌else◌}
use Rattle.std.specs.List.{AllByRecursion}
use Rattle.std.proofs.Math.Nat.{pow-suc, one-le-pow, pow-le-pow_right, suc-mul, mul-le-mul_right, mul_comm}
use Rattle.std.proofs.lemmas.List.{length-append}
use Rattle.gv_base.specs.Files.{Entry}
use Rattle.gv_base.specs.Paths.{IsSegment, slash}
use Rattle.disk.specs.Folders.{Placed, Named, child}
use Rattle.disk.specs.Names.{is_segment, enters, waiting_with, IsFolder}
use Rattle.disk.specs.Searches.{Turned, Turns}
use Rattle.disk.proofs.Members.{and-first}
use Rattle.disk.proofs.PathTests.{segment-of}
use Rattle.disk.proofs.Taking.{all-last}
use Rattle.disk.proofs.Progressing.{UnderWay}

-- What waiting folders weigh, where a folder has fewer than b items: a folder's path of n bytes may grow by 1024 - n, and
-- with each byte more it weighs a b-th.
abbrev pub weights : ℕ → List (List ℕ) → ℕ
weights b [] = 0
weights b (path ∷ paths) = b ^ (1025 - length path) + weights b paths

one-more : (first rest all last : ℕ) → all ≡ rest + last → first + all ≡ first + rest + last
one-more first rest all last e = omega (arith, e)

weights-more : (b : ℕ) (paths : List (List ℕ)) (path : List ℕ) → weights b (paths ++ path ∷ []) ≡ weights b paths + b ^ (1025 - length path)
weights-more b [] path = omega arith
weights-more b (first ∷ paths) path = one-more (b ^ (1025 - length first)) (weights b paths) (weights b (paths ++ path ∷ [])) (b ^ (1025 - length path)) (weights-more b paths path)

-- what stands in a folder has a longer path
child-longer : (folder name : List ℕ) → IsSegment name → length folder < length (child folder name)
child-longer [] name seg = seg.some
child-longer (b ∷ folder) name seg =
    let l : length (child (b ∷ folder) name) ≡ length (b ∷ folder) + length (slash ∷ name) = length-append (b ∷ folder) (slash ∷ name) in
    omega (arith, l)

-- one item adds at most a b-th of what its folder weighed
one-weighs : (b : ℕ) (folder : List ℕ) → 0 < b → (waiting : List (List ℕ)) (item : Named) → weights b (waiting_with folder waiting item) ≤ weights b waiting + b ^ (1024 - length folder)
one-weighs b folder some waiting item = by (enters folder item) refl
  where
    at_most : (old sum more most : ℕ) → sum ≡ old + more → more ≤ most → sum ≤ old + most
    at_most old sum more most e h = omega (arith, e, h)

    by : (c : Bool) → enters folder item ≡ c → weights b (if c then waiting ++ child folder item.0 ∷ [] else waiting) ≤ weights b waiting + b ^ (1024 - length folder)
    by true e =
        let longer = child-longer folder item.0 (segment-of item.0 (and-first (is_segment item.0) _ e)) in
        let below : 1025 - length (child folder item.0) ≤ 1024 - length folder = omega (arith, longer) in
        at_most (weights b waiting) _ (b ^ (1025 - length (child folder item.0))) _ (weights-more b waiting (child folder item.0)) (pow-le-pow_right some below)
    by false e = omega arith

-- and all its items at most one each
all-weigh : (b : ℕ) (folder : List ℕ) (w : ℕ) → ((waiting : List (List ℕ)) (item : Named) → weights b (waiting_with folder waiting item) ≤ weights b waiting + w)
    → (items : List Named) (waiting : List (List ℕ)) → weights b (fold (waiting_with folder) waiting items) ≤ weights b waiting + length items * w
all-weigh b folder w one [] waiting = omega arith
all-weigh b folder w one (item ∷ items) waiting = step (length items) (suc-mul (length items) w) (one waiting item) (all-weigh b folder w one items (waiting_with folder waiting item))
  where
    step : (n : ℕ) → suc n * w ≡ n * w + w → weights b (waiting_with folder waiting item) ≤ weights b waiting + w
        → weights b (fold (waiting_with folder) (waiting_with folder waiting item) items) ≤ weights b (waiting_with folder waiting item) + n * w
        → weights b (fold (waiting_with folder) (waiting_with folder waiting item) items) ≤ weights b waiting + suc n * w
    step n times first rest = omega (arith, times, first, rest)

less-by : (n b w old new sum : ℕ) → n < b → 1 ≤ w → new ≤ old + n * w → sum ≡ old + w * b → new < sum
less-by n b w old new sum few some h e =
    let below : suc n ≤ b = omega (arith, few) in
    let more : suc n * w ≤ b * w = mul-le-mul_right w below in
    let one : suc n * w ≡ n * w + w = suc-mul n w in
    let turn : b * w ≡ w * b = mul_comm b w in
    omega (arith, more, one, turn, some, h, e)

-- the folder goes, and what comes weighs less
looks-less : (b : ℕ) (folder : List ℕ) (items : List Named) (rest : List (List ℕ)) → length folder ≤ 1024 → length items < b → weights b (fold (waiting_with folder) rest items) < weights b (rest ++ folder ∷ [])
looks-less b folder items rest short few =
    let some : 0 < b = omega (arith, few) in
    let room : 1025 - length folder ≡ suc (1024 - length folder) = omega (arith, short) in
    let heavy : b ^ (1025 - length folder) ≡ b ^ (1024 - length folder) * b = ap (λ r. b ^ r) room ∙ pow-suc b (1024 - length folder) in
    less-by (length items) b (b ^ (1024 - length folder)) (weights b rest) _ _ few (one-le-pow (1024 - length folder) b some)
    (all-weigh b folder (b ^ (1024 - length folder)) (one-weighs b folder some) items rest) (weights-more b rest folder ∙ ap (λ z. weights b rest + z) heavy)

folder-short : (folder : List ℕ) → IsFolder folder → length folder ≤ 1024
folder-short folder (inl e) = let l : length folder ≡ 0 = ap length e in omega (arith, l)
folder-short folder (inr p) = p.most

-- one turn
turned-less : (slots : Option (List Placed)) (found found' : List Entry) (waiting waiting' : List (List ℕ)) → UnderWay slots found waiting → Turned slots found found' waiting waiting' → weights (2 ^ 64) waiting' < weights (2 ^ 64) waiting
turned-less slots found found' waiting waiting' u t =
    let P : List (List ℕ) → Type 0 = λ z. AllByRecursion IsFolder z in
    let short = folder-short t.folder (all-last IsFolder t.rest t.folder (subst P t.split u.folders)) in
    let Q : List (List ℕ) → Type 0 = λ z. weights (2 ^ 64) z < weights (2 ^ 64) waiting in
    let R : List (List ℕ) → Type 0 = λ z. weights (2 ^ 64) (fold (waiting_with t.folder) t.rest t.looks.items) < weights (2 ^ 64) z in
    subst Q (sym t.looks.folders) (subst R (sym t.split) (looks-less (2 ^ 64) t.folder t.looks.items t.rest short t.looks.few))

-- a turn after which the listing goes on
pub way-less : (slots : Option (List Placed)) (found found' : List Entry) (waiting waiting' : List (List ℕ)) (more : Bool) → more ≡ true → UnderWay slots found waiting → Turns slots found found' waiting waiting' more → weights (2 ^ 64) waiting' < weights (2 ^ 64) waiting
way-less slots found found' waiting waiting' true e u t = turned-less slots found found' waiting waiting' u t
way-less slots found found' waiting waiting' false e u t = absurd (let f : ◌≡◌ {A = Bool} false true = e in cc)
