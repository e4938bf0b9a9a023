-- The files of a package, as they are read.
use Rattle.std.proofs.Common.{◌≡◌, ◌^◌, ℕ, zero, suc, ◌+◌, ◌<◌, ◌≤◌, ◌⊎◌, List, [], ◌∷◌, ◌++◌, Option, Some, None, map, length, option_map, slice_get, refl, sym, ap, ◌∙◌, subst, inl, inr, arith, length-append}
use Rattle.std.specs.Global.{Vec}
use Rattle.std.proofs.lemmas.Option.{slice_get-map}
use Rattle.go_tree.specs.Arena.{arena_of}
use Rattle.go_tree.specs.Forest.{Forest}
use Rattle.go_tree.specs.declared.tree.FileTree.{FileTree}
use Rattle.file_uses.specs.Read.{AreLocals}
use Rattle.scopes.specs.Regions.{file_names}
use Rattle.scopes.specs.declared.scope.Named.{Named}
use Rattle.bind.specs.Answers.{IsRead, AreReadTo, AreReadOf, AreRead, AreNamed, HaveNames}
use Rattle.bind.specs.Sources.{Source, AreFiles}
use Rattle.bind.specs.declared.file.File.{File}
use Rattle.gv_base.proofs.Lists.{at_end, get_left, push_cases}

-- a file of a call, and its source
pub record IsSourceOf (t : FileTree) (e : List ℕ × List ℕ) (s : Source) : Type 0 where
  pub tree : s.tree ≡ t
  pub path : s.path ≡ e.0
  pub bytes : s.bytes ≡ e.1
  pub arena : arena_of t.tokens s.forest ≡ t

same_tree : (a b : FileTree) → Some a ≡ Some b → a ≡ b
same_tree a b e = cc

same_entry : (a b : List ℕ × List ℕ) → Some a ≡ Some b → a ≡ b
same_entry a b e = cc

same_source : (a b : Source) → Some a ≡ Some b → a ≡ b
same_source a b e = cc

source_at : (ts : List FileTree) (es : List (List ℕ × List ℕ)) (ss : List Source) (i : ℕ) (t : FileTree) (e : List ℕ × List ℕ) (s : Source) → AreFiles ts es ss
    → slice_get ts i ≡ Some t → slice_get es i ≡ Some e → slice_get ss i ≡ Some s → IsSourceOf t e s
source_at [] es ss i t e s are is_t is_e is_s = absurd (cc)
source_at (x ∷ ts) [] ss i t e s are is_t is_e is_s = absurd (cc)
source_at (x ∷ ts) (y ∷ es) [] i t e s are is_t is_e is_s = absurd (cc)
source_at (x ∷ ts) (y ∷ es) (z ∷ ss) zero t e s (tree, path, bytes, arena, others) is_t is_e is_s =
    let a : x ≡ t = same_tree x t is_t in
    let b : y ≡ e = same_entry y e is_e in
    subst (λ (u : Source). IsSourceOf t e u) (same_source z s is_s)
    (subst (λ (u : List ℕ × List ℕ). IsSourceOf t u z) b (subst (λ (u : FileTree). IsSourceOf u y z) a (record { tree = tree; path = path; bytes = bytes; arena = arena })))
source_at (x ∷ ts) (y ∷ es) (z ∷ ss) (suc i) t e s (tree, path, bytes, arena, others) is_t is_e is_s = source_at ts es ss i t e s others is_t is_e is_s

pub files_size : (ts : List FileTree) (es : List (List ℕ × List ℕ)) (ss : List Source) → AreFiles ts es ss → length ts ≡ length ss
files_size [] [] [] are = refl
files_size [] [] (s ∷ ss) are = absurd are
files_size [] (e ∷ es) ss are = absurd are
files_size (t ∷ ts) [] ss are = absurd are
files_size (t ∷ ts) (e ∷ es) [] are = absurd are
files_size (t ∷ ts) (e ∷ es) (s ∷ ss) (tree, path, bytes, arena, others) = ap (λ n. suc n) (files_size ts es ss others)

is_read : (f : File) (t : FileTree) (e : List ℕ × List ℕ) (s : Source) → IsSourceOf t e s → f.path.now ≡ e.0 → f.bytes.now ≡ e.1 → f.tree.now ≡ t
    → ((g : Forest) → arena_of t.tokens g ≡ t → AreLocals e.1 t g f.locals) → length t.nodes ≤ 2 ^ 32 → IsRead f s
is_read f t e s of path bytes tree locals fit = record {
  path = path ∙ sym of.path;
  bytes = bytes ∙ sym of.bytes;
  tree = tree ∙ sym of.tree;
  locals = subst (λ (b : List ℕ). AreLocals b s.tree s.forest f.locals) (sym of.bytes) (subst (λ (u : FileTree). AreLocals e.1 u s.forest f.locals) (sym of.tree) (locals s.forest of.arena));
  fit = subst (λ (u : FileTree). length u.nodes ≤ 2 ^ 32) (sym of.tree) fit;
}

pub none_read : (ss : List Source) (fs : List File) → fs ≡ [] → AreReadTo 0 fs ss
none_read ss fs is = record { size = ap length is; each = λ i s low there. absurd (omega arith) }

pub one_read : (ts : List FileTree) (es : List (List ℕ × List ℕ)) (ss : List Source) (n : ℕ) (fs : List File) (f : File) (t : FileTree) (e : List ℕ × List ℕ) → AreFiles ts es ss
    → slice_get ts n ≡ Some t → slice_get es n ≡ Some e → f.path.now ≡ e.0 → f.bytes.now ≡ e.1 → f.tree.now ≡ t → ((g : Forest) → arena_of t.tokens g ≡ t → AreLocals e.1 t g f.locals) → length t.nodes ≤ 2 ^ 32
    → AreReadTo n fs ss → AreReadTo (n + 1) (fs ++ f ∷ []) ss
one_read ts es ss n fs f t e are is_t is_e path bytes tree locals fit was = record {
  size = (let l = length-append fs (f ∷ []) in let s = was.size in omega arith);
  each = λ i s low there. elim (before_or_at i n low) [
    | inl before ↦ earlier i s before there
    | inr here ↦ this i s here there
  ];
} where
  before_or_at : (k i : ℕ) → k < i + 1 → (k < i) ⊎ (k ≡ i)
  before_or_at k i h = grind arith

  earlier : (i : ℕ) (s : Source) → i < n → slice_get ss i ≡ Some s → (g : File) × (slice_get (fs ++ f ∷ []) i ≡ Some g) × IsRead g s
  earlier i s low there = let (g, at, is) = was.each i s low there in (g, get_left fs (f ∷ []) i g at, is)

  this : (i : ℕ) (s : Source) → i ≡ n → slice_get ss i ≡ Some s → (g : File) × (slice_get (fs ++ f ∷ []) i ≡ Some g) × IsRead g s
  this i s here there = (
    f,
    ap (λ x. slice_get (fs ++ f ∷ []) x) (here ∙ sym was.size) ∙ at_end fs f,
    is_read f t e s (source_at ts es ss n t e s are is_t is_e (ap (λ x. slice_get ss x) (sym here) ∙ there)) path bytes tree locals fit,
  )

pub all_read : (ts : List FileTree) (es : List (List ℕ × List ℕ)) (ss : List Source) (n : ℕ) (fs : List File) → AreFiles ts es ss → length ts ≤ n → n ≤ length ts → AreReadTo n fs ss → AreRead fs ss
all_read ts es ss n fs are end within was = record {
  size = (let a = was.size in let b = files_size ts es ss are in omega arith);
  each = λ i s there. was.each i s (let low = within_list ss i s there in let b = files_size ts es ss are in omega arith) there;
} where
  within_list : (xs : List Source) (i : ℕ) (s : Source) → slice_get xs i ≡ Some s → i < length xs
  within_list [] i s e = absurd (cc)
  within_list (x ∷ xs) zero s e = omega arith
  within_list (x ∷ xs) (suc i) s e = let r = within_list xs i s e in omega arith

-- ---- the loop over the files

pub none_of : (ts : List FileTree) (es : List (List ℕ × List ℕ)) (fs : List File) → fs ≡ [] → AreReadOf ts es 0 fs
none_of ts es fs is = record {
  count = ap length is;
  fit = λ i f there. absurd (let e : slice_get [] i ≡ Some f = ap (λ l. slice_get l i) (sym is) ∙ there in cc);
  named = λ i t f at there g arena. absurd (let e : slice_get [] i ≡ Some f = ap (λ l. slice_get l i) (sym is) ∙ there in cc);
  read = λ ss are. none_read ss fs is;
}

last_or_before : (fs : List File) (x f : File) (k : ℕ) → slice_get (fs ++ x ∷ []) k ≡ Some f → (slice_get fs k ≡ Some f) ⊎ (x ≡ f)
last_or_before [] x f zero e = inr (it x f e) where
  it : (x f : File) → Some x ≡ Some f → x ≡ f
  it x f e = cc
last_or_before [] x f (suc k) e = absurd (cc)
last_or_before (y ∷ fs) x f zero e = inl e
last_or_before (y ∷ fs) x f (suc k) e = last_or_before fs x f k e

-- one file more with the names of its trees
named_more : (ts : List FileTree) (n : ℕ) (fs : List File) (f : File) (t : FileTree) → length fs ≡ n → slice_get ts n ≡ Some t → AreNamed ts fs → ((g : Forest) → arena_of t.tokens g ≡ t → f.locals.names.items ≡ file_names g)
    → AreNamed ts (fs ++ f ∷ [])
named_more ts n fs f t size at was names i u h is_t is_h g arena = elim (push_cases fs f h i is_h) [
  | inl before ↦ was i u h is_t before g arena
  | inr (here, same) ↦
      let one : t ≡ u = same_tree t u (sym at ∙ (ap (λ k. slice_get ts k) (sym size ∙ sym here) ∙ is_t)) in
      subst (λ (x : File). x.locals.names.items ≡ file_names g) same (names g (subst (λ (x : FileTree). arena_of x.tokens g ≡ x) (sym one) arena))
]

pub one_of : (ts : List FileTree) (es : List (List ℕ × List ℕ)) (n : ℕ) (old new : List File) (f : File) (t : FileTree) (e : List ℕ × List ℕ) (bytes : List ℕ) → AreReadOf ts es n old → new ≡ old ++ f ∷ []
    → slice_get ts n ≡ Some t → slice_get es n ≡ Some e → f.path.now ≡ e.0 → bytes ≡ e.1 → f.bytes.now ≡ bytes → f.tree.now ≡ t → ((g : Forest) → arena_of t.tokens g ≡ t → AreLocals bytes t g f.locals)
    → length t.nodes ≤ 2 ^ 32 → AreReadOf ts es (n + 1) new
one_of ts es n old new f t e bytes was is is_t is_e path bytes_are of_bytes tree locals fit = subst (λ (l : List File). AreReadOf ts es (n + 1) l) (sym is) (record {
  count = (let l = length-append old (f ∷ []) in let s = was.count in omega arith);
  fit = λ i g there. elim (last_or_before old f g i there) [
    | inl before ↦ was.fit i g before
    | inr same ↦ subst (λ (x : File). length x.tree.now.nodes ≤ 2 ^ 32) same (subst (λ (x : FileTree). length x.nodes ≤ 2 ^ 32) (sym tree) fit)
  ];
  named = named_more ts n old f t was.count is_t was.named (λ g arena. (locals g arena).names);
  read = λ ss are. one_read ts es ss n old f t e are is_t is_e path (of_bytes ∙ bytes_are) tree (λ g arena. subst (λ (b : List ℕ). AreLocals b t g f.locals) bytes_are (locals g arena)) fit (was.read ss are);
})

pub all_of : (ts : List FileTree) (es : List (List ℕ × List ℕ)) (n : ℕ) (fs : List File) → length ts ≤ n → n ≤ length ts → AreReadOf ts es n fs → (ss : List Source) → AreFiles ts es ss → AreRead fs ss
all_of ts es n fs end within was ss are = all_read ts es ss n fs are end within (was.read ss are)

-- ---- the names of the files that were read

abbrev names_in : File → Vec Named
names_in f = f.locals.names

names_size : (fs : List File) → length (map names_in fs) ≡ length fs
names_size [] = refl
names_size (f ∷ fs) = ap (λ n. suc n) (names_size fs)

of_file : (o : Option File) (row : Vec Named) → option_map names_in o ≡ Some row → (f : File) × (o ≡ Some f) × (names_in f ≡ row)
of_file None row e = absurd (cc)
of_file (Some f) row e = (f, refl, cc)

pub names_kept : (ts : List FileTree) (fs : List File) (rows : List (Vec Named)) → length fs ≡ length ts → AreNamed ts fs → rows ≡ map names_in fs → HaveNames ts rows
names_kept ts fs rows size named are = record {
  size = ap (λ (l : List (Vec Named)). length l) are ∙ (names_size fs ∙ size);
  each = λ i t row is_t is_row g arena.
      let (f, there, same) = of_file (slice_get fs i) row (sym (slice_get-map names_in fs i) ∙ (ap (λ (l : List (Vec Named)). slice_get l i) (sym are) ∙ is_row)) in
      ap (λ (x : Vec Named). x.items) (sym same) ∙ named i t f is_t there g arena;
}
