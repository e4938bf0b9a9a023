-- Flags of calls of `panic`.
use Rattle.std.proofs.Common.{◌≡◌, ◌⊎◌, inl, inr, ◌<◌, ◌≤◌, ◌+◌, ℕ, zero, suc, Bool, true, false, cond, List, [], ◌∷◌, ◌++◌, length, Option, Some, None, refl, sym, ap, ◌∙◌, subst, arith, below_more}
use Rattle.std.specs.Prelude.{slice_get, option_and_then}
use Rattle.std.proofs.lemmas.List.{length-append}
use Rattle.std.proofs.lemmas.Option.{slice_get_past}
use Rattle.go_tree.specs.declared.tree.FileTree.{FileTree}
use Rattle.go_tree.specs.declared.tree.Node.{Node}
use Rattle.file_uses.specs.Numbers.{name_in}
use Rattle.flow.specs.Passing.{flag_of}
use Rattle.file_flow.specs.File.{is_call, callee_of, is_panic, calls_panic}
use Rattle.file_flow.proofs.TreeLemmas.{either}

-- the flags of the first few nodes
pub record AreRight (bytes : List ℕ) (tree : FileTree) (few : ℕ) (flags : List Bool) : Type 0 where
  pub size : length flags ≡ few
  pub right : (n : ℕ) → n < few → flag_of flags n ≡ calls_panic bytes tree n

flag_kept : (flags : List Bool) (b : Bool) (i : ℕ) → i < length flags → flag_of (flags ++ b ∷ []) i ≡ flag_of flags i
flag_kept [] b i low = absurd (omega (arith, low))
flag_kept (f ∷ flags) b zero low = refl
flag_kept (f ∷ flags) b (suc i) low = flag_kept flags b i (omega arith)

flag_new : (flags : List Bool) (b : Bool) → flag_of (flags ++ b ∷ []) (length flags) ≡ b
flag_new [] b = refl
flag_new (f ∷ flags) b = flag_new flags b

flag_past : (flags : List Bool) (i : ℕ) → length flags ≤ i → flag_of flags i ≡ false
flag_past [] i high = refl
flag_past (f ∷ flags) zero high = absurd (omega (arith, high))
flag_past (f ∷ flags) (suc i) high = flag_past flags i (omega arith)

pub none_right : (bytes : List ℕ) (tree : FileTree) (flags : List Bool) → flags ≡ [] → AreRight bytes tree 0 flags
none_right bytes tree flags is = record {
  size = ap length is;
  right = λ n low. absurd (omega (arith, low));
}

pub right_more : (bytes : List ℕ) (tree : FileTree) (n : ℕ) (b : Bool) (flags new : List Bool) → b ≡ calls_panic bytes tree n → new ≡ flags ++ b ∷ []
    → AreRight bytes tree n flags → AreRight bytes tree (n + 1) new
right_more bytes tree n b flags new told pushed a =
    let s = a.size in
    record {
      size = ap length pushed ∙ (length-append flags (b ∷ []) ∙ omega arith);
      right = below_more _ _
          (λ m low. ap (λ l. flag_of l m) pushed ∙ (flag_kept flags b m (omega arith) ∙ a.right m low))
          (ap (λ l. flag_of l n) pushed ∙ (ap (flag_of (flags ++ b ∷ [])) (sym s) ∙ (flag_new flags b ∙ told)));
    }

no_call : (bytes : List ℕ) (tree : FileTree) (n : ℕ) → length tree.nodes ≤ n → calls_panic bytes tree n ≡ false
no_call bytes tree n high =
    let none : slice_get tree.nodes n ≡ None = slice_get_past tree.nodes n high in
    ap (λ o. is_panic (option_and_then (name_in bytes tree) (option_and_then (λ (node : Node). cond (is_call node.kind) (slice_get node.parts 0) None) o))) none

low_or : (n m : ℕ) → (m < n) ⊎ (n ≤ m)
low_or zero m = inr (omega arith)
low_or (suc n) zero = inl (omega arith)
low_or (suc n) (suc m) = either (low_or n m) (λ l. inl (omega arith)) (λ h. inr (omega arith))

pub all_right : (bytes : List ℕ) (tree : FileTree) (few : ℕ) (flags : List Bool) → few ≡ length tree.nodes → AreRight bytes tree few flags
    → (n : ℕ) → flag_of flags n ≡ calls_panic bytes tree n
all_right bytes tree few flags end a n = either (low_or few n)
    (λ low. a.right n low)
    (λ high. let s = a.size in flag_past flags n (omega arith) ∙ sym (no_call bytes tree n (omega arith)))
