-- Left recursion: an operand is a prefix and then suffixes, each of a level that its left side allows.
use Rattle.std.proofs.Common.{◌≡◌, ℕ, ◌≤◌, ◌-◌, List, [], ◌∷◌, length, refl, arith, subst, sym}
use Rattle.std.proofs.Math.Nat.{le_refl}
use Rattle.go_tree.specs.declared.grammar.Setting.{Setting}
use Rattle.go_tree.specs.declared.grammar.Symbol.TheVariants.{Operand}
use Rattle.go_tree.specs.Forest.{Forest, ◌⊕◌}
use Rattle.go_tree.specs.Operands.{prefixes, suffixes}
use Rattle.go_tree.specs.Rule.{Rule}
use Rattle.go_parse.specs.State.{Grows, stop, goes_on}
use Rattle.go_parse.proofs.Forests.{beside_none}
use Rattle.go_parse.proofs.Begin.{suffix_low}
use Rattle.go_tree.specs.Spells.{Among, Spells, Closes, done, prefix, suffix}

pub weaken : {n p m : ℕ} {v : Setting} {f : Forest} {xs ys : List ℕ} → p ≤ m → Spells n (Operand m v ∷ []) f xs ys → Spells n (Operand p v ∷ []) f xs ys
weaken h (prefix r a l s e t) = prefix r a (omega arith) s e t
weaken h (suffix r a l left s e t) = suffix r a (omega arith) left s e t

pub snoc : {n q p a : ℕ} {v : Setting} {m : ℕ} {o left parts t : Forest} {xs ys ws zs : List ℕ}
    → Grows n q a v m o xs left ys → p ≤ q → q ≤ m → (r : Rule) → Among r (suffixes v) → r.left ≡ q → p ≤ r.level → Spells n r.symbols parts ys ws → Closes n r.ending a (left ⊕ parts) t ws zs
    → Grows n p a v m o xs t zs
snoc stop l1 l2 r h e w s c = goes_on r h w (omega arith) s c stop
snoc (goes_on r' h' l l' s' c' g) l1 l2 r h e w s c = goes_on r' h' (omega arith) l' s' c' (snoc g l1 l r h e w s c)

pub record Head (n p : ℕ) (v : Setting) (f : Forest) (xs zs : List ℕ) : Type 0 where
  pub r : Rule
  pub among : Among r (prefixes v)
  pub low : p ≤ r.level
  pub parts : Forest
  pub t : Forest
  pub ws : List ℕ
  pub ys : List ℕ
  pub spelled : Spells n r.symbols parts xs ws
  pub closes : Closes n r.ending (n - length xs) parts t ws ys
  pub grows : Grows n p (n - length xs) v r.level t ys f zs

pub to_head : {n p : ℕ} {v : Setting} {f : Forest} {xs zs : List ℕ} → Spells n (Operand p v ∷ []) f xs zs → Head n p v f xs zs
to_head {n = n} {p = p} {v = v} {xs = xs} (prefix {t = t} {ws = ws} {ys = ys} r a l s e done) = record { r = r; among = a; low = l; parts = _; t = t; ws = ws; ys = ys; spelled = s; closes = e; grows = subst (λ f. Grows n p (n - length xs) v r.level t ys f ys) (sym (beside_none t)) stop }
to_head {n = n} {p = p} {v = v} {xs = xs} {zs = zs} (suffix {t = t} r a l left s e done) =
    let h = to_head left in
    let k = suffix_low v r a in
    record {
      r = h.r;
      among = h.among;
      low = (let z = h.low in omega (arith, z, k));
      parts = h.parts;
      t = h.t;
      ws = h.ws;
      ys = h.ys;
      spelled = h.spelled;
      closes = h.closes;
      grows = subst (λ f. Grows n p (n - length xs) v h.r.level h.t h.ys f zs) (sym (beside_none t)) (snoc h.grows (omega (arith, k)) h.low r a refl l s e);
    }

pub from_head : {n p a : ℕ} {v : Setting} {m : ℕ} {left f : Forest} {ws xs ys : List ℕ} → Grows n p a v m left xs f ys → a ≡ n - length ws → p ≤ m
    → Spells n (Operand m v ∷ []) left ws xs → Spells n (Operand p v ∷ []) f ws ys
from_head stop e l s = weaken l s
from_head {n = n} {a = a} {v = v} {ws = ws} (goes_on {left = left} {parts = parts} {t = t} {ws = us} {ys = ys} r h l l' s' c g) e lm s =
    let c' = subst (λ b. Closes n r.ending b (left ⊕ parts) t us ys) e c in
    from_head g e l (subst (λ f. Spells n (Operand r.level v ∷ []) f ws ys) (beside_none t) (suffix {p = r.level} r h (le_refl r.level) (weaken l' s) s' c' done))
