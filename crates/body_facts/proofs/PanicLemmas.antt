-- Files in which nothing denotes `panic`.
use Rattle.std.proofs.Common.{◌≡◌, ℕ, zero, suc, ◌<◌, ◌≤◌, ◌+◌, Bool, true, false, List, length, replicate, set, get_or, Option, None, refl, sym, ap, ◌∙◌, subst, inl, inr, arith}
use Rattle.gv_base.proofs.Lists.{split}
use Rattle.go_tree.specs.declared.tree.Node.{Node}
use Rattle.go_tree.proofs.NodeLemmas.{differ}
use Rattle.object_order.specs.Spots.{place}
use Rattle.node_values.specs.Handed.{AreHandedFrom, IsHandedDown, handed}
use Rattle.node_values.specs.Parents.{at, AreParents}
use Rattle.node_values.specs.Trees.{IsTree}
use Rattle.node_values.proofs.HandLemmas.{handed_more, none_handed, all_handed, tops_are}
use Rattle.unit_read.specs.Units.{Unit, object_at}
use Rattle.body_facts.specs.NameTables.{is_panic, callee_rule, DenotesPanic, ArePanics}

pub no_panic_more : (u : Unit) (f n : ℕ) → is_panic (object_at u (place f n)) ≡ false → ((m : ℕ) → DenotesPanic u f n m → ⊥) → (m : ℕ) → DenotesPanic u f (n + 1) m → ⊥
no_panic_more u f n fails before m is = elim (split m n is.0) [
  | inl less ↦ before m (less, is.1)
  | inr here ↦ differ (is_panic (object_at u (place f m))) (ap (λ (k : ℕ). is_panic (object_at u (place f k))) here ∙ fails) is.1
]

-- ---- there is a list of what is handed down, also where none is made

module _ {A : Type 0} (rule : ℕ → Node → ℕ → A → A) (top : A) (nodes : List Node) (parents : List ℕ) (tree : IsTree nodes) (parts : AreParents nodes (length nodes) parents) where
  from_last : (room left : ℕ) → length nodes ≡ left + room → (found : List A) × AreHandedFrom rule top nodes (at parents) left found
  from_last zero left e = (
    replicate (length nodes) top,
    subst (λ (k : ℕ). AreHandedFrom rule top nodes (at parents) k (replicate (length nodes) top)) (let same : length nodes ≡ left = omega (arith, e) in same)
        (none_handed rule top nodes (at parents) (length nodes) (replicate (length nodes) top) refl (tops_are (length nodes) top (replicate (length nodes) top) refl)),
  )
  from_last (suc room) left e =
      let r = from_last room (left + 1) (omega (arith, e)) in
      let v = handed rule top nodes r.0 left (at parents left) in
      (set r.0 left v, handed_more rule top nodes parents r.0 left v tree parts (omega (arith, e)) refl r.1)

  pub handed_there : (found : List A) × IsHandedDown rule top nodes found
  handed_there =
      let r = from_last (length nodes) 0 (omega arith) in
      (r.0, record { parents = parents; are_parents = parts; handed = all_handed rule top nodes parents r.0 0 tree parts (omega arith) r.1 })

pub none_panic : (u : Unit) (f : ℕ) (nodes : List Node) (parents : List ℕ) (flags : List Bool) → IsTree nodes → AreParents nodes (length nodes) parents → flags ≡ replicate (length nodes) false
    → ((n : ℕ) → DenotesPanic u f (length nodes) n → ⊥) → ArePanics u f nodes flags
none_panic u f nodes parents flags tree parts is none =
    let r = handed_there {A = Option ℕ} callee_rule None nodes parents tree parts in
    let tops = tops_are (length nodes) false flags is in
    record {
      found = r.0;
      callees = r.1;
      flagged = record {
        size = tops.size;
        each = λ t low. (λ e. absurd (differ (get_or flags t false) (tops.each t) e), λ (n, less, leads). absurd (none n (less, leads.0)));
      };
    }
