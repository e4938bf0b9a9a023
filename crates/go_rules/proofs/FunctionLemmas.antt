-- The rule of a signature asks for marks and puts no question.
use Rattle.std.proofs.Common.{◌≡◌, ℕ, ◌+◌, Bool, true, false, if◌then◌else◌, List, Option, Some, None}
use Rattle.std.specs.Option.{option_map_or}
use Rattle.go_tree.specs.declared.tree.Node.{Node}
use Rattle.package_objects.specs.Declares.{part, kind_at}
use Rattle.mark_walk.specs.Asks.{done, ask, put, bind}
use Rattle.mark_walk.specs.Telling.{tell, Waits, Puts, Sight}
use Rattle.type_questions.specs.Questions.{Question, Told}
use Rattle.typed_marks.specs.declared.item.Item.{Item}
use Rattle.typed_marks.specs.declared.item.Stage.{Stage}
use Rattle.typed_marks.specs.declared.item.Stage.TheVariants as st
use Rattle.typed_marks.specs.Meanings.{Known, Meaning}
use Rattle.unit_read.specs.Units.{Unit}
use Rattle.rule_words.specs.Asking.{Asks, Rule, mark_ask, stands, item}
use Rattle.rule_words.specs.Good.{known_told}
use Rattle.type_rules.specs.Signatures.{Params, params_told, results_node, results_rule, joined_rule, resulting_rule, taking_rule, from_params, params_ask, signature_rule}

abbrev IsAsking : {R : Type 0} → Asks R → Type 0
IsAsking (done x) = Prim.Unit {0}
IsAsking (ask i more) = (m : Meaning) → IsAsking (more m)
IsAsking (put q more) = ⊥

asking_bind : {R S : Type 0} (r : Asks R) (rest : R → Asks S) → IsAsking r → ((x : R) → IsAsking (rest x)) → IsAsking (bind r rest)
asking_bind (done x) rest first more = more x
asking_bind (ask i after) rest first more = λ m. asking_bind (after m) rest (first m) more
asking_bind (put q after) rest first more = absurd first

asking_map : {A R : Type 0} (f : A → Asks R) (o : Option A) (other : Asks R) → ((a : A) → IsAsking (f a)) → IsAsking other → IsAsking (option_map_or f o other)
asking_map f None other each rest = rest
asking_map f (Some a) other each rest = each a

asking_if : {R : Type 0} (b : Bool) (r other : Asks R) → IsAsking r → IsAsking other → IsAsking (if b then r else other)
asking_if true r other is rest = is
asking_if false r other is rest = rest

asking_mark : (u : Unit) (stage : Stage) (block n : ℕ) → IsAsking (mark_ask u stage block n)
asking_mark u stage block n = asking_if (stands u block n) (ask (item stage block n) (λ m. done m)) _ (λ m. tt) tt

asking_results : (u : Unit) (block : ℕ) (nodes : List Node) (results : Option ℕ) (ps : Params) → IsAsking (results_rule u block nodes results ps)
asking_results u block nodes None ps = tt
asking_results u block nodes (Some n) ps =
    asking_bind (mark_ask u st.Placed block n) (λ m. resulting_rule (kind_at nodes n) ps m) (asking_mark u st.Placed block n)
    (λ m. asking_map (λ y. joined_rule (kind_at nodes n) ps y) (known_told m) _ (λ y. tt) tt)

asking_taking : (u : Unit) (block : ℕ) (nodes : List Node) (results : Option ℕ) (x : Known) → IsAsking (taking_rule u block nodes results x)
asking_taking u block nodes results x =
    asking_map (results_rule u block nodes results) (params_told x.of) _ (λ ps. asking_results u block nodes results ps) tt

asking_params : (u : Unit) (block : ℕ) (nodes : List Node) (results : Option ℕ) (n : ℕ) → IsAsking (params_ask u block nodes results n)
asking_params u block nodes results n =
    asking_bind (mark_ask u st.Placed block n) (λ m. from_params u block nodes results m) (asking_mark u st.Placed block n)
    (λ m. asking_map (λ x. taking_rule u block nodes results x) (known_told m) _ (λ x. asking_taking u block nodes results x) tt)

asking_signature : (u : Unit) (block : ℕ) (nodes : List Node) (node : Node) (i : ℕ) → IsAsking (signature_rule u block nodes node i)
asking_signature u block nodes node i =
    asking_map (params_ask u block nodes (results_node nodes node (i + 1))) (part node i) _ (λ n. asking_params u block nodes (results_node nodes node (i + 1)) n) tt

puts_nothing : {R : Type 0} (sight : Sight Item Meaning Question Told) (r : Asks R) (q : Question) (rest : Told → Asks R) → IsAsking r → tell sight r ≡ Puts q rest → ⊥
puts_nothing sight (done x) q rest is e = absurd cc
puts_nothing {R} sight (ask i more) q rest is e = by (sight.marks i) e (λ m. puts_nothing sight (more m) q rest (is m)) where
  by : (o : Option Meaning) → option_map_or (λ m. tell sight (more m)) o (Waits i) ≡ Puts q rest → ((m : Meaning) → tell sight (more m) ≡ Puts q rest → ⊥) → ⊥
  by None e each = absurd cc
  by (Some m) e each = each m e
puts_nothing sight (put p more) q rest is e = is

pub signature_puts_nothing : (u : Unit) (block : ℕ) (nodes : List Node) (node : Node) (i : ℕ) (sight : Sight Item Meaning Question Told) (q : Question) (rest : Told → Rule)
    → tell sight (signature_rule u block nodes node i) ≡ Puts q rest → ⊥
signature_puts_nothing u block nodes node i sight q rest e = puts_nothing sight (signature_rule u block nodes node i) q rest (asking_signature u block nodes node i) e
