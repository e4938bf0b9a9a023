-- Calls: their arguments and the faults of their formats are one.
use Rattle.std.proofs.Common.{◌≡◌, ◌↔◌, ◌≤◌, ◌<◌, ◌-◌, ℕ, zero, suc, Bool, true, false, List, [], ◌∷◌, ◌++◌, take, drop, length, Option, Some, None, refl, sym, ap, ◌∙◌, subst, arith}
use Rattle.std.specs.Prelude.{slice_get}
use Rattle.go_tree.specs.declared.tree.Node.{Node}
use Rattle.go_tree.specs.declared.tree.NodeRef.{NodeRef}
use Rattle.type_model.specs.declared.term.TypeId.{TypeId}
use Rattle.type_model.specs.GoTypes.{GoType, types_at}
use Rattle.type_model.specs.Parts.{type_list}
use Rattle.type_model.specs.Declarations.{Declarations}
use Rattle.typed_marks.specs.declared.item.Item.{Item}
use Rattle.typed_marks.specs.Meanings.{Known, Meaning}
use Rattle.unit_read.specs.Units.{Unit}
use Rattle.selected_methods.specs.Selected.{declared_by}
use Rattle.analysis_core.specs.declared.diagnostic.Diagnostic.{Diagnostic}
use Rattle.findings.specs.Gains.{Gains}
use Rattle.findings.proofs.GainLemmas.{gains_none, gains_push}
use Rattle.printf_format.specs.declared.whole.FormatRead.{FormatRead}
use Rattle.printf_format.specs.Whole.{IsRead}
use Rattle.printf_format.proofs.OneRead.{one_read}
use Rattle.vet_words.specs.Marked.{known_at}
use Rattle.vet_printf.specs.declared.fault.Argument.{Argument}
use Rattle.vet_printf.specs.declared.fault.Classes.{Classes}
use Rattle.vet_printf.specs.declared.fault.Fault.{Fault}
use Rattle.vet_printf.specs.declared.fault.Fault.TheVariants as f
use Rattle.vet_printf.specs.declared.verb.Class.{Class}
use Rattle.vet_printf.specs.declared.verb.Class.TheVariants as c
use Rattle.vet_printf.specs.Faults.{in_class}
use Rattle.vet_printf.specs.Formats.{format_fault, has_possible}
use Rattle.vet_printf.specs.Tables.{IsArgumentOf}
use Rattle.vet_printf.specs.Calls.{IsTold, IsArgumentAt, IsNthArgument, AreArguments, IsFaultOf, IsFormatFound, IsPlainFound, said, IsPrintFault}
use Rattle.vet_printf.proofs.ReaderLemmas.{same_some}

-- ---- lists

pub params_counted : (types : List GoType) (list : List TypeId) → length list ≡ length (type_list (types_at types list))
params_counted types [] = refl
params_counted types (id ∷ list) = ap suc (params_counted types list)

pub drop_past : (xs : List ℕ) (k : ℕ) → length xs ≤ k → [] ≡ drop k xs
drop_past [] zero high = refl
drop_past [] (suc k) high = refl
drop_past (x ∷ xs) zero high = absurd (omega (arith, high))
drop_past (x ∷ xs) (suc k) high = drop_past xs k (omega (arith, high))

take_whole : (xs : List ℕ) (n : ℕ) → length xs ≤ n → take n xs ≡ xs
take_whole [] zero high = refl
take_whole [] (suc n) high = refl
take_whole (x ∷ xs) zero high = absurd (omega (arith, high))
take_whole (x ∷ xs) (suc n) high = ap (λ (l : List ℕ). x ∷ l) (take_whole xs n (omega (arith, high)))

dropped : (xs : List ℕ) (k : ℕ) → length (drop k xs) ≤ length xs - k
dropped [] zero = omega arith
dropped [] (suc k) = omega arith
dropped (x ∷ xs) zero = omega arith
dropped (x ∷ xs) (suc k) = let more = dropped xs k in omega (arith, more)

pub take_all : (xs : List ℕ) (k : ℕ) → take (length xs - k) (drop k xs) ≡ drop k xs
take_all xs k = take_whole (drop k xs) (length xs - k) (dropped xs k)

same_list : {X : Type 0} (xs ys : List X) → length xs ≡ length ys → ((k : ℕ) (x y : X) → slice_get xs k ≡ Some x → slice_get ys k ≡ Some y → x ≡ y) → xs ≡ ys
same_list [] [] size each = refl
same_list [] (y ∷ ys) size each = absurd (omega (arith, size))
same_list (x ∷ xs) [] size each = absurd (omega (arith, size))
same_list {X} (x ∷ xs) (y ∷ ys) size each =
    ap (λ (z : X). z ∷ xs) (each 0 x y refl refl) ∙ ap (λ (l : List X). y ∷ l) (same_list xs ys (omega (arith, size)) (λ k a b at there. each (suc k) a b at there))

-- ---- arguments

same_test : (a b : Bool) (P : Type 0) → (a ≡ true) ↔ P → (b ≡ true) ↔ P → a ≡ b
same_test true true P s t = refl
same_test false false P s t = refl
same_test true false P s t = sym (t.1 (s.0 refl))
same_test false true P s t = s.1 (t.0 refl)

abbrev classes : Bool → Bool → Bool → Bool → Bool → Bool → Bool → Bool → Classes
classes a b d e f g h i = record { boolean = a; integer = b; integer_pointer = d; integer_text_pointer = e; integer_text = f; text = g; reference = h; nothing = i }

same_classes : (x y : Classes) → x.boolean ≡ y.boolean → x.integer ≡ y.integer → x.integer_pointer ≡ y.integer_pointer → x.integer_text_pointer ≡ y.integer_text_pointer → x.integer_text ≡ y.integer_text → x.text ≡ y.text
    → x.reference ≡ y.reference → x.nothing ≡ y.nothing → x ≡ y
same_classes x y a b d e f g h i =
    ap (λ v. classes v x.integer x.integer_pointer x.integer_text_pointer x.integer_text x.text x.reference x.nothing) a
    ∙ (ap (λ v. classes y.boolean v x.integer_pointer x.integer_text_pointer x.integer_text x.text x.reference x.nothing) b
    ∙ (ap (λ v. classes y.boolean y.integer v x.integer_text_pointer x.integer_text x.text x.reference x.nothing) d
    ∙ (ap (λ v. classes y.boolean y.integer y.integer_pointer v x.integer_text x.text x.reference x.nothing) e
    ∙ (ap (λ v. classes y.boolean y.integer y.integer_pointer y.integer_text_pointer v x.text x.reference x.nothing) f
    ∙ (ap (λ v. classes y.boolean y.integer y.integer_pointer y.integer_text_pointer y.integer_text v x.reference x.nothing) g
    ∙ (ap (λ v. classes y.boolean y.integer y.integer_pointer y.integer_text_pointer y.integer_text y.text v x.nothing) h
    ∙ ap (λ v. classes y.boolean y.integer y.integer_pointer y.integer_text_pointer y.integer_text y.text y.reference v) i))))))

abbrev argument : Bool → Bool → Classes → Argument
argument integer error classes = record { integer = integer; error = error; classes = classes }

one_argument : (ds : Declarations) (of : GoType) (x y : Argument) → IsArgumentOf ds of x → IsArgumentOf ds of y → x ≡ y
one_argument ds of x y p q =
    ap (λ v. argument v x.error x.classes) (p.integer ∙ sym q.integer)
    ∙ (ap (λ v. argument y.integer v x.classes) (same_test x.error y.error _ p.error q.error)
    ∙ ap (λ v. argument y.integer y.error v)
    (same_classes x.classes y.classes (one c.Boolean) (one c.Integer) (one c.IntegerPointer) (one c.IntegerTextPointer) (one c.IntegerText) (one c.Text) (one c.Reference) (one c.Nothing)))
  where
    one : (class : Class) → in_class x.classes class ≡ in_class y.classes class
    one class = same_test (in_class x.classes class) (in_class y.classes class) _ (p.classes class) (q.classes class)

one_told : (ds : Declarations) (x y : Argument) (o : Option Known) → IsTold ds x o → IsTold ds y o → x ≡ y
one_told ds x y (Some known) p q = one_argument ds known.last x y p q
one_told ds x y None p q = p ∙ sym q

module _ (u : Unit) (marks : Item → Meaning) (file : ℕ) (nodes : List ℕ) where
  one_nth : (k : ℕ) (x y : Argument) → IsNthArgument u marks file nodes k x → IsNthArgument u marks file nodes k y → x ≡ y
  one_nth k x y (n, at, told) (m, there, says) =
      let same : n ≡ m = same_some (sym at ∙ there) in
      one_told (declared_by u marks) x y (known_at marks file n) told (subst (λ (i : ℕ). IsArgumentAt u marks file i y) (sym same) says)

  one_arguments : (xs ys : List Argument) → AreArguments u marks file nodes xs → AreArguments u marks file nodes ys → xs ≡ ys
  one_arguments xs ys x y = same_list xs ys (x.size ∙ sym y.size) (λ k a b at there. one_nth k a b (x.each k a at) (y.each k b there))

  -- ---- faults

  module _ (errorf : Bool) (text : List ℕ) where
    one_fault : (a b : Option Fault) → IsFaultOf u marks file errorf nodes text a → IsFaultOf u marks file errorf nodes text b → a ≡ b
    one_fault a b x y =
        sym x.«is»
        ∙ (ap (λ (l : List Argument). format_fault errorf l x.read) (one_arguments x.arguments y.arguments x.are y.are)
        ∙ (ap (λ (r : FormatRead). format_fault errorf y.arguments r) (one_read text x.read y.read x.reads y.reads) ∙ y.«is»))

    no_fault : (o : Option Fault) (fault : Fault) → o ≡ Some fault → o ≡ None → ⊥
    no_fault o fault e h = cc

    pub format_gains : (node : Node) (callee : ℕ) (fault : Fault) (old new : List Diagnostic) → IsFaultOf u marks file errorf nodes text (Some fault) → new ≡ old ++ said u file node nodes callee fault ∷ []
        → Gains (IsFormatFound u marks file node callee errorf nodes text) old new
    format_gains node callee fault old new told is =
        gains_push (IsFormatFound u marks file node callee errorf nodes text) old new (said u file node nodes callee fault) is (fault, told, refl)
        (λ d (other, h, e). e ∙ ap (said u file node nodes callee) (same_some (one_fault (Some other) (Some fault) h told)))

    pub format_none : (node : Node) (callee : ℕ) (old : List Diagnostic) → IsFaultOf u marks file errorf nodes text None → Gains (IsFormatFound u marks file node callee errorf nodes text) old old
    format_none node callee old told =
        gains_none (IsFormatFound u marks file node callee errorf nodes text) old old refl (λ d (fault, h, e). no_fault (Some fault) fault refl (one_fault (Some fault) None h told))

  pub plain_gains : (node : Node) (callee : ℕ) (text : List ℕ) (read : FormatRead) (old new : List Diagnostic) → IsRead text read → has_possible read ≡ true → new ≡ old ++ said u file node nodes callee f.Possible ∷ []
      → Gains (IsPlainFound u file node callee nodes text) old new
  plain_gains node callee text read old new reads possible is =
      gains_push (IsPlainFound u file node callee nodes text) old new (said u file node nodes callee f.Possible) is (read, reads, possible, refl) (λ d (other, h, p, e). e)

  pub plain_none : (node : Node) (callee : ℕ) (text : List ℕ) (read : FormatRead) (old : List Diagnostic) → IsRead text read → has_possible read ≡ false → Gains (IsPlainFound u file node callee nodes text) old old
  plain_none node callee text read old reads failed =
      gains_none (IsPlainFound u file node callee nodes text) old old refl (λ d (other, h, p, e). differ (has_possible read) failed (ap has_possible (one_read text read other reads h) ∙ p)) where
        differ : (b : Bool) → b ≡ false → b ≡ true → ⊥
        differ b p q = cc

-- over the package that is given
pub gains_over : (kinds : NodeRef → ℕ) (u other : Unit) (marks says : Item → Meaning) (at : NodeRef) (node : Node) (old new : List Diagnostic) → u ≡ other → marks ≡ says → Gains (IsPrintFault kinds u marks at node) old new
    → Gains (IsPrintFault kinds other says at node) old new
gains_over kinds u other marks says at node old new e h gains =
    subst (λ (x : Item → Meaning). Gains (IsPrintFault kinds other x at node) old new) h (subst (λ (x : Unit). Gains (IsPrintFault kinds x marks at node) old new) e gains)
