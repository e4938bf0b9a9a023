use Rattle.std.proofs.Common.{◌≡◌, ◌∙◌, sym, ap, arith, refl, false, true, Bool}
use Rattle.scripts.specs.declared.path.Segment.{Segment}
use Rattle.scripts.specs.declared.path.Segment.TheVariants.{Empty, Dot, Dots, Named, Broken}
use Rattle.scripts.specs.Segments.{named}
use Rattle.scripts.proofs.PathLaws.{path-part, path-long, path-full, path-open, path-broken}
use Rattle.scripts.proofs.path.open_path.Goals as goal

pub returns-then-bytes-le-LONGEST : goal.returns-then-bytes-le-LONGEST
returns-then-bytes-le-LONGEST c = path-part c.args.stop c.args.bytes.now c.requires.run (sym c.last_segment-segment.ensures ∙ c.if-is_named.ensures.0 refl) c.if-bytes-le-LONGEST.true

pub returns-else-bytes-le-LONGEST : goal.returns-else-bytes-le-LONGEST
returns-else-bytes-le-LONGEST c = path-long c.args.stop c.requires.stop c.args.bytes.now c.requires.run (omega (arith, c.if-bytes-le-LONGEST.false))

never : (s : Segment) → ((s ≡ Named) → false ≡ true) → s ≡ Named → ⊥
never s h e = let f : ◌≡◌ {A = Bool} false true = h e in cc

pub returns-then-bytes-ge-LONGEST : goal.returns-then-bytes-ge-LONGEST
returns-then-bytes-ge-LONGEST c = path-full c.args.stop c.requires.stop c.args.bytes.now c.requires.run c.if-bytes-ge-LONGEST.true (λ e. never c.last_segment-segment.result c.if-is_named.ensures.1 (c.last_segment-segment.ensures ∙ e))

pub returns-then-is_named-2 : goal.returns-then-is_named-2
returns-then-is_named-2 c = path-open c.args.stop c.args.bytes.now c.requires.run (ap named (sym c.last_segment-segment.ensures) ∙ sym c.next_segment.ensures ∙ c.if-is_named-2.ensures.0 refl) (omega (arith, c.if-bytes-ge-LONGEST.false))

only-broken : (s : Segment) → (named s ≡ Named → ⊥) → s ≡ Broken
only-broken Empty h = absurd (h refl)
only-broken Dot h = absurd (h refl)
only-broken Dots h = absurd (h refl)
only-broken Named h = absurd (h refl)
only-broken Broken h = refl

pub returns-else-is_named-2 : goal.returns-else-is_named-2
returns-else-is_named-2 c =
    let b = only-broken c.last_segment-segment.result (λ e. never c.next_segment.result c.if-is_named-2.ensures.1 (c.next_segment.ensures ∙ e)) in
    path-broken c.args.stop c.requires.stop c.args.bytes.now c.requires.run (sym c.last_segment-segment.ensures ∙ b)
