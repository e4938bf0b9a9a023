use Rattle.std.proofs.Common.{◌≡◌, ◌∙◌, ◌<◌, sym, arith, refl, false, true, Bool, length}
use Rattle.scripts.specs.declared.path.Segment.{Segment}
use Rattle.scripts.specs.declared.path.Segment.TheVariants.{Named}
use Rattle.scripts.proofs.PathLaws.{path-stop, path-longer, path-unnamed, path-read}
use Rattle.scripts.proofs.path.read_path.Goals as goal

never : (s : Segment) → ((s ≡ Named) → false ≡ true) → s ≡ Named → ⊥
never s h e = let f : ◌≡◌ {A = Bool} false true = h e in cc

pub returns-then-bytes-count : goal.returns-then-bytes-count
returns-then-bytes-count c =
    let w = c.path_run-count.ensures.within in
    let short : c.path_run-count.result < length c.args.bytes.now = omega (arith, c.if-count-bytes.false) in
    path-stop c.args.stop c.requires c.args.bytes.now c.path_run-count.result c.path_run-count.ensures short c.if-bytes-count.true

pub returns-then-count-gt-LONGEST : goal.returns-then-count-gt-LONGEST
returns-then-count-gt-LONGEST c =
    let w = c.path_run-count.ensures.within in
    let short : c.path_run-count.result < length c.args.bytes.now = omega (arith, c.if-count-bytes.false) in
    path-longer c.args.stop c.requires c.args.bytes.now c.path_run-count.result c.path_run-count.ensures short c.if-count-gt-LONGEST.true

pub returns-then-is_named : goal.returns-then-is_named
returns-then-is_named c =
    let w = c.path_run-count.ensures.within in
    let short : c.path_run-count.result < length c.args.bytes.now = omega (arith, c.if-count-bytes.false) in
    path-read c.args.stop c.args.bytes.now c.path_run-count.result c.path_run-count.ensures (omega (arith, c.if-count-gt-LONGEST.false)) short c.if-bytes-count.false (sym c.last_segment.ensures ∙ c.if-is_named.ensures.0 refl)

pub returns-else-is_named : goal.returns-else-is_named
returns-else-is_named c =
    let w = c.path_run-count.ensures.within in
    let short : c.path_run-count.result < length c.args.bytes.now = omega (arith, c.if-count-bytes.false) in
    path-unnamed c.args.stop c.requires c.args.bytes.now c.path_run-count.result c.path_run-count.ensures short (λ e. never c.last_segment.result c.if-is_named.ensures.1 (c.last_segment.ensures ∙ e))
