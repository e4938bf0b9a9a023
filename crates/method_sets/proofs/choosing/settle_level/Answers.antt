use Rattle.std.proofs.Common.{false, refl, get_or}
use Rattle.std.proofs.lemmas.Option.{slice_get-get_or}
use Rattle.type_model.specs.GoTypes.{type_number}
use Rattle.type_model.specs.Tables.{types_in, declarations_in}
use Rattle.method_sets.specs.Members.{selector}
use Rattle.method_sets.specs.Held.{part_shown}
use Rattle.method_sets.specs.Paths.{Embeds}
use Rattle.method_sets.specs.Shown.{start_of}
use Rattle.method_sets.proofs.Ways.{met}
use Rattle.method_sets.proofs.ReplyLaws.{awaited_beside, enough_at}
use Rattle.method_sets.proofs.choosing.settle_level.Goals as goal

pub returns-in-Some : goal.returns-in-Some
returns-in-Some c =
    let t = c.args.t.now in
    let es = c.args.entries.now in
    let here = slice_get-get_or es c.args.i (record { at = 0; parent = 0; field = 0; depth = 0; several = false; indirect = false }) c.requires.i in
    awaited_beside t es c.args.i (selector c.args.name.now c.args.from.now) (met (Embeds (declarations_in t)) (type_number (types_in t)) (start_of t es) es c.args.i 0 c.requires.search)
    (get_or es c.args.i (record { at = 0; parent = 0; field = 0; depth = 0; several = false; indirect = false })) c.in-Some.j here c.requires.known c.requires.lacks c.requires.within c.in-Some.ensures.some

pub returns-in_ok-found-in-None : goal.returns-in_ok-found-in-None
returns-in_ok-found-in-None c =
    let t = c.args.t.now in
    let es = c.args.entries.now in
    let here = slice_get-get_or es c.args.i (record { at = 0; parent = 0; field = 0; depth = 0; several = false; indirect = false }) c.requires.i in (
      enough_at t es c.args.i (selector c.args.name.now c.args.from.now) (met (Embeds (declarations_in t)) (type_number (types_in t)) (start_of t es) es c.args.i 0 c.requires.search)
          (get_or es c.args.i (record { at = 0; parent = 0; field = 0; depth = 0; several = false; indirect = false })) (part_shown (types_in t) c.args.held) here c.requires.lacks c.requires.known
          (c.in-None.ensures.none refl) c.requires.has,
      c.in_ok-found-in-None.ensures,
    )
