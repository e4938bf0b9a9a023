use Rattle.std.proofs.Common.{sym, ◌∙◌}
use Rattle.std.specs.List.{flat_map}
use Rattle.std.proofs.lemmas.Option.{none-some}
use Rattle.gv_bytes.proofs.Options.{some_is, unspelled}
use Rattle.export_text.specs.Mentions.{face_types}
use Rattle.export_text.specs.Skimming.{face_skimmed}
use Rattle.export_text.proofs.SkimLaws.{type_names, face_gives}
use Rattle.export_text.proofs.NamedLaws.{text_mentions_are}
use Rattle.export_text.proofs.skimming.text_mentions.Goals as goal

pub returns-in-Ok : goal.returns-in-Ok
returns-in-Ok c = λ f h.
    text_mentions_are f c.in-Ok.found.items c.in_order.result.items
    (some_is c.in-Ok.found.items (flat_map (λ t. type_names f.path t) (face_types f)) (sym c.in-Ok.ensures ∙ face_gives f c.args.bytes.now h)) c.in_order.ensures

pub returns-in-Err-Unspelled : goal.returns-in-Err-Unspelled
returns-in-Err-Unspelled c = λ f h.
    absurd (none-some (flat_map (λ t. type_names f.path t) (face_types f)) (sym (unspelled c.in-Err-Unspelled.field-0 (face_skimmed c.args.bytes.now) c.in-Err-Unspelled.field-0-is c.in-Err-Unspelled.ensures) ∙ face_gives f c.args.bytes.now h))
