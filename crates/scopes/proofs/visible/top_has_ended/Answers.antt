use Rattle.std.proofs.Common.{◌≡◌, length, slice_get, slice_index_or, Some, sym, ap, ◌∙◌, ◌-◌}
use Rattle.std.specs.Option.{option_copied}
use Rattle.std.proofs.lemmas.Option.{slice_get-get_or}
use Rattle.scopes.proofs.VisibleLemmas.{no_declaration, ended_there, lasts_there, below_all}
use Rattle.scopes.proofs.visible.top_has_ended.Goals as goal

pub returns-then-innermost-at : goal.returns-then-innermost-at
returns-then-innermost-at c =
    let ds = c.args.declarations.now in
    let s = c.args.stack.now in
    let k = c.in-Some.top.now in
    let last : slice_get s (length s - 1) ≡ Some k = sym c.last.ensures.value ∙ ap option_copied c.in-Some.is in
    let low = below_all s k (length ds) last c.requires in
    ended_there ds c.args.at s k (slice_index_or ds k no_declaration) last (slice_get-get_or ds k no_declaration low) c.if-innermost-at.true

pub returns-else-innermost-at : goal.returns-else-innermost-at
returns-else-innermost-at c =
    let ds = c.args.declarations.now in
    let s = c.args.stack.now in
    let k = c.in-Some.top.now in
    let last : slice_get s (length s - 1) ≡ Some k = sym c.last.ensures.value ∙ ap option_copied c.in-Some.is in
    let low = below_all s k (length ds) last c.requires in
    lasts_there ds c.args.at s k (slice_index_or ds k no_declaration) last (slice_get-get_or ds k no_declaration low) c.if-innermost-at.false
