use Rattle.std.proofs.Common.{◌≡◌, ◌∙◌, ap, sym, true}
use Rattle.gv_base.specs.Files.{put_file}
use Rattle.folder.specs.Folders.{is_read}
use Rattle.folder.proofs.FrontLemmas.{front-of, put_fitting}
use Rattle.folder.proofs.reading.read_one.Goals as goal

pub returns-clause-adds : goal.returns-clause-adds
returns-clause-adds g c =
    let chosen : is_read c.args.path.now ≡ true = sym (ap is_read c.as_bytes.ensures.value) ∙ (sym c.is_read.ensures ∙ c.if-not-is_read.false) in
    let view = (g.T.Tree.view c.args.tree.now).files in
    front-of c.args.most view view c.args.files.now c.put.new.files c.args.path.now c.in_ok-bytes.bytes.items chosen c.in_ok-bytes.ensures.front (c.in_ok-put.ensures.put ∙ ap (put_file c.args.files.now c.args.path.now) c.as_slice.ensures.value)

pub returns-clause-fitting : goal.returns-clause-fitting
returns-clause-fitting g c =
    let chosen : is_read c.args.path.now ≡ true = sym (ap is_read c.as_bytes.ensures.value) ∙ (sym c.is_read.ensures ∙ c.if-not-is_read.false) in
    put_fitting c.args.most c.args.files.now c.put.new.files c.args.path.now c.in_ok-bytes.bytes.items chosen c.in_ok-bytes.ensures.short (c.in_ok-put.ensures.put ∙ ap (put_file c.args.files.now c.args.path.now) c.as_slice.ensures.value)
