use Rattle.std.proofs.Common.{◌∙◌, sym, ap, ap₂, length, ◌+◌}
use Rattle.std.specs.Prelude.{max}
use Rattle.gcs_chunks.specs.Content.{bytes_of}
use Rattle.gcs_meaning.specs.Uploads.{kept_of}
use Rattle.gcs_meaning.specs.Append.{grown}
use Rattle.gcs_meaning.proofs.Grown.{length-grown}
use Rattle.gcs_uploads.proofs.running.length_after.Goals as goal

pub returns-in-Some : goal.returns-in-Some
returns-in-Some c =
    c.max.ensures
    ∙ ap₂ (λ kept size. max kept (c.in-Some.place + size)) c.len-kept.ensures.length c.len.ensures.length
    ∙ sym (length-grown c.args.upload.now.content c.args.piece.now c.in-Some.place (c.requires.fits c.in-Some.place c.in-Some.is).0)
    ∙ ap (λ offset. length (bytes_of (grown c.args.upload.now.content (kept_of c.args.upload.now) offset c.args.piece.now))) (sym c.in-Some.is)
