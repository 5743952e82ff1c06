use Rattle.std.proofs.Common.{rules}
use Rattle.std.proofs.lemmas.Map.Made.{map_same_pairs}
use Rattle.gcs_meaning.specs.Uploads.{aged_upload, aged_uploads}
use Rattle.gcs_uploads.proofs.uploads.age_each.Goals as goal

pub returns : goal.returns
unfolding aged_uploads
returns c =
    map_same_pairs _ (aged_upload c.args.moment) _ (λ k v b w f' t. search rules) c.args.uploads.now.entries c.retain.new.self.entries c.retain.ensures.filtered
