use Rattle.std.proofs.Common.{ap, ◌∙◌}
use Rattle.std.specs.Prelude.{nat_eq}
use Rattle.std.specs.List.{starts_with}
use Rattle.gcs_listing.proofs.CutLemmas.{starts_begins}
use Rattle.gcs_store.proofs.bucket_lists.has_prefix.Goals as goal

pub returns : goal.returns
returns c =
    c.starts_with.ensures.value ∙ ap (λ x. starts_with nat_eq x c.args.prefix.now) c.as_bytes.ensures ∙ starts_begins c.args.prefix.now c.args.name.now
