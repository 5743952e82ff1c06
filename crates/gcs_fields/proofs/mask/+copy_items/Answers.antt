use Rattle.std.proofs.Common.{ap, ◌∙◌, map}
use Rattle.gcs_fields.specs.Views.{path_of, before}
use Rattle.gcs_fields.proofs.CopyLemmas.{before_same}
use Rattle.gcs_fields.proofs.mask.+copy_items.Goals as goal

pub copy_item-returns : goal.copy_item-returns
copy_item-returns t c =
    before_same (record { path = c.in_ok-path.path; inner = c.in_ok-inner.inner }) c.args.item.now
    (c.in_ok-path.ensures ∙ ap path_of c.deref.ensures.value)
    (c.in_ok-inner.ensures ∙ ap (map before) c.deref-2.ensures.value)
