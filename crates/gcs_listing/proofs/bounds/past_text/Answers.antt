use Rattle.std.proofs.Common.{◌≡◌, ◌<◌, ◌-◌, ◌∙◌, ap, length, arith}
use Rattle.gcs_meaning.specs.Order.{unit_at}
use Rattle.gcs_listing.proofs.BoundLemmas.{past_last}
use Rattle.gcs_listing.proofs.ByteLemmas.{byte_low}
use Rattle.gcs_listing.proofs.bounds.past_text.Goals as goal

pub overflow_add-index_mut : goal.overflow_add-index_mut
overflow_add-index_mut c =
    let same : c.in_ok-bytes.bytes.items ≡ c.args.text.now = c.in_ok-bytes.ensures.items ∙ c.as_bytes.ensures.value in
    let size : c.len-at.result ≡ length c.args.text.now = c.len-at.ensures ∙ c.in_ok-bytes.ensures.len ∙ ap length c.as_bytes.ensures.value in
    let within : c.len-at.result - 1 < length c.in_ok-bytes.bytes.items = omega (arith, c.requires.some, size, ap length same) in
    let low : c.index_mut.result.now < 255 = byte_low c.args.text.now c.in_ok-bytes.bytes.items (c.len-at.result - 1) c.index_mut.result.now c.utf8.text same within c.index_mut.ensures.value in
    omega (arith, low)

pub returns : goal.returns
returns c =
    ap (λ t. unit_at t 0)
    (past_last c.args.text.now c.in_ok-bytes.bytes.items c.len-at.result c.index_mut.result.now (c.in_ok-bytes.ensures.items ∙ c.as_bytes.ensures.value) c.requires.some
    (c.len-at.ensures ∙ c.in_ok-bytes.ensures.len ∙ ap length c.as_bytes.ensures.value) c.index_mut.ensures.value)
