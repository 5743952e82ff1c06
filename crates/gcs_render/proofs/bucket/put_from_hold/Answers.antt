use Rattle.gcs_render.proofs.bucket.put_from_hold.Goals as goal

-- each step adds the next field of the table
pub returns : goal.returns
returns g c =
    cc (
      c.in_ok-where_true.ensures,
      c.in_ok-put_etag.ensures,
      c.in_ok-long.ensures,
      c.in_ok-text.ensures,
      c.in_ok-text-2.ensures,
      c.in_ok-pairs_if.ensures,
    )
