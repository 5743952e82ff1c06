use Rattle.gcs_render.proofs.bucket.put_from_lifecycle.Goals as goal

-- each step adds the next field of the table
pub returns : goal.returns
returns g c =
    cc (
      c.in_ok-lifecycle_if.ensures,
      c.in_ok-text.ensures,
      c.in_ok-long.ensures,
      c.in_ok-text-2.ensures,
      c.in_ok-retention_if.ensures,
    )
