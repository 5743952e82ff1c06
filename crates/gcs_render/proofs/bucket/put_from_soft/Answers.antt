use Rattle.gcs_render.proofs.bucket.put_from_soft.Goals as goal

-- each step adds the next field of the table
pub returns : goal.returns
returns g c =
    cc (
      c.in_ok-soft_policy.ensures,
      c.in_ok-text.ensures,
      c.in_ok-time.ensures,
      c.in_ok-time-2.ensures,
      c.in_ok-versioning_if.ensures,
    )
