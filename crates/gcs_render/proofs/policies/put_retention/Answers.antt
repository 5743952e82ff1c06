use Rattle.gcs_render.proofs.policies.put_retention.Goals as goal

-- each step adds the next field of the table
pub returns : goal.returns
returns g c =
    cc (
      c.in_ok-time.ensures,
      c.in_ok-truth.ensures,
      c.in_ok-long.ensures,
    )
