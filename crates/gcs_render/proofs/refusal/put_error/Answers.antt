use Rattle.gcs_render.proofs.refusal.put_error.Goals as goal

-- each step adds the next field of the table
pub returns : goal.returns
returns c =
    cc (
      c.in_ok-number.ensures,
      c.in_ok-put_errors.ensures,
      c.in_ok-text.ensures,
    )
