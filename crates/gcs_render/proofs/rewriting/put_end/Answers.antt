use Rattle.gcs_render.proofs.rewriting.put_end.Goals as goal

-- each step adds the next field of the table
pub returns : goal.returns
returns g c =
    cc (
      c.in_ok-text_if.ensures,
      c.in_ok-long.ensures,
    )
