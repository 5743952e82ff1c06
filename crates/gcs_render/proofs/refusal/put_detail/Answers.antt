use Rattle.gcs_render.proofs.refusal.put_detail.Goals as goal

-- each step adds the next field of the table
pub returns : goal.returns
returns c =
    cc (
      c.in_ok-text.ensures,
      c.in_ok-text-2.ensures,
      c.in_ok-text-3.ensures,
    )
