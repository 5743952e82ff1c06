use Rattle.gcs_render.proofs.lists.put_page.Goals as goal

-- each step adds the next field of the table
pub returns : goal.returns
returns g c =
    cc (
      c.in_ok-objects_if.ensures,
      c.in_ok-text.ensures,
      c.in_ok-put_token.ensures,
      c.in_ok-texts_if.ensures,
    )
