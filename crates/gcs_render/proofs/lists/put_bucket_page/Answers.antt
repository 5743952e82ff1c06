use Rattle.gcs_render.proofs.lists.put_bucket_page.Goals as goal

-- each step adds the next field of the table
pub returns : goal.returns
returns g c =
    cc (
      c.in_ok-buckets_if.ensures,
      c.in_ok-text.ensures,
      c.in_ok-put_given_token.ensures,
    )
