use Rattle.std.proofs.Common.{rules, ◌≡◌, IsUtf8, subst}
use Rattle.std.specs.String.{string_bytes}
use Rattle.std.proofs.lemmas.Str.{IsUtf8-string_bytes}
use Rattle.form_urlencoded.specs.Form as form
use Rattle.gcs_query.proofs.reading.decoded_text.Goals as goal

pub returns-in-Ok-clause-text : goal.returns-in-Ok-clause-text
returns-in-Ok-clause-text c =
    let same : string_bytes c.in-Ok.text ≡ form.decode c.args.text.now = search rules in
    subst IsUtf8 same (IsUtf8-string_bytes c.in-Ok.text)
