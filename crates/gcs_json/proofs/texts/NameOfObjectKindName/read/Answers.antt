use Rattle.std.proofs.lemmas.Grind.{common_steps}
use Rattle.std.proofs.Common.{arith, refl}
use Rattle.gcs_names.proofs.ObjectNames.{passes_where_named, fails_where_unnamed}
use Rattle.gcs_json.proofs.texts.NameOfObjectKindName.read.Goals as goal

pub returns-in-Ok : goal.returns-in-Ok
returns-in-Ok c =
    let passes = passes_where_named c.as_bytes.result.now c.in-Ok.ensures.rule in
    grind (arith, common_steps, passes)

pub returns-in-Err-Form : goal.returns-in-Err-Form
returns-in-Err-Form c =
    let form = rw c.in-Err-Form.field-0-is at c.in-Err-Form.ensures.form in
    let fails = fails_where_unnamed c.as_bytes.result.now (form refl) in
    grind (arith, common_steps, fails)
