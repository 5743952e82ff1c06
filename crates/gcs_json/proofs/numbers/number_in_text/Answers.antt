use Rattle.gcs_json.proofs.NumberLemmas.{no_number}
use Rattle.gcs_json.proofs.numbers.number_in_text.Goals as goal

pub returns-in-Err : goal.returns-in-Err
returns-in-Err c = no_number c.args.text.now c.in-Err.ensures.value.0
