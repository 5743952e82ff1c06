use Rattle.std.proofs.Common.{ap, sym, ◌∙◌, Some}
use Rattle.std.proofs.lemmas.Result.{err_from_is_err_and}
use Rattle.gcs_crc.specs.Text.{md5_of_text}
use Rattle.gcs_crc.proofs.texts.read_md5.Goals as goal

pub returns-in_err-bytes-clause-none : goal.returns-in_err-bytes-clause-none
unfolding md5_of_text
returns-in_err-bytes-clause-none c = λ e.
    let p = err_from_is_err_and c.from_residual.result c.from_residual.ensures.1 in
    c.in_err-bytes.ensures.none cc

pub returns-clause-found : goal.returns-clause-found
unfolding md5_of_text
returns-clause-found c =
    c.in_ok-bytes.ensures.found ∙ ap Some (sym (c.copy_from_slice.ensures.after ∙ c.deref.ensures.value))
