use Rattle.std.proofs.Common.{ap, sym, ◌∙◌, Some}
use Rattle.std.proofs.lemmas.Result.{err_from_is_err_and}
use Rattle.std.specs.Int.{w32, from_be_bytes}
use Rattle.std.specs.Prelude.{option_map}
use Rattle.gcs_crc.specs.Text.{crc_of_text}
use Rattle.gcs_crc.proofs.TextLemmas.{crc_of_text-none}
use Rattle.gcs_crc.proofs.texts.read_crc.Goals as goal

pub returns-in_err-bytes-clause-none : goal.returns-in_err-bytes-clause-none
returns-in_err-bytes-clause-none c = λ e.
    let p = err_from_is_err_and c.from_residual.result c.from_residual.ensures.1 in
    crc_of_text-none c.args.text.now (c.in_err-bytes.ensures.none cc)

pub returns-clause-found : goal.returns-clause-found
unfolding crc_of_text
returns-clause-found c =
    ap (option_map (from_be_bytes w32)) c.in_ok-bytes.ensures.found
    ∙ ap Some (sym (c.from_be_bytes.ensures ∙ ap (from_be_bytes w32) (c.copy_from_slice.ensures.after ∙ c.deref.ensures.value)))
