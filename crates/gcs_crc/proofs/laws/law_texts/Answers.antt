use Rattle.gcs_crc.proofs.TextLemmas.{crc_of_text-iff, md5_of_text-iff}
use Rattle.gcs_crc.proofs.laws.law_texts.Goals as goal

pub returns : goal.returns
returns c = record { crc = crc_of_text-iff; md5 = md5_of_text-iff }
