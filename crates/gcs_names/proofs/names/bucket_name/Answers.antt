-- Bytes of a bucket's name are ASCII, and so they are text.
use Rattle.std.proofs.Common.{◌≡◌, ℕ, ◌<◌, List, length, get_or, true, arith, ⊎_elim}
use Rattle.std.specs.Str.{IsAscii}
use Rattle.std.proofs.lemmas.Str.{IsUtf8-from_ascii}
use Rattle.std.proofs.lemmas.Bool.{cases_lt}
use Rattle.std.proofs.lemmas.Bool.Decides.{nat_tests}
use Rattle.std.proofs.lemmas.List.Elements.{All-get_or}
use Rattle.std.proofs.Math.ListN.{get_or-eq_default}
use Rattle.gcs_names.specs.Name.{is_bucket_byte, IsBucketName}
use Rattle.gcs_names.proofs.names.bucket_name.Goals as goal

small : (b : ℕ) → is_bucket_byte b ≡ true → b < 128
small b h = grind (arith, nat_tests)

ascii : (name : List ℕ) → IsBucketName name → IsAscii name
ascii name h i =
    ⊎_elim
    (λ inside. small (get_or name i 0) (All-get_or (λ b. is_bucket_byte b ≡ true) name i 0 inside h.bytes))
    (λ outside. let e : get_or name i 0 ≡ 0 = get_or-eq_default name 0 outside in omega arith)
    (cases_lt i (length name))

pub returns-in_default-clause-form : goal.returns-in_default-clause-form
returns-in_default-clause-form c = λ _ h. c.in_default.ensures.cases.0 (IsUtf8-from_ascii c.args.bytes.now (ascii c.args.bytes.now h))
