-- A reply says that the connection is closed exactly where its message doesn't keep it.
use Rattle.std.proofs.Common.{◌≡◌, ℕ, Bool, true, false, not, refl}
use Rattle.std.specs.Prelude.{◌==◌, if◌then◌else◌}
use Rattle.gcs_http_out.specs.declared.head.Ending.TheVariants.{Stays, KeepAlive}
use Rattle.gcs_reply.specs.Form.{ending_of, is_closing}

stays_open : (b : Bool) → is_closing (if b then Stays else KeepAlive) ≡ false
stays_open true = refl
stays_open false = refl

pub closing-ending : (minor : ℕ) (keeps : Bool) → is_closing (ending_of minor keeps) ≡ not keeps
closing-ending minor true = stays_open (minor == 1)
closing-ending minor false = refl
