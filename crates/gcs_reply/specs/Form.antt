-- The form of a reply, as its message asks for it (RFC 9112, 9.3; RFC 9110, 9.3.2).
use Rattle.std.specs.Prelude.{ℕ, ◌==◌, List, Bool, true, false, codes, if◌then◌else◌}
use Rattle.std.specs.Str.{bytes_eq}
use Rattle.gcs_http_in.specs.Head.{Head}
use Rattle.gcs_http_out.specs.declared.head.Ending.{Ending}
use Rattle.gcs_http_out.specs.declared.head.Ending.TheVariants.{Stays, KeepAlive, Closes}
use Rattle.gcs_reply.specs.declared.form.Form.{Form}

-- what a reply says of the connection, after a message of this version that keeps it or doesn't
abbrev pub ending_of : ℕ → Bool → Ending
ending_of minor keeps = if keeps then (if minor == 1 then Stays else KeepAlive) else Closes

-- the reply says that the connection is closed
abbrev pub is_closing : Ending → Bool
is_closing Stays = false
is_closing KeepAlive = false
is_closing Closes = true

-- the form of the reply to a message with this method and version: the reply to HEAD has its head alone
abbrev pub form_by : List ℕ → ℕ → Bool → Form
form_by method minor keeps = record { ending = ending_of minor keeps; head_only = bytes_eq method (codes "HEAD") }

-- the form of the reply to a message
abbrev pub form_of : Head → Bool → Form
form_of head keeps = form_by head.method head.minor keeps
