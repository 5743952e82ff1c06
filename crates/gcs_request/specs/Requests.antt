-- What a message asks for, once its body has come.
use Rattle.std.specs.Prelude.{◌≡◌, ◌⊎◌, ℕ, true, List, length, Some, None}
use Rattle.gcs_http_in.specs.declared.limits.Limits.{Limits}
use Rattle.gcs_http_in.specs.Head.{Head}
use Rattle.gcs_chunks.specs.Content.{bytes_of}
use Rattle.gcs_meaning.specs.Content.{bytes_in}
use Rattle.gcs_meaning.specs.declared.reason.Key.TheVariants.{ContentRange}
use Rattle.gcs_meaning.specs.declared.reason.Reason.{Reason}
use Rattle.gcs_meaning.specs.declared.reason.Reason.TheVariants.{Invalid}
use Rattle.gcs_route.specs.declared.call.Call.{Call}
use Rattle.gcs_route.specs.OfCall.{request_kind}
use Rattle.gcs_rewrite.specs.declared.request.Given.{Given}
use Rattle.gcs_rewrite.specs.declared.request.Given.TheVariants as given
use Rattle.gcs_rewrite.specs.declared.request.Request.{Request}
use Rattle.gcs_rewrite.specs.Fits.{Fits}
use Rattle.gcs_request.specs.declared.heading.HeadPart.{HeadPart}
use Rattle.gcs_request.specs.declared.heading.HeadPart.TheVariants as part
use Rattle.gcs_request.specs.declared.heading.Heading.TheVariants as heading
use Rattle.gcs_request.specs.declared.requests.Asked.{Asked}
use Rattle.gcs_request.specs.declared.requests.Asked.TheVariants.{Refused, Asks}
use Rattle.gcs_request.specs.Begins.{IsBeginFault, IsBegun}
use Rattle.gcs_request.specs.Heading.{IsHeading}
use Rattle.gcs_request.specs.JsonBodies.{json_refusal, says_nothing, IsSaidBy}
use Rattle.gcs_request.specs.Parts.{IsPartsFault, IsUploaded}
use Rattle.gcs_request.specs.PieceRanges.{piece_of}

-- what a message gives is what its head gives, with its body as the content of an upload or a piece of it, as what its JSON says,
-- or as both
abbrev pub IsGiven : ℕ → Call → HeadPart → List ℕ → Given → Type 0
IsGiven most call (part.Read range) body (given.Read asked) = asked ≡ range
IsGiven most call (part.Whole kind) body (given.Whole read type hashed) = (read ≡ says_nothing) × (type ≡ kind) × (bytes_in hashed ≡ body) × (hashed.with_md5 ≡ true)
IsGiven most call (part.Parts boundary encoded) body (given.Whole read type hashed) = IsUploaded most call boundary encoded body read type hashed
IsGiven most call (part.Begin kind total host encoded) body (given.Begin read type size from) =
    (type ≡ kind) × (size ≡ total) × (from ≡ host) × IsBegun most call encoded body read
IsGiven most call (part.Piece range) body (given.Piece offset total content) = (bytes_of content ≡ body) × (piece_of range (length body) ≡ Some (offset, total))
IsGiven most call (part.Json encoded) body given = (json_refusal most encoded (request_kind call) body ≡ None) × IsSaidBy (request_kind call) body given
IsGiven most call part.Nothing body given.Nothing = Unit {0}
IsGiven most call _ body _ = ⊥

-- the body of a message is refused
abbrev pub IsBodyFault : ℕ → Call → HeadPart → List ℕ → Reason → Type 0
IsBodyFault most call (part.Json encoded) body reason = json_refusal most encoded (request_kind call) body ≡ Some reason
IsBodyFault most call (part.Parts boundary encoded) body reason = IsPartsFault most call boundary encoded body reason
IsBodyFault most call (part.Begin kind total host encoded) body reason = IsBeginFault most call encoded body reason
IsBodyFault most call (part.Piece range) body reason = (piece_of range (length body) ≡ None) × (reason ≡ Invalid ContentRange)
IsBodyFault most call _ body reason = ⊥

-- the whole message asks for the request: its head asks for the call, and it gives what the call needs
abbrev pub IsCall : Limits → Head → List ℕ → Request → Type 0
IsCall limits head body request =
    (part : HeadPart) × IsHeading head (heading.Asks request.call part) × IsGiven limits.json request.call part body request.given

-- the message is refused before any step, by its head or by its body
abbrev pub IsRefusal : Limits → Head → List ℕ → Reason → Type 0
IsRefusal limits head body reason =
    IsHeading head (heading.Refused reason)
    ⊎ ((call : Call) × (part : HeadPart) × IsHeading head (heading.Asks call part) × IsBodyFault limits.json call part body reason)

-- what the whole message asks for
abbrev pub IsAsked : Limits → Head → List ℕ → Asked → Type 0
IsAsked limits head body (Refused reason) = IsRefusal limits head body reason
IsAsked limits head body (Asks request) = IsCall limits head body request

-- a request that is asked for is one of the table, with what such a request gives
abbrev pub IsAskedFit : Asked → Type 0
IsAskedFit (Refused reason) = Unit {0}
IsAskedFit (Asks request) = Fits request
