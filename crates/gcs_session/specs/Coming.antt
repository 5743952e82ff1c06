-- A message whose head has come.
use Rattle.std.specs.Prelude.{◌≡◌, ℕ, Bool, List, Option, Some, None}
use Rattle.gcs_http_in.specs.declared.limits.Limits.{Limits}
use Rattle.gcs_http_in.specs.Head.{Head}
use Rattle.gcs_request.specs.declared.heading.Heading.{Heading}
use Rattle.gcs_request.specs.Heading.{IsHeading}
use Rattle.gcs_reply.specs.Form.{form_of}
use Rattle.gcs_session.specs.declared.coming.Coming.{Coming}
use Rattle.gcs_session.specs.Bodies.{IsGathered, part_in}

-- what the head asks for, or that memory lacked for it
abbrev pub IsHeadingIf : Head → Option Heading → Type 0
IsHeadingIf head None = Unit {0}
IsHeadingIf head (Some heading) = IsHeading head heading

-- a message with this head and this body so far, that keeps the connection or doesn't
pub record IsComing (limits : Limits) (head : Head) (bytes : List ℕ) (keeps : Bool) (c : Coming) : Type 0 where
  pub heading : IsHeadingIf head c.heading
  pub body : IsGathered limits.json (part_in c.heading) c.body bytes
  pub form : c.form ≡ form_of head keeps
