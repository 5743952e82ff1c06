-- The replies to messages, against histories.
use Rattle.std.specs.Prelude.{◌≡◌, ◌⊎◌, ℕ, List, [], ◌∷◌, ◌++◌, Bool, true, false}
use Rattle.gcs_http_in.specs.declared.limits.Limits.{Limits}
use Rattle.gcs_http_in.specs.Head.{Head}
use Rattle.gcs_http_in.specs.Message.{Message, whole, refused}
use Rattle.gcs_meaning.specs.declared.command.Answer.{Answer}
use Rattle.gcs_meaning.specs.Desk.{Histories}
use Rattle.gcs_meaning.specs.declared.reason.Reason.{Reason}
use Rattle.gcs_rewrite.specs.declared.moves.Move.TheVariants.{Say}
use Rattle.gcs_rewrite.specs.declared.replies.Reply.{Reply}
use Rattle.gcs_rewrite.specs.declared.request.Request.{Request}
use Rattle.gcs_rewrite.specs.Scripts.{script}
use Rattle.gcs_request.specs.Requests.{IsCall, IsRefusal}
use Rattle.gcs_reply.specs.declared.form.Form.{Form}
use Rattle.gcs_reply.specs.Form.{form_of}
use Rattle.gcs_reply.specs.Replies.{fault_text, memory_text, refusal_text, reply_text}
use Rattle.gcs_session.specs.Asks.{Asks, Counts, SameCounts, is_some_step}

-- the whole script ran, and the text is what it says
pub record IsSaid (limits : Limits) (head : Head) (body : List ℕ) (keeps : Bool) (moment : ℕ) (histories : Histories) (caller : ℕ) (from : Counts) (text : List ℕ) (to : Counts) : Type 0 where
  pub request : Request
  pub call : IsCall limits head body request
  pub answers : List Answer
  pub asked : Asks request [] answers moment histories caller from to
  pub reply : Reply
  pub said : script request answers ≡ Say reply
  pub text_is : text ≡ reply_text (form_of head keeps) request reply

-- the message is refused before any step, and the text says why
pub record IsTurnedAway (limits : Limits) (head : Head) (body : List ℕ) (keeps : Bool) (from : Counts) (text : List ℕ) (to : Counts) : Type 0 where
  pub reason : Reason
  pub refusal : IsRefusal limits head body reason
  pub none : SameCounts from to
  pub text_is : text ≡ refusal_text (form_of head keeps) reason

-- memory ran out before any step
pub record IsWanting (head : Head) (keeps : Bool) (from : Counts) (text : List ℕ) (to : Counts) : Type 0 where
  pub none : SameCounts from to
  pub text_is : text ≡ memory_text (form_of head keeps) false

-- memory ran out after at least one step
pub record IsWantingDone (limits : Limits) (head : Head) (body : List ℕ) (keeps : Bool) (moment : ℕ) (histories : Histories) (caller : ℕ) (from : Counts) (text : List ℕ) (to : Counts) : Type 0 where
  pub request : Request
  pub call : IsCall limits head body request
  pub first : Answer
  pub further : List Answer
  pub asked : Asks request [] (first ∷ further) moment histories caller from to
  pub text_is : text ≡ memory_text (form_of head keeps) true

-- the reply to a request at one reading of the clock
abbrev pub Replies : Limits → Head → List ℕ → Bool → ℕ → Histories → ℕ → Counts → List ℕ → Counts → Type 0
Replies limits head body keeps moment histories caller from text to =
    IsSaid limits head body keeps moment histories caller from text to
    ⊎ (IsTurnedAway limits head body keeps from text to
    ⊎ (IsWanting head keeps from text to ⊎ IsWantingDone limits head body keeps moment histories caller from text to))

-- the reply to one message, with the readings that it takes: one, or none where the message is refused by its framing
abbrev pub Answers : Limits → Message → List ℕ → Histories → ℕ → Counts → List ℕ → Counts → Type 0
Answers limits (whole head body keeps) readings histories caller from text to =
    (moment : ℕ) × (readings ≡ moment ∷ []) × Replies limits head body keeps moment histories caller from text to
Answers limits (refused fault) readings histories caller from text to = (readings ≡ []) × (text ≡ fault_text fault) × SameCounts from to

-- the text is the replies to the messages, in order, at the caller's entries in the histories from these numbers to those
abbrev pub Serves : Limits → List Message → List ℕ → Histories → ℕ → Counts → List ℕ → Counts → Type 0
Serves limits [] readings histories caller from text to = (readings ≡ []) × (text ≡ []) × SameCounts from to
Serves limits (m ∷ messages) readings histories caller from text to =
    (now : List ℕ) × (later : List ℕ) × (first : List ℕ) × (others : List ℕ) × (mid : Counts)
    × (readings ≡ now ++ later) × (text ≡ first ++ others)
    × Answers limits m now histories caller from first mid × Serves limits messages later histories caller mid others to

-- the script of a request ran, and the text is what it says or, where memory ran out, the constant one
pub record IsAnswered (form : Form) (request : Request) (moment : ℕ) (histories : Histories) (caller : ℕ) (from : Counts) (text : List ℕ) (to : Counts) : Type 0 where
  pub answers : List Answer
  pub asked : Asks request [] answers moment histories caller from to
  pub text_is : ((reply : Reply) × (script request answers ≡ Say reply) × (text ≡ reply_text form request reply))
      ⊎ (text ≡ memory_text form (is_some_step answers))
