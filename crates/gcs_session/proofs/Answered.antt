-- What a request is answered, as the reply to its message.
use Rattle.std.proofs.Common.{◌≡◌, ◌⊎◌, inl, inr, ℕ, Bool, false, List, [], ◌∷◌, ap, ◌∙◌}
use Rattle.gcs_http_in.specs.declared.limits.Limits.{Limits}
use Rattle.gcs_http_in.specs.Head.{Head}
use Rattle.gcs_meaning.specs.declared.command.Answer.{Answer}
use Rattle.gcs_meaning.specs.Desk.{Histories}
use Rattle.gcs_meaning.specs.declared.reason.Reason.{Reason}
use Rattle.gcs_rewrite.specs.declared.moves.Move.TheVariants.{Say}
use Rattle.gcs_rewrite.specs.declared.replies.Reply.{Reply}
use Rattle.gcs_rewrite.specs.declared.request.Request.{Request}
use Rattle.gcs_rewrite.specs.Scripts.{script}
use Rattle.gcs_request.specs.Requests.{IsCall, IsRefusal}
use Rattle.gcs_reply.specs.declared.form.Form.{Form}
use Rattle.gcs_reply.specs.Form.{form_of}
use Rattle.gcs_reply.specs.Replies.{memory_text, refusal_text, reply_text}
use Rattle.gcs_session.specs.Asks.{Asks, Counts, SameCounts, is_some_step}
use Rattle.gcs_session.specs.Served.{IsAnswered, Replies}
use Rattle.gcs_session.proofs.Steps.{Asks-from}

-- memory ran out: which of the two texts it is goes by whether a step was made
wanting : (limits : Limits) (head : Head) (body : List ℕ) (keeps : Bool) (q : Request) (moment : ℕ) (h : Histories) (caller : ℕ) (from : Counts) (text : List ℕ) (to : Counts) (answers : List Answer)
    → IsCall limits head body q → Asks q [] answers moment h caller from to → text ≡ memory_text (form_of head keeps) (is_some_step answers) → Replies limits head body keeps moment h caller from text to
wanting limits head body keeps q moment h caller from text to [] call asked is = inr (inr (inl record { none = asked; text_is = is }))
wanting limits head body keeps q moment h caller from text to (a ∷ answers) call asked is =
    inr (inr (inr record { request = q; call = call; first = a; further = answers; asked = asked; text_is = is }))

-- the answer to a request is the reply to the message that asks for it
pub replies-answered : (limits : Limits) (head : Head) (body : List ℕ) (keeps : Bool) (form : Form) (q : Request) (moment : ℕ) (h : Histories) (caller : ℕ) (from : Counts) (text : List ℕ) (to : Counts)
    → form ≡ form_of head keeps → IsCall limits head body q → IsAnswered form q moment h caller from text to → Replies limits head body keeps moment h caller from text to
replies-answered limits head body keeps form q moment h caller from text to is call x =
    let answers : List Answer = x.answers in
    ⊎_case x.text_is
  where
    ⊎_case : ((reply : Reply) × (script q x.answers ≡ Say reply) × (text ≡ reply_text form q reply)) ⊎ (text ≡ memory_text form (is_some_step x.answers)) → Replies limits head body keeps moment h caller from text to
    ⊎_case (inl said) = inl record {
      request = q;
      call = call;
      answers = x.answers;
      asked = x.asked;
      reply = said.0;
      said = said.1;
      text_is = said.2 ∙ ap (λ f. reply_text f q said.0) is;
    }
    ⊎_case (inr lacked) = wanting limits head body keeps q moment h caller from text to x.answers call x.asked (lacked ∙ ap (λ f. memory_text f (is_some_step x.answers)) is)

-- memory ran out before any step
pub replies-wanting : (limits : Limits) (head : Head) (body : List ℕ) (keeps : Bool) (form : Form) (moment : ℕ) (h : Histories) (caller : ℕ) (from : Counts) (text : List ℕ) (to : Counts)
    → form ≡ form_of head keeps → SameCounts from to → text ≡ memory_text form false → Replies limits head body keeps moment h caller from text to
replies-wanting limits head body keeps form moment h caller from text to is same lacked =
    inr (inr (inl record { none = same; text_is = lacked ∙ ap (λ f. memory_text f false) is }))

-- the message is refused, or memory ran out for the text that says so
pub replies-refused : (limits : Limits) (head : Head) (body : List ℕ) (keeps : Bool) (form : Form) (reason : Reason) (moment : ℕ) (h : Histories) (caller : ℕ) (from : Counts) (text : List ℕ) (to : Counts)
    → form ≡ form_of head keeps → IsRefusal limits head body reason → SameCounts from to → (text ≡ refusal_text form reason) ⊎ (text ≡ memory_text form false)
    → Replies limits head body keeps moment h caller from text to
replies-refused limits head body keeps form reason moment h caller from text to is refusal same (inl said) =
    inr (inl record { reason = reason; refusal = refusal; none = same; text_is = said ∙ ap (λ f. refusal_text f reason) is })
replies-refused limits head body keeps form reason moment h caller from text to is refusal same (inr lacked) =
    replies-wanting limits head body keeps form moment h caller from text to is same lacked

-- an answer whose lists began as those before
pub answered-from : (form : Form) (q : Request) (moment : ℕ) (h : Histories) (caller : ℕ) (from from' : Counts) (text : List ℕ) (to : Counts) → SameCounts from from' → IsAnswered form q moment h caller from' text to → IsAnswered form q moment h caller from text to
answered-from form q moment h caller from from' text to same x =
    record { answers = x.answers; asked = Asks-from q [] x.answers moment h caller from from' to same x.asked; text_is = x.text_is }
