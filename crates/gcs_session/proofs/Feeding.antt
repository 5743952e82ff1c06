-- What a call of `feed` adds.
use Rattle.std.proofs.Common.{◌≡◌, ◌≢◌, ℕ, Bool, true, false, not, List, [], ◌∷◌, ◌++◌, take, None, refl, ap, sym, subst, ◌∙◌, arith, append-nil, inl, inr}
use Rattle.gcs_io.specs.Told.{Gains}
use Rattle.gcs_http_in.specs.declared.fault.FrameFault.{FrameFault}
use Rattle.gcs_http_in.specs.declared.limits.Limits.{Limits}
use Rattle.gcs_http_in.specs.Head.{Head}
use Rattle.gcs_http_in.specs.Message.{Message, whole, refused, keeps_of, AllKeep}
use Rattle.gcs_http_in.specs.Stands.{Stands, limits_of}
use Rattle.gcs_meaning.specs.Desk.{Histories, AreUnmoved}
use Rattle.gcs_session.specs.declared.session.Session.{Session}
use Rattle.gcs_session.specs.declared.session.Fed.{Fed}
use Rattle.gcs_session.specs.declared.session.Want.{Want}
use Rattle.gcs_reply.specs.Form.{form_of}
use Rattle.gcs_reply.specs.Replies.{fault_text}
use Rattle.gcs_reply.proofs.Some.{fixed-some, refusal-some, reply-some}
use Rattle.gcs_session.specs.Running.{lengths}
use Rattle.gcs_session.specs.Served.{Answers, Replies}
use Rattle.gcs_session.specs.Asks.{Counts}
use Rattle.gcs_session.specs.Session.{IsClosedBy, IsEndedBy, IsFed, IsReplied, IsSession, IsUnderWay, Seen, limits_in}
use Rattle.gcs_session.specs.Unsent.{unsent_bytes}
use Rattle.gcs_session.proofs.Gathering.{none-waiting}
use Rattle.gcs_session.proofs.Serving.{serves-from, serves-one}
use Rattle.gcs_session.proofs.Steps.{goes_on-same, goes_on-trans, same-lengths}
use Rattle.gcs_session.proofs.Tellings.{gains-none}

-- nothing more was read
nothing-told : (s : Session) (bytes bytes' : List ℕ) (messages : List Message) (text drained : List ℕ) → bytes' ≡ bytes → IsSession s bytes messages text drained → IsSession s bytes' (messages ++ []) (text ++ []) drained
nothing-told s bytes bytes' messages text drained same x =
    subst (λ b. IsSession s b (messages ++ []) (text ++ []) drained) (sym same)
    (subst (λ t. IsSession s bytes (messages ++ []) t drained) (sym (append-nil text))
    (subst (λ ms. IsSession s bytes ms text drained) (sym (append-nil messages)) x))

pub fed-quiet : (caller : ℕ) (a b : Seen) (s : Session) (piece : List ℕ) (fed : Fed) (bytes : List ℕ) (messages : List Message) (text drained : List ℕ) → b.given ≡ a.given → AreUnmoved a.saw a.own b.saw b.own
    → IsSession s (bytes ++ take fed.taken piece) messages text drained → IsFed caller a b s piece fed bytes messages text drained
fed-quiet caller a b s piece fed bytes messages text drained given same x = record {
  told = [];
  one = omega arith;
  moments = [];
  reply = [];
  clocked = subst (λ o. Gains a.given o []) (sym given) (gains-none a.given);
  goes_on = goes_on-same caller a.saw a.own b.saw b.own same;
  alone = λ some. absurd (some refl);
  quiet = λ e. same;
  served = (refl, refl, same-lengths a.own b.own same.mine);
  session = nothing-told s (bytes ++ take fed.taken piece) (bytes ++ take fed.taken piece) messages text drained refl x;
}

pub fed-none : (caller : ℕ) (a : Seen) (s : Session) (piece : List ℕ) (want : Want) (bytes : List ℕ) (messages : List Message) (text drained : List ℕ)
    → IsSession s bytes messages text drained → IsFed caller a a s piece (record { taken = 0; want = want }) bytes messages text drained
fed-none caller a s piece want bytes messages text drained x =
    fed-quiet caller a a s piece (record { taken = 0; want = want }) bytes messages text drained refl (record { seen = λ n. refl; mine = λ n. refl })
    (subst (λ b. IsSession s b messages text drained) (sym (append-nil bytes)) x)

-- one message more keeps the connection, or closes it
all-keep-more : (messages : List Message) (m : Message) → AllKeep messages → keeps_of m ≡ true → AllKeep (messages ++ m ∷ [])
all-keep-more [] m h k = (k, tt)
all-keep-more (n ∷ messages) m h k = (h.0, all-keep-more messages m h.1 k)

all-keep-last : (messages : List Message) (m : Message) → AllKeep (messages ++ m ∷ []) → keeps_of m ≡ true
all-keep-last [] m h = h.0
all-keep-last (n ∷ messages) m h = all-keep-last messages m h.1

closed-more : (messages : List Message) (m : Message) (b : Bool) → b ≡ keeps_of m → AllKeep messages → IsClosedBy (not b) (messages ++ m ∷ [])
closed-more messages m true is keep = all-keep-more messages m keep (sym is)
closed-more messages m false is keep = λ all. (let e : false ≡ true = is ∙ all-keep-last messages m all in cc)

-- a session whose last message was answered or refused, and whose reply waits whole
ended-session : (s t : Session) (bytes : List ℕ) (messages : List Message) (m : Message) (text drained reply : List ℕ) → IsEndedBy s bytes (messages ++ m ∷ []) text drained → unsent_bytes s.unsent ≡ []
    → t.framer ≡ s.framer → t.coming ≡ None → t.closed ≡ not (keeps_of m) → unsent_bytes t.unsent ≡ reply → AllKeep messages
    → IsSession t bytes (messages ++ m ∷ []) (text ++ reply) drained
ended-session s t bytes messages m text drained reply x none framer coming closed unsent keep =
    let stands : Stands t.framer bytes (messages ++ m ∷ []) None = subst (λ f. Stands f bytes (messages ++ m ∷ []) None) (sym framer) x.stands in (
      record {
        current = None;
        stands = stands;
        under_way = subst (λ c. IsUnderWay (limits_of t.framer) (messages ++ m ∷ []) None c) (sym coming) tt;
        closed = subst (λ b. IsClosedBy b (messages ++ m ∷ [])) (sym closed) (closed-more messages m (keeps_of m) refl keep);
        waits = ap (λ (l : List ℕ). l ++ reply) (x.waits ∙ ap (λ (l : List ℕ). drained ++ l) none ∙ append-nil drained) ∙ ap (λ (l : List ℕ). drained ++ l) (sym unsent);
      },
      none-waiting t.framer bytes (messages ++ m ∷ []) stands,
    )

-- nothing waits: all was given out
given-out : (text drained waiting : List ℕ) → text ≡ drained ++ waiting → waiting ≡ [] → drained ≡ text
given-out text drained waiting is none = sym (is ∙ ap (λ (l : List ℕ). drained ++ l) none ∙ append-nil drained)

-- a message was answered
pub fed-end : (caller : ℕ) (a b c : Seen) (s t : Session) (piece : List ℕ) (fed : Fed) (bytes : List ℕ) (messages : List Message) (m : Message) (text drained : List ℕ)
    → b.given ≡ a.given → AreUnmoved a.saw a.own b.saw b.own → IsEndedBy s (bytes ++ take fed.taken piece) (messages ++ m ∷ []) text drained → unsent_bytes s.unsent ≡ [] → AllKeep messages
    → t.framer ≡ s.framer → IsReplied caller b c t m → IsFed caller a c t piece fed bytes messages text drained
fed-end caller a b c s t piece fed bytes messages m text drained given same x none keep framer r = record {
  told = m ∷ [];
  one = omega arith;
  moments = r.moments;
  reply = unsent_bytes t.unsent;
  clocked = subst (λ o. Gains o c.given r.moments) given r.clocked;
  goes_on = goes_on-trans caller a.saw a.own b.saw b.own c.saw c.own (goes_on-same caller a.saw a.own b.saw b.own same) r.goes_on;
  alone = λ some. given-out text drained (unsent_bytes s.unsent) x.waits none;
  quiet = λ e. absurd (cc);
  served = serves-from (limits_in t) (m ∷ []) r.moments c.saw caller (lengths a.own) (lengths b.own) (unsent_bytes t.unsent) (lengths c.own) (same-lengths a.own b.own same.mine)
      (serves-one (limits_in t) m r.moments c.saw caller (lengths b.own) (unsent_bytes t.unsent) (lengths c.own) r.answers);
  session = ended-session s t (bytes ++ take fed.taken piece) messages m text drained (unsent_bytes t.unsent) x none framer r.coming r.closed refl keep;
}

-- a message was refused by its framing
pub fed-fault : (caller : ℕ) (a b : Seen) (s t : Session) (piece : List ℕ) (fed : Fed) (bytes : List ℕ) (messages : List Message) (fault : FrameFault) (text drained : List ℕ)
    → b.given ≡ a.given → AreUnmoved a.saw a.own b.saw b.own → IsEndedBy s (bytes ++ take fed.taken piece) (messages ++ refused fault ∷ []) text drained → unsent_bytes s.unsent ≡ [] → AllKeep messages
    → t.framer ≡ s.framer → t.coming ≡ None → t.closed ≡ true → unsent_bytes t.unsent ≡ fault_text fault → IsFed caller a b t piece fed bytes messages text drained
fed-fault caller a b s t piece fed bytes messages fault text drained given same x none keep framer coming closed unsent = record {
  told = refused fault ∷ [];
  one = omega arith;
  moments = [];
  reply = fault_text fault;
  clocked = subst (λ o. Gains a.given o []) (sym given) (gains-none a.given);
  goes_on = goes_on-same caller a.saw a.own b.saw b.own same;
  alone = λ some. given-out text drained (unsent_bytes s.unsent) x.waits none;
  quiet = λ e. absurd (cc);
  served = serves-one (limits_in t) (refused fault) [] b.saw caller (lengths a.own) (fault_text fault) (lengths b.own) (refl, refl, same-lengths a.own b.own same.mine);
  session = ended-session s t (bytes ++ take fed.taken piece) messages (refused fault) text drained (fault_text fault) x none framer coming closed unsent keep;
}

-- no reply is empty
replies-some : (limits : Limits) (head : Head) (body : List ℕ) (keeps : Bool) (moment : ℕ) (h : Histories) (caller : ℕ) (from : Counts) (text : List ℕ) (to : Counts) → Replies limits head body keeps moment h caller from text to → text ≢ []
replies-some limits head body keeps moment h caller from text to (inl x) e = reply-some (form_of head keeps) x.request x.reply (sym x.text_is ∙ e)
replies-some limits head body keeps moment h caller from text to (inr (inl x)) e = refusal-some (form_of head keeps) x.reason (sym x.text_is ∙ e)
replies-some limits head body keeps moment h caller from text to (inr (inr (inl x))) e = fixed-some _ (sym x.text_is ∙ e)
replies-some limits head body keeps moment h caller from text to (inr (inr (inr x))) e = fixed-some _ (sym x.text_is ∙ e)

pub answer-some : (limits : Limits) (m : Message) (r : List ℕ) (h : Histories) (caller : ℕ) (from : Counts) (text : List ℕ) (to : Counts) → Answers limits m r h caller from text to → text ≢ []
answer-some limits (whole head body keeps) r h caller from text to (moment, is, x) e = replies-some limits head body keeps moment h caller from text to x e
answer-some limits (refused fault) r h caller from text to x e = fixed-some _ (sym x.1 ∙ e)
