-- What the events of framing make of a session.
use Rattle.std.proofs.Common.{◌≡◌, ℕ, ◌+◌, ◌≤◌, Bool, not, List, [], ◌∷◌, ◌++◌, length, take, drop, Option, Some, None, refl, ap, sym, subst, ◌∙◌, arith, append_assoc}
use Rattle.std.specs.Prelude.{◌==◌, ◌&&◌, slice_range, IfSome}
use Rattle.std.proofs.lemmas.List.{take-append-drop, length-take}
use Rattle.std.proofs.Math.Seq.{take-append-add}
use Rattle.gcs_chunks.specs.Content.{ChunksValue}
use Rattle.gcs_http_in.specs.declared.limits.Limits.{Limits}
use Rattle.gcs_http_in.specs.declared.fault.FrameFault.{FrameFault}
use Rattle.gcs_http_in.specs.declared.framer.Framer.{Framer}
use Rattle.gcs_http_in.specs.declared.state.Taken.TheVariants as taken
use Rattle.gcs_http_in.specs.Head.{Head}
use Rattle.gcs_http_in.specs.Message.{Message, whole, refused, stays, IsSpelled}
use Rattle.gcs_http_in.specs.Progress.{Current}
use Rattle.gcs_http_in.specs.Stands.{Stands, Told, IsWaiting, limits_of}
use Rattle.gcs_http_in.proofs.StandsReads.{reads_due}
use Rattle.gcs_session.specs.declared.coming.Coming.{Coming}
use Rattle.gcs_session.specs.declared.session.Session.{Session}
use Rattle.gcs_session.specs.declared.unsent.Unsent.{Unsent}
use Rattle.gcs_session.specs.Coming.{IsComing}
use Rattle.gcs_session.specs.Contents.{ComingLiesIn, SessionLiesIn, UnsentLiesIn}
use Rattle.gcs_session.specs.Session.{IsClosedBy, IsEndedBy, IsReading, IsSession, IsUnderWay, IsWholeIn}
use Rattle.gcs_session.specs.Unsent.{unsent_bytes}

-- a front that is longer by n
pub take-plus : (xs : List ℕ) (m n : ℕ) → m ≤ length xs → take (m + n) xs ≡ take m xs ++ take n (drop m xs)
take-plus xs m n fits =
    let size : length (take m xs) ≡ m = grind (arith, length-take m xs) in
    ap (take (m + n)) (sym (take-append-drop m xs))
    ∙ ap (λ k. take (k + n) (take m xs ++ drop m xs)) (sym size)
    ∙ take-append-add (take m xs) (drop m xs) n

pub taken-more : (bytes piece rest : List ℕ) (at n : ℕ) → at ≤ length piece → rest ≡ drop at piece → (bytes ++ take at piece) ++ take n rest ≡ bytes ++ take (at + n) piece
taken-more bytes piece rest at n fits is =
    append_assoc bytes (take at piece) (take n rest)
    ∙ ap (λ (l : List ℕ). bytes ++ (take at piece ++ take n l)) is
    ∙ ap (λ (l : List ℕ). bytes ++ l) (sym (take-plus piece at n fits))

-- the session has another framer and gathers another message, and is the same besides
pub record IsSameBut (s t : Session) : Type 0 where
  pub closed : t.closed ≡ s.closed
  pub unsent : t.unsent ≡ s.unsent

pub reading-head : (s t : Session) (rest bytes : List ℕ) (n : ℕ) (messages : List Message) (text drained : List ℕ) → IsSameBut s t
    → (x : IsReading s bytes messages text drained) → Told t.framer rest (taken.Head n) bytes messages x.current
    → ((it : Current) → Stands t.framer (bytes ++ take n rest) messages (Some it) → it.content ≡ [] → IsUnderWay (limits_of t.framer) messages (Some it) t.coming)
    → IsReading t (bytes ++ take n rest) messages text drained
reading-head s t rest bytes n messages text drained same x told begun =
    let it : Current = record { head = told.1.0; content = [] } in
    record {
      current = Some it;
      stands = told.1.1;
      under_way = begun it told.1.1 refl;
      closed = subst (λ c. IsClosedBy c messages) (sym same.closed) x.closed;
      waits = x.waits ∙ ap (λ u. drained ++ unsent_bytes u) (sym same.unsent);
    }

pub reading-body : (s t : Session) (rest bytes : List ℕ) (n from to : ℕ) (messages : List Message) (text drained : List ℕ) → IsSameBut s t → limits_of t.framer ≡ limits_of s.framer
    → (x : IsReading s bytes messages text drained) → Told t.framer rest (taken.Body n from to) bytes messages x.current
    → ((limits : Limits) (ms : List Message) (it : Current) → IsUnderWay limits ms (Some it) s.coming → IsUnderWay limits ms (Some (record it { content = it.content ++ slice_range rest from to })) t.coming)
    → IsReading t (bytes ++ take n rest) messages text drained
reading-body s t rest bytes n from to messages text drained same are x told kept =
    let now : IsUnderWay (limits_of s.framer) messages (Some told.0) s.coming = subst (λ c. IsUnderWay (limits_of s.framer) messages c s.coming) told.1 x.under_way in
    record {
      current = Some record { head = told.0.head; content = told.0.content ++ slice_range rest from to };
      stands = told.2;
      under_way = kept (limits_of t.framer) messages told.0 (subst (λ l. IsUnderWay l messages (Some told.0) s.coming) (sym are) now);
      closed = subst (λ c. IsClosedBy c messages) (sym same.closed) x.closed;
      waits = x.waits ∙ ap (λ u. drained ++ unsent_bytes u) (sym same.unsent);
    }

-- no event came
pub gathered-more : (s t : Session) (rest bytes : List ℕ) (n : ℕ) (messages : List Message) (text drained : List ℕ) → IsSameBut s t → t.coming ≡ s.coming → limits_of t.framer ≡ limits_of s.framer → (IsWaiting t.framer → ⊥)
    → (x : IsReading s bytes messages text drained) → Told t.framer rest (taken.More n) bytes messages x.current → IsSession t (bytes ++ take n rest) messages text drained
gathered-more s t rest bytes n messages text drained same coming are told x stands = (
  record {
    current = x.current;
    stands = stands;
    under_way = subst (λ c. IsUnderWay (limits_of t.framer) messages x.current c) (sym coming) (subst (λ l. IsUnderWay l messages x.current s.coming) (sym are) x.under_way);
    closed = subst (λ c. IsClosedBy c messages) (sym same.closed) x.closed;
    waits = x.waits ∙ ap (λ u. drained ++ unsent_bytes u) (sym same.unsent);
  },
  told,
)

-- whether a spelled message keeps the connection goes by its head and its number
pub last-keeps : (limits : Limits) (number : ℕ) (messages : List Message) (head : Head) (content : List ℕ) (keeps : Bool) (text : List ℕ) → IsSpelled limits number (messages ++ whole head content keeps ∷ []) text
    → keeps ≡ (stays head && not (number + length messages == limits.requests))
last-keeps limits number [] head content keeps text x =
    x.3.keeps_is ∙ ap (λ n. stays head && not (n == limits.requests)) (let e : number ≡ number + length {A = Message} [] = omega arith in e)
last-keeps limits number (m ∷ messages) head content keeps text x =
    last-keeps limits (number + 1) messages head content keeps x.1 x.4
    ∙ ap (λ n. stays head && not (n == limits.requests)) (let e : (number + 1) + length messages ≡ number + length (m ∷ messages) = omega arith in e)

under-way-some : (limits : Limits) (messages : List Message) (it : Current) (coming : Option Coming) (keeps : Bool) → keeps ≡ (stays it.head && not (1 + length messages == limits.requests))
    → IsUnderWay limits messages (Some it) coming → IsWholeIn limits it.head it.content keeps coming
under-way-some limits messages it None keeps is x = x
under-way-some limits messages it (Some coming) keeps is x = subst (λ k. IsComing limits it.head it.content k coming) (sym is) x

-- a message is whole
pub gathered-end : (s t : Session) (rest bytes : List ℕ) (n : ℕ) (messages : List Message) (text drained : List ℕ) → IsSameBut s t → t.coming ≡ s.coming → limits_of t.framer ≡ limits_of s.framer
    → (x : IsReading s bytes messages text drained) → Told t.framer rest (taken.End n) bytes messages x.current
    → (it : Current) × (keeps : Bool) × IsWholeIn (limits_of t.framer) it.head it.content keeps t.coming × IsEndedBy t (bytes ++ take n rest) (messages ++ whole it.head it.content keeps ∷ []) text drained
gathered-end s t rest bytes n messages text drained same coming are x told =
    let it : Current = told.0 in
    let stands = told.3 in
    let keeps-is = last-keeps (limits_of t.framer) 1 messages it.head it.content told.2 stands.front stands.spelled in
    let now : IsUnderWay (limits_of t.framer) messages (Some it) s.coming = subst (λ l. IsUnderWay l messages (Some it) s.coming) (sym are) (subst (λ c. IsUnderWay (limits_of s.framer) messages c s.coming) told.1 x.under_way) in (
      it,
      told.2,
      subst (IsWholeIn (limits_of t.framer) it.head it.content told.2) (sym coming) (under-way-some (limits_of t.framer) messages it s.coming told.2 keeps-is now),
      record { stands = stands; waits = x.waits ∙ ap (λ u. drained ++ unsent_bytes u) (sym same.unsent) },
    )

-- a message is refused
pub gathered-fault : (s t : Session) (rest bytes : List ℕ) (n : ℕ) (fault : FrameFault) (messages : List Message) (text drained : List ℕ) → IsSameBut s t
    → (x : IsReading s bytes messages text drained) → Told t.framer rest (taken.Fault n fault) bytes messages x.current
    → IsEndedBy t (bytes ++ take n rest) (messages ++ refused fault ∷ []) text drained
gathered-fault s t rest bytes n fault messages text drained same x stands = record { stands = stands; waits = x.waits ∙ ap (λ u. drained ++ unsent_bytes u) (sym same.unsent) }

-- between two messages no end waits to be told
pub none-waiting : (f : Framer) (bytes : List ℕ) (messages : List Message) → Stands f bytes messages None → IsWaiting f → ⊥
none-waiting f bytes messages stands waiting =
    let due = reads_due f bytes messages None stands waiting in
    let e : None ≡ Some due.0 = due.1 in cc

-- what has come of the message under way lies where it lay, and so does what waits
pub gathered-lies : (chunks : ChunksValue) (s t : Session) → t.unsent ≡ s.unsent → (IfSome s.coming (ComingLiesIn chunks) → IfSome t.coming (ComingLiesIn chunks)) → SessionLiesIn chunks s → SessionLiesIn chunks t
gathered-lies chunks s t same stays lies = record { coming = stays lies.coming; unsent = subst (λ (u : Unsent). UnsentLiesIn chunks u) (sym same) lies.unsent }
