-- A connection, piece by piece.
use Rattle.std.proofs.Common.{◌≡◌, ◌≢◌, ℕ, ◌+◌, ◌<◌, ◌≤◌, Bool, true, false, List, [], ◌∷◌, ◌++◌, length, take, drop, Option, refl, ap, sym, subst, ◌∙◌, arith, append-nil, append_assoc, length-append}
use Rattle.std.proofs.lemmas.List.{append_cancel_left, take-append-drop, length-take, length-drop}
use Rattle.gcs_io.specs.Told.{Gains, Loses}
use Rattle.gcs_http_in.specs.declared.limits.Limits.{Limits}
use Rattle.gcs_http_in.specs.Message.{Message, AllKeep, IsSpelled, Spells}
use Rattle.gcs_http_in.specs.Usual.{IsAllowed}
use Rattle.gcs_http_in.proofs.StandsReads.{reads}
use Rattle.gcs_meaning.specs.Desk.{Histories}
use Rattle.gcs_session.specs.declared.ends.SessionEnd.TheVariants.{Closed, ReadFault, WriteFault}
use Rattle.gcs_session.specs.declared.session.Session.{Session}
use Rattle.gcs_session.specs.declared.session.Fed.{Fed}
use Rattle.gcs_session.specs.declared.session.Want.TheVariants.{More, Drain, Close}
use Rattle.gcs_session.specs.Along.{IsAlong}
use Rattle.gcs_session.specs.Connection.{IsServed, Moved, Outside, SpellsFirst}
use Rattle.gcs_session.specs.Running.{lengths}
use Rattle.gcs_session.specs.Served.{Serves}
use Rattle.gcs_session.specs.Session.{IsClosedBy, IsDrained, IsFed, IsSession, IsWanted, IsWantOf, Seen, limits_in, waiting_in}
use Rattle.gcs_session.proofs.Drops.{nothing-left}
use Rattle.gcs_session.proofs.Serving.{one-served, serves-append, serves-kept}
use Rattle.gcs_session.proofs.Steps.{grows_trans}
use Rattle.gcs_session.proofs.Tellings.{gains-trans, loses-trans}

-- a piece was read
pub along-read : (limits : Limits) (caller : ℕ) (a b : Outside) (left taken : Option (List ℕ)) (s : Session) (piece : List ℕ) → Loses b.left left piece → Gains b.taken taken piece → IsAlong limits caller a b s []
    → IsAlong limits caller a (record b { left = left; taken = taken }) s piece
along-read limits caller a b left taken s piece lost read x = record {
  allowed = x.allowed;
  limits_are = x.limits_are;
  fed = x.fed;
  moments = x.moments;
  messages = x.messages;
  text = x.text;
  moved = record {
    lost = subst (λ l. Loses a.left left (l ++ piece)) (append-nil x.fed) (loses-trans a.left b.left left (x.fed ++ []) piece x.moved.lost lost);
    read = subst (λ l. Gains a.taken taken (l ++ piece)) (append-nil x.fed) (gains-trans a.taken b.taken taken (x.fed ++ []) piece x.moved.read read);
    wrote = x.moved.wrote;
    clocked = x.moved.clocked;
    grows = x.moved.grows;
    sound = x.moved.sound;
  };
  session = x.session;
  served = x.served;
}

-- what the desk and the clock tell of the outside
abbrev pub seen_of : Outside → Seen
seen_of b = record { given = b.given; saw = b.saw; own = b.own }

-- source and sink stayed as they were
pub record IsInside (b c : Outside) : Type 0 where
  pub left : c.left ≡ b.left
  pub taken : c.taken ≡ b.taken
  pub written : c.written ≡ b.written

-- a piece was fed: all replies but the last one are written
pub record IsFedAlong (limits : Limits) (caller : ℕ) (a c : Outside) (s : Session) (fed left : List ℕ) (messages : List Message) (text drained moments : List ℕ) : Type 0 where
  pub moved : Moved caller a c (fed ++ left) drained moments
  pub session : IsSession s fed messages text drained
  pub served : Serves limits messages moments c.saw caller (lengths a.own) text (lengths c.own)

pub along-fed : (limits : Limits) (caller : ℕ) (a b c : Outside) (s t : Session) (piece : List ℕ) (fed : Fed) (x : IsAlong limits caller a b s piece) → IsInside b c → limits_in t ≡ limits
    → (f : IsFed caller (seen_of b) (seen_of c) t piece fed x.fed x.messages x.text x.text)
    → IsFedAlong limits caller a c t (x.fed ++ take fed.taken piece) (drop fed.taken piece) (x.messages ++ f.told) (x.text ++ f.reply) x.text (x.moments ++ f.moments)
along-fed limits caller a b c s t piece fed x inside are f =
    let whole : (x.fed ++ take fed.taken piece) ++ drop fed.taken piece ≡ x.fed ++ piece = append_assoc x.fed (take fed.taken piece) (drop fed.taken piece) ∙ ap (λ (l : List ℕ). x.fed ++ l) (take-append-drop fed.taken piece) in
    record {
      moved = record {
        lost = subst (λ l. Loses a.left c.left l) (sym whole) (subst (λ o. Loses a.left o (x.fed ++ piece)) (sym inside.left) x.moved.lost);
        read = subst (λ l. Gains a.taken c.taken l) (sym whole) (subst (λ o. Gains a.taken o (x.fed ++ piece)) (sym inside.taken) x.moved.read);
        wrote = subst (λ o. Gains a.written o x.text) (sym inside.written) x.moved.wrote;
        clocked = gains-trans a.given b.given c.given x.moments f.moments x.moved.clocked f.clocked;
        grows = grows_trans a.saw b.saw c.saw x.moved.grows f.goes_on.grows;
        sound = λ l. f.goes_on.sound (x.moved.sound l);
      };
      session = f.session;
      served = serves-append limits x.messages f.told x.moments f.moments b.saw c.saw caller (lengths a.own) (lengths b.own) (lengths c.own) x.text f.reply f.goes_on.grows x.served
          (subst (λ l. Serves l f.told f.moments c.saw caller (lengths b.own) f.reply (lengths c.own)) are f.served);
    }

-- the reply is what waits
pub reply-waits : (s : Session) (bytes : List ℕ) (messages : List Message) (text reply : List ℕ) → IsSession s bytes messages (text ++ reply) text → reply ≡ waiting_in s
reply-waits s bytes messages text reply x = append_cancel_left text reply (waiting_in s) x.0.waits

nothing-more : (text reply waiting : List ℕ) → reply ≡ waiting → waiting ≡ [] → text ++ reply ≡ text
nothing-more text reply waiting same none = ap (λ (l : List ℕ). text ++ l) (same ∙ none) ∙ append-nil text

-- nothing waits: all was given out
all-given : (s : Session) (bytes : List ℕ) (messages : List Message) (text drained : List ℕ) → waiting_in s ≡ [] → IsSession s bytes messages text drained → IsSession s bytes messages text text
all-given s bytes messages text drained none x =
    (record { current = x.0.current; stands = x.0.stands; under_way = x.0.under_way; closed = x.0.closed; waits = sym (append-nil text) ∙ ap (λ (l : List ℕ). text ++ l) (sym none) }, x.1)

-- nothing waits, and more bytes are wanted
pub along-more : (limits : Limits) (caller : ℕ) (a c : Outside) (s : Session) (fed left : List ℕ) (messages : List Message) (text reply moments : List ℕ) → IsAllowed limits → limits_in s ≡ limits
    → IsFedAlong limits caller a c s fed left messages (text ++ reply) text moments → waiting_in s ≡ [] → left ≡ [] → IsAlong limits caller a c s []
along-more limits caller a c s fed left messages text reply moments allowed are x none last =
    let same : text ≡ text ++ reply = sym (nothing-more text reply (waiting_in s) (reply-waits s fed messages text reply x.session) none) in
    record {
      allowed = allowed;
      limits_are = are;
      fed = fed;
      moments = moments;
      messages = messages;
      text = text ++ reply;
      moved = record {
        lost = subst (λ l. Loses a.left c.left (fed ++ l)) last x.moved.lost;
        read = subst (λ l. Gains a.taken c.taken (fed ++ l)) last x.moved.read;
        wrote = subst (Gains a.written c.written) same x.moved.wrote;
        clocked = x.moved.clocked;
        grows = x.moved.grows;
        sound = x.moved.sound;
      };
      session = all-given s fed messages (text ++ reply) text none x.session;
      served = x.served;
    }

-- the messages stand first in all bytes that were read
first-spelled : (limits : Limits) (s : Session) (fed left : List ℕ) (messages : List Message) (text drained : List ℕ) → limits_in s ≡ limits → IsSession s fed messages text drained
    → (rest : List ℕ) × SpellsFirst limits (fed ++ left) messages rest
first-spelled limits s fed left messages text drained are x =
    let stands = x.0.stands in (
      stands.part ++ left,
      record {
        front = stands.front;
        split = ap (λ (l : List ℕ). l ++ left) stands.split ∙ append_assoc stands.front stands.part left;
        spelled = subst (λ l. IsSpelled l 1 messages stands.front) are stands.spelled;
      },
    )

-- the last message closed the connection, and its reply is written
pub along-close : (limits : Limits) (caller : ℕ) (a c : Outside) (s : Session) (fed left : List ℕ) (messages : List Message) (text reply moments : List ℕ) → limits_in s ≡ limits
    → IsFedAlong limits caller a c s fed left messages (text ++ reply) text moments → waiting_in s ≡ [] → s.closed ≡ true → (ended : Bool) → IsServed limits caller a c ended Closed
along-close limits caller a c s fed left messages text reply moments are x none closed ended =
    let same : text ++ reply ≡ text = nothing-more text reply (waiting_in s) (reply-waits s fed messages text reply x.session) none in
    let closes : AllKeep messages → ⊥ = subst (λ b. IsClosedBy b messages) closed x.session.0.closed in
    let first = first-spelled limits s fed left messages (text ++ reply) text are x.session in
    record {
      input = fed ++ left;
      output = text;
      moments = moments;
      moved = x.moved;
      messages = messages;
      rest = first.0;
      text = text ++ reply;
      spelled = record { front = first.1.front; split = first.1.split; spelled = first.1.spelled; no_more = λ keep. absurd (closes keep) };
      served = x.served;
      written = sym same;
      ends = closes;
    }

-- the reply was written whole
pub along-drained : (limits : Limits) (caller : ℕ) (a c : Outside) (written : Option (List ℕ)) (s t : Session) (fed left : List ℕ) (messages : List Message) (text reply moments w : List ℕ) → IsAllowed limits → limits_in s ≡ limits
    → IsFedAlong limits caller a c s fed left messages (text ++ reply) text moments → IsDrained s t → Gains c.written written w → w ≡ waiting_in s
    → IsAlong limits caller a (record c { written = written }) t left
along-drained limits caller a c written s t fed left messages text reply moments w allowed are x drained wrote whole =
    let same : w ≡ reply = whole ∙ sym (reply-waits s fed messages text reply x.session) in
    record {
      allowed = allowed;
      limits_are = drained.limits ∙ are;
      fed = fed;
      moments = moments;
      messages = messages;
      text = text ++ reply;
      moved = record {
        lost = x.moved.lost;
        read = x.moved.read;
        wrote = subst (λ l. Gains a.written written (text ++ l)) same (gains-trans a.written c.written written text w x.moved.wrote wrote);
        clocked = x.moved.clocked;
        grows = x.moved.grows;
        sound = x.moved.sound;
      };
      session = drained.session fed messages (text ++ reply) text x.session;
      served = x.served;
    }

-- a message was answered where something waits
pub one-told : (limits : Limits) (told : List Message) (moments : List ℕ) (h : Histories) (caller : ℕ) (from : ℕ → ℕ) (reply waiting : List ℕ) (to : ℕ → ℕ) → length told ≤ 1 → Serves limits told moments h caller from reply to → reply ≡ waiting → waiting ≢ []
    → (m : Message) × (told ≡ m ∷ [])
one-told limits [] moments h caller from reply waiting to few x same some = absurd (some (sym same ∙ x.1))
one-told limits (m ∷ []) moments h caller from reply waiting to few x same some = (m, refl)
one-told limits (m ∷ n ∷ ms) moments h caller from reply waiting to few x same some = absurd (let more : 1 < length (m ∷ n ∷ ms) = omega arith in omega (arith, few, more))

-- the reply was broken off
pub along-broken : (limits : Limits) (caller : ℕ) (a b c : Outside) (written : Option (List ℕ)) (s t : Session) (piece : List ℕ) (fed : Fed) (w more : List ℕ) (x : IsAlong limits caller a b s piece) → IsInside b c
    → (f : IsFed caller (seen_of b) (seen_of c) t piece fed x.fed x.messages x.text x.text) → limits_in t ≡ limits → Gains c.written written w → waiting_in t ≡ w ++ more → 0 < length more
    → IsServed limits caller a (record c { written = written }) false WriteFault
along-broken limits caller a b c written s t piece fed w more x inside f are wrote part some =
    let y = along-fed limits caller a b c s t piece fed x inside are f in
    let waits : f.reply ≡ waiting_in t = reply-waits t (x.fed ++ take fed.taken piece) (x.messages ++ f.told) x.text f.reply y.session in
    let served : Serves limits f.told f.moments c.saw caller (lengths b.own) f.reply (lengths c.own) = subst (λ l. Serves l f.told f.moments c.saw caller (lengths b.own) f.reply (lengths c.own)) are f.served in
    let told = one-told limits f.told f.moments c.saw caller (lengths b.own) f.reply (waiting_in t) (lengths c.own) f.one served waits (λ none. some-none w more part some none) in
    let first = first-spelled limits t (x.fed ++ take fed.taken piece) (drop fed.taken piece) (x.messages ++ f.told) (x.text ++ f.reply) x.text are y.session in
    record {
      input = (x.fed ++ take fed.taken piece) ++ drop fed.taken piece;
      output = x.text ++ w;
      moments = x.moments ++ f.moments;
      moved = record {
        lost = y.moved.lost;
        read = y.moved.read;
        wrote = gains-trans a.written c.written written x.text w y.moved.wrote wrote;
        clocked = y.moved.clocked;
        grows = y.moved.grows;
        sound = y.moved.sound;
      };
      messages = x.messages ++ f.told;
      rest = first.0;
      text = x.text ++ f.reply;
      spelled = first.1;
      served = y.served;
      written = record {
        before = x.messages;
        last = told.0;
        messages_are = ap (λ ms. x.messages ++ ms) told.1;
        early = x.moments;
        late = f.moments;
        moments_are = refl;
        mid = lengths b.own;
        front = x.text;
        part = w;
        more = more;
        text_is = ap (λ (l : List ℕ). x.text ++ l) (waits ∙ part);
        output_is = refl;
        some = some;
        first_served = serves-kept limits x.messages x.moments b.saw c.saw caller (lengths a.own) x.text (lengths b.own) (lengths b.own) f.goes_on.grows (λ n. refl) x.served;
        last_answered = one-served limits told.0 f.moments c.saw caller (lengths b.own) (w ++ more) (lengths c.own)
            (subst (λ l. Serves limits (told.0 ∷ []) f.moments c.saw caller (lengths b.own) l (lengths c.own)) (waits ∙ part)
            (subst (λ ms. Serves limits ms f.moments c.saw caller (lengths b.own) f.reply (lengths c.own)) told.1 served));
      };
      ends = refl;
    }
  where
    some-none : (w more : List ℕ) → waiting_in t ≡ w ++ more → 0 < length more → waiting_in t ≡ [] → ⊥
    some-none w more e some none =
        let size : length w + length more ≡ 0 = sym (length-append w more) ∙ ap (length {A = ℕ}) (sym e ∙ none) in
        omega (arith, size, some)

-- a piece was fed, and more bytes are wanted
pub fed-more : (limits : Limits) (caller : ℕ) (a b c : Outside) (s t : Session) (piece : List ℕ) (fed : Fed) (x : IsAlong limits caller a b s piece) → IsInside b c
    → IsFed caller (seen_of b) (seen_of c) t piece fed x.fed x.messages x.text x.text → limits_in t ≡ limits_in s → IsWanted s t piece fed → fed.want ≡ More
    → (z : IsAlong limits caller a c t []) × (t.closed ≡ false) × (length z.fed ≡ length x.fed + length piece)
unfolding along-more
fed-more limits caller a b c s t piece fed x inside f same wanted more =
    let want : IsWantOf (waiting_in t) t.closed More = subst (IsWantOf (waiting_in t) t.closed) more wanted.want in (
      along-more limits caller a c t (x.fed ++ take fed.taken piece) (drop fed.taken piece) (x.messages ++ f.told) x.text f.reply (x.moments ++ f.moments) x.allowed (same ∙ x.limits_are)
          (along-fed limits caller a b c s t piece fed x inside (same ∙ x.limits_are) f) want.0 (nothing-left fed.taken piece (wanted.whole more)),
      want.1,
      (let taken : fed.taken ≡ length piece = wanted.whole more in omega (arith, length-append x.fed (take fed.taken piece), length-take fed.taken piece, taken)),
    )

-- a piece was fed, and the connection is closed
pub fed-close : (limits : Limits) (caller : ℕ) (a b c : Outside) (s t : Session) (piece : List ℕ) (fed : Fed) (x : IsAlong limits caller a b s piece) → IsInside b c
    → IsFed caller (seen_of b) (seen_of c) t piece fed x.fed x.messages x.text x.text → limits_in t ≡ limits_in s → IsWanted s t piece fed → fed.want ≡ Close → (ended : Bool) → IsServed limits caller a c ended Closed
fed-close limits caller a b c s t piece fed x inside f same wanted close ended =
    let want : IsWantOf (waiting_in t) t.closed Close = subst (IsWantOf (waiting_in t) t.closed) close wanted.want in
    along-close limits caller a c t (x.fed ++ take fed.taken piece) (drop fed.taken piece) (x.messages ++ f.told) x.text f.reply (x.moments ++ f.moments) (same ∙ x.limits_are)
    (along-fed limits caller a b c s t piece fed x inside (same ∙ x.limits_are) f) want.0 want.1 ended

-- a piece was fed, and the reply was written whole: there is one message more
pub fed-drained : (limits : Limits) (caller : ℕ) (a b c : Outside) (written : Option (List ℕ)) (s t u : Session) (piece left w : List ℕ) (fed : Fed) (x : IsAlong limits caller a b s piece) → IsInside b c
    → IsFed caller (seen_of b) (seen_of c) t piece fed x.fed x.messages x.text x.text → limits_in t ≡ limits_in s → IsWanted s t piece fed → fed.want ≡ Drain
    → IsDrained t u → Gains c.written written w → w ≡ waiting_in t → left ≡ drop fed.taken piece
    → (z : IsAlong limits caller a (record c { written = written }) u left) × (length z.messages ≡ length x.messages + 1) × (length z.fed + length left ≡ length x.fed + length piece)
unfolding along-drained
fed-drained limits caller a b c written s t u piece left w fed x inside f same wanted drain drained wrote whole over =
    let want : waiting_in t ≢ [] = subst (IsWantOf (waiting_in t) t.closed) drain wanted.want in
    let y = along-fed limits caller a b c s t piece fed x inside (same ∙ x.limits_are) f in
    let waits : f.reply ≡ waiting_in t = reply-waits t (x.fed ++ take fed.taken piece) (x.messages ++ f.told) x.text f.reply y.session in
    let told = one-told (limits_in t) f.told f.moments c.saw caller (lengths b.own) f.reply (waiting_in t) (lengths c.own) f.one f.served waits want in
    let here : IsFedAlong limits caller a c t (x.fed ++ take fed.taken piece) left (x.messages ++ f.told) (x.text ++ f.reply) x.text (x.moments ++ f.moments) =
    subst (λ l. IsFedAlong limits caller a c t (x.fed ++ take fed.taken piece) l (x.messages ++ f.told) (x.text ++ f.reply) x.text (x.moments ++ f.moments)) (sym over) y in (
      along-drained limits caller a c written t u (x.fed ++ take fed.taken piece) left (x.messages ++ f.told) x.text f.reply (x.moments ++ f.moments) w x.allowed (same ∙ x.limits_are) here drained wrote whole,
      length-append x.messages f.told ∙ ap (λ ms. length x.messages + length ms) told.1,
      omega (arith, ap (length {A = ℕ}) over, length-append x.fed (take fed.taken piece), length-take fed.taken piece, length-drop fed.taken piece, wanted.within),
    )

-- while the connection is open all messages keep it
pub kept-open : (limits : Limits) (caller : ℕ) (a b : Outside) (s : Session) (x : IsAlong limits caller a b s []) → s.closed ≡ false → AllKeep x.messages
kept-open limits caller a b s x stays = subst (λ c. IsClosedBy c x.messages) stays x.session.0.closed

-- a piece was read, with the caller by another name
pub along-read-by : (limits : Limits) (caller n : ℕ) (a b : Outside) (left taken : Option (List ℕ)) (s : Session) (count : ℕ) (into piece : List ℕ) → n ≡ caller → piece ≡ into
    → Loses b.left left (take count into) → Gains b.taken taken (take count into) → (x : IsAlong limits caller a b s [])
    → (y : IsAlong limits n a (record b { left = left; taken = taken }) s (take count piece)) × (length y.fed ≡ length x.fed)
unfolding along-read
along-read-by limits caller n a b left taken s count into piece same is lost read x =
    let gone : Loses b.left left (take count piece) = subst (λ l. Loses b.left left (take count l)) (sym is) lost in
    let got : Gains b.taken taken (take count piece) = subst (λ l. Gains b.taken taken (take count l)) (sym is) read in
    subst (λ m. (y : IsAlong limits m a (record b { left = left; taken = taken }) s (take count piece)) × (length y.fed ≡ length x.fed)) (sym same)
    (along-read limits caller a b left taken s (take count piece) gone got x, refl)

-- the source failed
pub along-fault : (limits : Limits) (caller : ℕ) (a b : Outside) (left taken : Option (List ℕ)) (s : Session) → Loses b.left left [] → Gains b.taken taken [] → IsAlong limits caller a b s [] → s.closed ≡ false
    → IsServed limits caller a (record b { left = left; taken = taken }) false ReadFault
unfolding along-read
along-fault limits caller a b left taken s lost read x stays =
    let keep : AllKeep x.messages = subst (λ c. IsClosedBy c x.messages) stays x.session.0.closed in
    let whole = reads s.framer x.fed x.messages x.session.0.current x.session.0.stands x.session.1 in
    let y = along-read limits caller a b left taken s [] lost read x in
    let one : (rest : List ℕ) × Spells limits (x.fed ++ []) x.messages rest = (whole.0, subst (λ l. Spells limits l x.messages whole.0) (sym (append-nil x.fed)) (subst (λ l. Spells l x.fed x.messages whole.0) x.limits_are whole.1)) in
    record {
      input = x.fed ++ [];
      output = x.text;
      moments = x.moments;
      moved = y.moved;
      messages = x.messages;
      rest = one.0;
      text = x.text;
      spelled = one.1;
      served = x.served;
      written = refl;
      ends = (refl, keep);
    }
