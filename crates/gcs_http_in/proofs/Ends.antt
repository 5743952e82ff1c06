-- What the end of a message makes of a framer.
use Rattle.std.proofs.Common.{◌≡◌, ℕ, ◌+◌, ◌-◌, ◌<◌, Bool, true, false, List, [], ◌∷◌, ◌++◌, length, refl, ap, sym, ◌∙◌, subst, arith, append-nil, None, length-append}
use Rattle.std.specs.Prelude.{◌==◌, ◌&&◌, not}
use Rattle.std.proofs.lemmas.Bool.{false≢true}
use Rattle.std.proofs.lemmas.Bool.Decides.{nat_tests}
use Rattle.gcs_http_in.specs.declared.limits.Limits.{Limits}
use Rattle.gcs_http_in.specs.declared.framer.Framer.{Framer}
use Rattle.gcs_http_in.specs.declared.state.State.{State}
use Rattle.gcs_http_in.specs.declared.state.State.TheVariants as state
use Rattle.gcs_http_in.specs.Message.{Message, whole, stays, IsSpelled, keeps_of}
use Rattle.gcs_http_in.specs.Reader.{HeadStands}
use Rattle.gcs_http_in.specs.Progress.{Current}
use Rattle.gcs_http_in.specs.Stands.{limits_of, StandsIn, Stands, IsReady}
use Rattle.gcs_http_in.proofs.HeadLines.{All_push}
use Rattle.gcs_http_in.proofs.Messages.{spelled_push}

-- the message ends, and closes the connection
pub ends_closed : (f g : Framer) (bytes : List ℕ) (messages : List Message) (it : Current) → f.keeps ≡ false → g.state ≡ state.Closed true → limits_of g ≡ limits_of f
    → IsReady f bytes messages it → Stands g bytes (messages ++ whole it.head it.content f.keeps ∷ []) None
ends_closed f g bytes messages it closes eg lim r =
    let m = whole it.head it.content f.keeps in record {
      front = r.front ++ r.part;
      part = [];
      split = r.split ∙ sym (append-nil (r.front ++ r.part));
      spelled = subst (λ (l : Limits). IsSpelled l 1 (messages ++ m ∷ []) (r.front ++ r.part)) (sym lim)
          (spelled_push (limits_of f) 1 messages m r.front r.part r.spelled r.keep r.whole_is);
      inside = subst (λ (st : State). StandsIn g st (messages ++ m ∷ []) [] None) (sym eg) record {
        none = refl;
        before = messages;
        last = m;
        are = refl;
        closes = closes;
        bare_is = refl;
      };
    }

-- where a message keeps the connection another may come
more_may_come : (s : Bool) (k left most : ℕ) → k + left ≡ most → 0 < left → (s && not (1 + k == most)) ≡ true → 1 < left
more_may_come true k left most e some kept = grind (arith, nat_tests)
more_may_come false k left most e some kept = absurd (false≢true kept)

-- the message ends, and another may come
pub ends_kept : (f g : Framer) (bytes : List ℕ) (messages : List Message) (it : Current) → f.keeps ≡ true → g.state ≡ state.Head → limits_of g ≡ limits_of f
    → g.left ≡ f.left - 1 → HeadStands g.head [] → IsReady f bytes messages it → Stands g bytes (messages ++ whole it.head it.content f.keeps ∷ []) None
ends_kept f g bytes messages it kept eg lim left head r =
    let m = whole it.head it.content f.keeps in
    let more : 1 < f.left = more_may_come (stays it.head) (length messages) f.left (limits_of f).requests r.left r.some (sym r.whole_is.keeps_is ∙ kept) in
    record {
      front = r.front ++ r.part;
      part = [];
      split = r.split ∙ sym (append-nil (r.front ++ r.part));
      spelled = subst (λ (l : Limits). IsSpelled l 1 (messages ++ m ∷ []) (r.front ++ r.part)) (sym lim)
          (spelled_push (limits_of f) 1 messages m r.front r.part r.spelled r.keep r.whole_is);
      inside = subst (λ (st : State). StandsIn g st (messages ++ m ∷ []) [] None) (sym eg) record {
        none = refl;
        keep = All_push (λ (n : Message). keeps_of n ≡ true) messages m r.keep kept;
        left = rw length-append (omega (arith, r.left, ap (λ (l : Limits). l.requests) lim));
        some = omega arith;
        head = head;
      };
    }
