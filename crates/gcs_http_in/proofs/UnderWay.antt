-- What a framer holds of the message under way.
use Rattle.std.proofs.Common.{◌≡◌, ℕ, ◌+◌, List, length, sym, ◌∙◌, subst, Some, None}
use Rattle.std.specs.Prelude.{◌==◌, ◌&&◌, not}
use Rattle.gcs_http_in.specs.declared.framer.Framer.{Framer}
use Rattle.gcs_http_in.specs.declared.state.State.{State}
use Rattle.gcs_http_in.specs.declared.state.State.TheVariants as state
use Rattle.gcs_http_in.specs.Message.{Message, stays}
use Rattle.gcs_http_in.specs.Reader.{HoldsHead}
use Rattle.gcs_http_in.specs.Progress.{Current}
use Rattle.gcs_http_in.specs.Stands.{limits_of, StandsIn, Stands}
use Rattle.gcs_http_in.proofs.FramerLemmas.{keeps_by_number}

-- what is current is one
same_some : (a b : Current) → Some a ≡ Some b → a ≡ b
same_some a b e = cc

-- in a message the reader holds its head, by the state
holds_at : (f : Framer) (st : State) (messages : List Message) (part : List ℕ) (it : Current) → StandsIn f st messages part (Some it) → HoldsHead f.head it.head
holds_at f state.Head messages part it s = absurd (let e : Some it ≡ None = s.none in cc)
holds_at f (state.Length count) messages part it s = subst (λ (c : Current). HoldsHead f.head c.head) (sym (same_some it s.it s.is)) s.holds
holds_at f state.Chunked messages part it s = subst (λ (c : Current). HoldsHead f.head c.head) (sym (same_some it s.it s.is)) s.holds
holds_at f (state.Closed bare) messages part it s = absurd (let e : Some it ≡ None = s.none in cc)

-- the head of the current message
pub holds_in : (f : Framer) (bytes : List ℕ) (messages : List Message) (it : Current) → Stands f bytes messages (Some it) → HoldsHead f.head it.head
holds_in f bytes messages it s = holds_at f f.state messages s.part it s.inside

-- in a message it is known whether it keeps the connection, by the state
keeps_at : (f : Framer) (st : State) (messages : List Message) (part : List ℕ) (it : Current) → StandsIn f st messages part (Some it)
    → f.keeps ≡ (stays it.head && not (1 + length messages == (limits_of f).requests))
keeps_at f state.Head messages part it s = absurd (let e : Some it ≡ None = s.none in cc)
keeps_at f (state.Length count) messages part it s = subst (λ (c : Current). f.keeps ≡ (stays c.head && not (1 + length messages == (limits_of f).requests))) (sym (same_some it s.it s.is))
    (s.keeps ∙ keeps_by_number (stays s.it.head) (length messages) f.left (limits_of f).requests s.left)
keeps_at f state.Chunked messages part it s = subst (λ (c : Current). f.keeps ≡ (stays c.head && not (1 + length messages == (limits_of f).requests))) (sym (same_some it s.it s.is))
    (s.keeps ∙ keeps_by_number (stays s.it.head) (length messages) f.left (limits_of f).requests s.left)
keeps_at f (state.Closed bare) messages part it s = absurd (let e : Some it ≡ None = s.none in cc)

-- in a message it is known whether it keeps the connection
pub keeps_in : (f : Framer) (bytes : List ℕ) (messages : List Message) (it : Current) → Stands f bytes messages (Some it)
    → f.keeps ≡ (stays it.head && not (1 + length messages == (limits_of f).requests))
keeps_in f bytes messages it s = keeps_at f f.state messages s.part it s.inside
