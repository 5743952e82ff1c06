-- Replies that were served stay so, and more can follow.
use Rattle.std.proofs.Common.{inl, inr, ℕ, Bool, List, [], ◌∷◌, ◌++◌, refl, ap, sym, subst, ◌∙◌, append-nil, append_assoc}
use Rattle.gcs_http_in.specs.declared.limits.Limits.{Limits}
use Rattle.gcs_http_in.specs.Head.{Head}
use Rattle.gcs_http_in.specs.Message.{Message, whole, refused}
use Rattle.gcs_meaning.specs.Desk.{Histories}
use Rattle.gcs_session.specs.Asks.{Counts, SameCounts}
use Rattle.gcs_session.specs.Served.{Answers, Serves, Replies}
use Rattle.gcs_session.specs.Running.{Grows}
use Rattle.gcs_session.proofs.Steps.{Asks-from, Asks-kept}

-- histories that grow, and counts at the end that are the same
replies-kept : (limits : Limits) (head : Head) (body : List ℕ) (keeps : Bool) (moment : ℕ) (h h' : Histories) (caller : ℕ) (from : Counts) (text : List ℕ) (to to' : Counts) → Grows h h' → SameCounts to to'
    → Replies limits head body keeps moment h caller from text to → Replies limits head body keeps moment h' caller from text to'
replies-kept limits head body keeps moment h h' caller from text to to' g s (inl x) = inl record {
  request = x.request;
  call = x.call;
  answers = x.answers;
  asked = Asks-kept x.request [] x.answers moment h h' caller from to to' g s x.asked;
  reply = x.reply;
  said = x.said;
  text_is = x.text_is;
}
replies-kept limits head body keeps moment h h' caller from text to to' g s (inr (inl x)) =
    inr (inl record { reason = x.reason; refusal = x.refusal; none = λ n. s n ∙ x.none n; text_is = x.text_is })
replies-kept limits head body keeps moment h h' caller from text to to' g s (inr (inr (inl x))) = inr (inr (inl record { none = λ n. s n ∙ x.none n; text_is = x.text_is }))
replies-kept limits head body keeps moment h h' caller from text to to' g s (inr (inr (inr x))) = inr (inr (inr record {
  request = x.request;
  call = x.call;
  first = x.first;
  further = x.further;
  asked = Asks-kept x.request [] (x.first ∷ x.further) moment h h' caller from to to' g s x.asked;
  text_is = x.text_is;
}))

answers-kept : (limits : Limits) (m : Message) (r : List ℕ) (h h' : Histories) (caller : ℕ) (from : Counts) (text : List ℕ) (to to' : Counts) → Grows h h' → SameCounts to to' → Answers limits m r h caller from text to → Answers limits m r h' caller from text to'
answers-kept limits (whole head body keeps) r h h' caller from text to to' g s (moment, e, x) = (moment, e, replies-kept limits head body keeps moment h h' caller from text to to' g s x)
answers-kept limits (refused fault) r h h' caller from text to to' g s x = (x.0, x.1, λ n. s n ∙ x.2 n)

pub serves-kept : (limits : Limits) (ms : List Message) (r : List ℕ) (h h' : Histories) (caller : ℕ) (from : Counts) (text : List ℕ) (to to' : Counts) → Grows h h' → SameCounts to to' → Serves limits ms r h caller from text to → Serves limits ms r h' caller from text to'
serves-kept limits [] r h h' caller from text to to' g s x = (x.0, x.1, λ n. s n ∙ x.2 n)
serves-kept limits (m ∷ ms) r h h' caller from text to to' g s x =
    (x.0, x.1, x.2, x.3, x.4, x.5, x.6, answers-kept limits m x.0 h h' caller from x.2 x.4 x.4 g (λ n. refl) x.7, serves-kept limits ms x.1 h h' caller x.4 x.3 to to' g s x.8)

-- counts that are the same at the start
replies-from : (limits : Limits) (head : Head) (body : List ℕ) (keeps : Bool) (moment : ℕ) (h : Histories) (caller : ℕ) (from from' : Counts) (text : List ℕ) (to : Counts) → SameCounts from from'
    → Replies limits head body keeps moment h caller from' text to → Replies limits head body keeps moment h caller from text to
replies-from limits head body keeps moment h caller from from' text to s (inl x) = inl record {
  request = x.request;
  call = x.call;
  answers = x.answers;
  asked = Asks-from x.request [] x.answers moment h caller from from' to s x.asked;
  reply = x.reply;
  said = x.said;
  text_is = x.text_is;
}
replies-from limits head body keeps moment h caller from from' text to s (inr (inl x)) =
    inr (inl record { reason = x.reason; refusal = x.refusal; none = λ n. x.none n ∙ s n; text_is = x.text_is })
replies-from limits head body keeps moment h caller from from' text to s (inr (inr (inl x))) = inr (inr (inl record { none = λ n. x.none n ∙ s n; text_is = x.text_is }))
replies-from limits head body keeps moment h caller from from' text to s (inr (inr (inr x))) = inr (inr (inr record {
  request = x.request;
  call = x.call;
  first = x.first;
  further = x.further;
  asked = Asks-from x.request [] (x.first ∷ x.further) moment h caller from from' to s x.asked;
  text_is = x.text_is;
}))

answers-from : (limits : Limits) (m : Message) (r : List ℕ) (h : Histories) (caller : ℕ) (from from' : Counts) (text : List ℕ) (to : Counts) → SameCounts from from' → Answers limits m r h caller from' text to → Answers limits m r h caller from text to
answers-from limits (whole head body keeps) r h caller from from' text to s (moment, e, x) = (moment, e, replies-from limits head body keeps moment h caller from from' text to s x)
answers-from limits (refused fault) r h caller from from' text to s x = (x.0, x.1, λ n. x.2 n ∙ s n)

pub serves-from : (limits : Limits) (ms : List Message) (r : List ℕ) (h : Histories) (caller : ℕ) (from from' : Counts) (text : List ℕ) (to : Counts) → SameCounts from from' → Serves limits ms r h caller from' text to → Serves limits ms r h caller from text to
serves-from limits [] r h caller from from' text to s x = (x.0, x.1, λ n. x.2 n ∙ s n)
serves-from limits (m ∷ ms) r h caller from from' text to s x = (x.0, x.1, x.2, x.3, x.4, x.5, x.6, answers-from limits m x.0 h caller from from' x.2 x.4 s x.7, x.8)

-- further messages
pub serves-append : (limits : Limits) (ms told : List Message) (r r' : List ℕ) (h h' : Histories) (caller : ℕ) (from mid to : Counts) (text text' : List ℕ) → Grows h h'
    → Serves limits ms r h caller from text mid → Serves limits told r' h' caller mid text' to → Serves limits (ms ++ told) (r ++ r') h' caller from (text ++ text') to
serves-append limits [] told r r' h h' caller from mid to text text' g x y =
    let P : List ℕ → Type 0 = λ l. Serves limits told l h' caller from (text ++ text') to in
    let Q : List ℕ → Type 0 = λ l. Serves limits told r' h' caller from l to in
    subst P (sym (ap (λ (l : List ℕ). l ++ r') x.0)) (subst Q (sym (ap (λ (l : List ℕ). l ++ text') x.1)) (serves-from limits told r' h' caller from mid text' to x.2 y))
serves-append limits (m ∷ ms) told r r' h h' caller from mid to text text' g x y = (
  x.0,
  x.1 ++ r',
  x.2,
  x.3 ++ text',
  x.4,
  ap (λ (l : List ℕ). l ++ r') x.5 ∙ append_assoc x.0 x.1 r',
  ap (λ (l : List ℕ). l ++ text') x.6 ∙ append_assoc x.2 x.3 text',
  answers-kept limits m x.0 h h' caller from x.2 x.4 x.4 g (λ n. refl) x.7,
  serves-append limits ms told x.1 r' h h' caller x.4 mid to x.3 text' g x.8 y,
)

-- one message alone
pub serves-one : (limits : Limits) (m : Message) (r : List ℕ) (h : Histories) (caller : ℕ) (from : Counts) (text : List ℕ) (to : Counts) → Answers limits m r h caller from text to → Serves limits (m ∷ []) r h caller from text to
serves-one limits m r h caller from text to x = (r, [], text, [], to, sym (append-nil r), sym (append-nil text), x, (refl, refl, λ n. refl))

pub one-served : (limits : Limits) (m : Message) (r : List ℕ) (h : Histories) (caller : ℕ) (from : Counts) (text : List ℕ) (to : Counts) → Serves limits (m ∷ []) r h caller from text to → Answers limits m r h caller from text to
one-served limits m r h caller from text to x =
    let P : List ℕ → Type 0 = λ l. Answers limits m l h caller from text to in
    let Q : List ℕ → Type 0 = λ l. Answers limits m x.0 h caller from l to in
    subst P (sym (x.5 ∙ ap (λ (l : List ℕ). x.0 ++ l) x.8.0 ∙ append-nil x.0))
    (subst Q (sym (x.6 ∙ ap (λ (l : List ℕ). x.2 ++ l) x.8.1 ∙ append-nil x.2)) (answers-kept limits m x.0 h h caller from x.2 x.4 to (λ s. ([], sym (append-nil (h s)))) x.8.2 x.7))
