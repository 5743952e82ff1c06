-- A message under way holds a byte that is neither CR nor LF.
use Rattle.std.proofs.Common.{◌≡◌, ℕ, ◌+◌, Bool, true, false, List, [], ◌∷◌, ◌++◌, length, map, Option, Some, None, ap, sym, ◌∙◌, refl, append-nil}
use Rattle.std.specs.Prelude.{◌&&◌}
use Rattle.std.specs.List.{list_all}
use Rattle.std.proofs.lemmas.Bool.{false≢true}
use Rattle.gcs_http_in.specs.declared.limits.Limits.{Limits}
use Rattle.gcs_http_in.specs.declared.fields.Framing.{Framing}
use Rattle.gcs_http_in.specs.declared.fields.Framing.TheVariants as framing
use Rattle.gcs_http_in.specs.declared.framer.Framer.{Framer}
use Rattle.gcs_http_in.specs.declared.state.State.{State}
use Rattle.gcs_http_in.specs.declared.state.State.TheVariants as state
use Rattle.gcs_http_in.specs.Head.{Head, IsRequestText, stripped}
use Rattle.gcs_http_in.specs.Lines.{is_end_byte, print_line, print_lines}
use Rattle.gcs_http_in.specs.Message.{Message, IsGoodHeadText, Spells}
use Rattle.gcs_http_in.specs.Progress.{Current}
use Rattle.gcs_http_in.specs.Stands.{Stands, StandsIn, IsWaiting, limits_of}
use Rattle.gcs_http_in.proofs.OneReading.{one_reading}
use Rattle.gcs_http_in.proofs.RequestLines.{before_lf, field_line, start_line, request_lines}
use Rattle.gcs_http_in.proofs.StandsReads.{open_place}

-- where the front has another byte
front-other : (a b : List ℕ) → list_all is_end_byte a ≡ false → list_all is_end_byte (a ++ b) ≡ false
front-other [] b other = absurd (false≢true (sym other))
front-other (x ∷ a) b other = step (is_end_byte x) (list_all is_end_byte a) (list_all is_end_byte (a ++ b)) other (front-other a b)
  where
    step : (s t u : Bool) → (s && t) ≡ false → (t ≡ false → u ≡ false) → (s && u) ≡ false
    step true t u e on = on e
    step false t u e on = refl

-- where what follows has another byte
back-other : (a b : List ℕ) → list_all is_end_byte b ≡ false → list_all is_end_byte (a ++ b) ≡ false
back-other [] b other = other
back-other (x ∷ a) b other = step (is_end_byte x) (list_all is_end_byte (a ++ b)) (back-other a b other)
  where
    step : (s t : Bool) → t ≡ false → (s && t) ≡ false
    step true t e = e
    step false t e = refl

-- a space is another byte
space-other : (line a b : List ℕ) → line ≡ a ++ 32 ∷ b → list_all is_end_byte line ≡ false
space-other line a b spelled = ap (list_all is_end_byte) spelled ∙ back-other a (32 ∷ b) refl

-- and a request has one after its method
request-other : (text : List ℕ) (head : Head) → IsRequestText text head → list_all is_end_byte text ≡ false
request-other text head request =
    let tree = request.tree in
    let start = start_line tree in
    let blank = print_lines (map before_lf tree.blank) in
    let after = print_lines (map field_line tree.fields) ++ print_line (before_lf tree.last) in
    ap (list_all is_end_byte) (request.reads.1 ∙ append-nil _ ∙ request_lines tree)
    ∙ back-other blank (print_line start ++ after) (front-other (print_line start) after (front-other start (10 ∷ []) (space-other start tree.method _ refl)))

-- so a text that begins with a good head isn't only line ends
good-other : (limits : Limits) (front body : List ℕ) (head : Head) (cut : Framing) → IsGoodHeadText limits front head cut → list_all is_end_byte (front ++ body) ≡ false
good-other limits front body head cut good =
    let text = stripped good.lines good.last in
    front-other front body (ap (list_all is_end_byte) good.whole.spelled ∙ back-other (print_lines good.blank) text (request-other text head good.good.request))

-- the part of a message under way isn't only line ends
part-other : (f : Framer) (st : State) (messages : List Message) (part : List ℕ) (it : Current) → StandsIn f st messages part (Some it) → list_all is_end_byte part ≡ false
part-other f state.Head messages part it s = let e : Some it ≡ None = s.none in cc
part-other f (state.Length count) messages part it s =
    ap (list_all is_end_byte) s.spelled ∙ good-other (limits_of f) s.front s.it.content s.it.head (framing.Length (length s.it.content + count)) s.good
part-other f state.Chunked messages part it s = ap (list_all is_end_byte) s.spelled ∙ good-other (limits_of f) s.front s.text s.it.head framing.Chunked s.good
part-other f (state.Closed bare) messages part it s = let e : Some it ≡ None = s.none in cc

-- what is left of the bytes where a message is under way
pub under-way-other : (f : Framer) (bytes : List ℕ) (messages : List Message) (it : Current) (rest : List ℕ) → Stands f bytes messages (Some it) → (IsWaiting f → ⊥)
    → Spells (limits_of f) bytes messages rest → list_all is_end_byte rest ≡ false
under-way-other f bytes messages it rest stands open_end spells =
    let reading : Spells (limits_of f) bytes messages stands.part = record {
      front = stands.front;
      split = stands.split;
      spelled = stands.spelled;
      no_more = λ keep. open_place f f.state (length messages + 1) bytes messages stands.part (Some it) refl stands.inside open_end keep;
    } in
    let same = one_reading (limits_of f) bytes messages messages rest stands.part spells reading in
    ap (list_all is_end_byte) same.1 ∙ part-other f f.state messages stands.part it stands.inside

-- the answer of a framer, whether a message is under way or not
pub start-by : (f : Framer) (bytes : List ℕ) (messages : List Message) (rest : List ℕ) (current : Option Current) (b : Bool) → Stands f bytes messages current → (IsWaiting f → ⊥)
    → Spells (limits_of f) bytes messages rest → ((it : Current) → Stands f bytes messages (Some it) → b ≡ false)
    → (Stands f bytes messages None → b ≡ list_all is_end_byte rest) → b ≡ list_all is_end_byte rest
start-by f bytes messages rest None b stands open_end spells inside between = between stands
start-by f bytes messages rest (Some it) b stands open_end spells inside between = inside it stands ∙ sym (under-way-other f bytes messages it rest stands open_end spells)
