-- What is kept of an upload, over every list of calls.
use Rattle.std.proofs.Common.{◌≡◌, ◌≤◌, ◌<◌, ℕ, ◌+◌, ◌-◌, Bool, true, false, nat_lt, List, [], ◌∷◌, ◌++◌, length, drop, Option, Some, None, ap, sym, subst, refl, ◌∙◌, arith}
use Rattle.std.specs.Prelude.{if◌then◌else◌}
use Rattle.std.proofs.lemmas.List.{append_assoc, append-nil, drop-append-le, drop-drop, drop_at}
use Rattle.std.proofs.lemmas.Bool.{ltb-true}
use Rattle.gcs_chunks.specs.Content.{Whole, bytes_of, joined, rest_of}
use Rattle.gcs_chunks.proofs.Words.{bytes_of-joined}
use Rattle.gcs_meaning.proofs.Grown.{bytes_of-rest_of}
use Rattle.gcs_meaning.specs.declared.reason.Reason.{Reason}
use Rattle.gcs_meaning.specs.declared.uploading.Upload.{Upload}
use Rattle.gcs_meaning.specs.declared.uploading.UploadState.{UploadState}
use Rattle.gcs_meaning.specs.declared.uploading.UploadState.TheVariants.{Running, Done, Cancelled, Expired}
use Rattle.gcs_meaning.specs.Uploads.{kept_of}
use Rattle.gcs_meaning.specs.Append.{appended, appended_if, appended_in, grown, grown_upload, piece_refusal}
use Rattle.gcs_meaning.specs.Cancel.{cancelled, cancelled_in}
use Rattle.gcs_uploads.specs.UploadLaws.{Begins, Call, append, cancel, age, finish, KeptIsSent, KeptStays, Sends, after_call, after_calls}
use Rattle.gcs_uploads.proofs.Accepted.{accepted_fits}

begins_same : (front : List ℕ) → Begins front front
begins_same front = ([], sym (append-nil front))

begins_through : (a b c : List ℕ) → Begins a b → Begins b c → Begins a c
begins_through a b c first second = (first.0 ++ second.0, second.1 ∙ ap (λ front. front ++ second.0) first.1 ∙ append_assoc a first.0 second.0)

-- a content with more behind it
begins_joined : (content more : Whole) → Begins (bytes_of content) (bytes_of (joined content more))
begins_joined content more = (bytes_of more, bytes_of-joined content more)

begins_if : (b : Bool) (content more : Whole) → Begins (bytes_of content) (bytes_of (if b then joined content more else content))
begins_if true content more = begins_joined content more
begins_if false content more = begins_same (bytes_of content)

begins_grown : (content : Whole) (kept : ℕ) (offset : Option ℕ) (piece : Whole) → Begins (bytes_of content) (bytes_of (grown content kept offset piece))
begins_grown content kept None piece = begins_same (bytes_of content)
begins_grown content kept (Some offset) piece = begins_if (nat_lt (kept - offset) (length (bytes_of piece))) content (rest_of piece (kept - offset))

begins_tested : (refusal : Option Reason) (upload after : Upload) → Begins (bytes_of upload.content) (bytes_of after.content)
    → Begins (bytes_of upload.content) (bytes_of (appended_if refusal upload after).1.content)
begins_tested None upload after grows = grows
begins_tested (Some reason) upload after grows = begins_same (bytes_of upload.content)

begins_in : (state : UploadState) (upload : Upload) (offset given : Option ℕ) (piece : Whole)
    → Begins (bytes_of upload.content) (bytes_of (appended_in state upload offset given piece).1.content)
unfolding grown_upload
begins_in Running upload offset given piece =
    begins_tested (piece_refusal upload offset given piece) upload (grown_upload upload offset given piece) (begins_grown upload.content (kept_of upload) offset piece)
begins_in (Done row) upload offset given piece = begins_same (bytes_of upload.content)
begins_in Cancelled upload offset given piece = begins_same (bytes_of upload.content)
begins_in Expired upload offset given piece = begins_same (bytes_of upload.content)

-- a cancelled upload keeps its content
cancelled_content : (state : UploadState) (upload : Upload) → (cancelled_in state upload).1.content ≡ upload.content
cancelled_content Running upload = refl
cancelled_content (Done row) upload = refl
cancelled_content Cancelled upload = refl
cancelled_content Expired upload = refl

begins_called : (upload : Upload) (call : Call) → Begins (bytes_of upload.content) (bytes_of (after_call upload call).content)
unfolding appended cancelled
begins_called upload (append offset given piece) = begins_in upload.state upload offset given piece
begins_called upload cancel = subst (λ content. Begins (bytes_of upload.content) (bytes_of content)) (sym (cancelled_content upload.state upload)) (begins_same (bytes_of upload.content))
begins_called upload (age t) = begins_same (bytes_of upload.content)
begins_called upload (finish row) = begins_same (bytes_of upload.content)

-- no byte that was kept is lost or changed
pub kept_stays : KeptStays
kept_stays upload [] = begins_same (bytes_of upload.content)
kept_stays upload (call ∷ calls) =
    begins_through (bytes_of upload.content) (bytes_of (after_call upload call).content) (bytes_of (after_calls (after_call upload call) calls).content)
    (begins_called upload call) (kept_stays (after_call upload call) calls)

-- the bytes of a piece behind those that are kept
behind : (whole kept piece : List ℕ) (place n : ℕ) → place + n ≡ length kept → n ≤ length piece → Begins kept whole → Begins piece (drop place whole)
    → Begins (kept ++ drop n piece) whole
behind whole kept piece place n meets within front sent =
    let rest : front.0 ≡ drop n piece ++ sent.0 =
    sym (drop_at kept front.0 (place + n) (sym meets))
    ∙ ap (drop (place + n)) (sym front.1)
    ∙ sym (drop-drop n place whole)
    ∙ ap (drop n) sent.1
    ∙ drop-append-le n piece sent.0 within in
    (sent.0, front.1 ∙ ap (λ more. kept ++ more) rest ∙ sym (append_assoc kept (drop n piece) sent.0))

sent_if : (b : Bool) (whole : List ℕ) (content piece : Whole) (place : ℕ) → place ≤ length (bytes_of content)
    → nat_lt (length (bytes_of content) - place) (length (bytes_of piece)) ≡ b
    → Begins (bytes_of content) whole → Begins (bytes_of piece) (drop place whole)
    → Begins (bytes_of (if b then joined content (rest_of piece (length (bytes_of content) - place)) else content)) whole
sent_if true whole content piece place within more front sent =
    let fits : length (bytes_of content) - place < length (bytes_of piece) = ltb-true (length (bytes_of content) - place) (length (bytes_of piece)) more in
    let bytes : bytes_of (joined content (rest_of piece (length (bytes_of content) - place))) ≡ bytes_of content ++ drop (length (bytes_of content) - place) (bytes_of piece) =
    bytes_of-joined content (rest_of piece (length (bytes_of content) - place))
    ∙ ap (λ tail. bytes_of content ++ tail) (bytes_of-rest_of piece (length (bytes_of content) - place)) in
    subst (λ front. Begins front whole) (sym bytes)
    (behind whole (bytes_of content) (bytes_of piece) place (length (bytes_of content) - place) (omega (arith, within)) (omega (arith, fits)) front sent)
sent_if false whole content piece place within more front sent = front

-- what is kept after a piece that was accepted
sent_grown : (whole : List ℕ) (content : Whole) (offset : Option ℕ) (given : Option ℕ) (piece : Whole)
    → ((place : ℕ) → offset ≡ Some place → place ≤ length (bytes_of content))
    → Begins (bytes_of content) whole → Sends whole (append offset given piece) → Begins (bytes_of (grown content (length (bytes_of content)) offset piece)) whole
sent_grown whole content None given piece within front sends = front
sent_grown whole content (Some place) given piece within front sends =
    sent_if (nat_lt (length (bytes_of content) - place) (length (bytes_of piece))) whole content piece place (within place refl) refl front sends

sent_tested : (refusal : Option Reason) (whole : List ℕ) (upload after : Upload) → Begins (bytes_of upload.content) whole
    → (refusal ≡ None → Begins (bytes_of after.content) whole) → Begins (bytes_of (appended_if refusal upload after).1.content) whole
sent_tested None whole upload after front grows = grows refl
sent_tested (Some reason) whole upload after front grows = front

sent_in : (state : UploadState) (whole : List ℕ) (upload : Upload) (offset given : Option ℕ) (piece : Whole) → Begins (bytes_of upload.content) whole
    → Sends whole (append offset given piece) → Begins (bytes_of (appended_in state upload offset given piece).1.content) whole
unfolding grown_upload
sent_in Running whole upload offset given piece front sends =
    sent_tested (piece_refusal upload offset given piece) whole upload (grown_upload upload offset given piece) front
    (λ accepted. sent_grown whole upload.content offset given piece (λ place is. (accepted_fits upload offset given piece accepted place is).0) front sends)
sent_in (Done row) whole upload offset given piece front sends = front
sent_in Cancelled whole upload offset given piece front sends = front
sent_in Expired whole upload offset given piece front sends = front

sent_called : (whole : List ℕ) (upload : Upload) (call : Call) → Begins (bytes_of upload.content) whole → Sends whole call
    → Begins (bytes_of (after_call upload call).content) whole
unfolding appended cancelled
sent_called whole upload (append offset given piece) front sends = sent_in upload.state whole upload offset given piece front sends
sent_called whole upload cancel front sends = subst (λ content. Begins (bytes_of content) whole) (sym (cancelled_content upload.state upload)) front
sent_called whole upload (age t) front sends = front
sent_called whole upload (finish row) front sends = front

-- what is kept is the beginning of the object whose pieces were sent
pub kept_is_sent : KeptIsSent
kept_is_sent whole upload [] front sends = front
kept_is_sent whole upload (call ∷ calls) front sends =
    kept_is_sent whole (after_call upload call) calls (sent_called whole upload call front sends.0) sends.1
