-- The constant replies: what their heads and bodies say
use Rattle.std.specs.Prelude.{ℕ, List, [], ◌∷◌, ◌++◌, length, Some, if◌then◌else◌, codes, decimal}
use Rattle.gcs_http_out.specs.declared.reply.FixedText.{FixedText}
use Rattle.gcs_http_out.specs.declared.reply.FixedText.TheVariants.{HeadTooLong, TooManyFields, BadHead, BadCoding, BothLengths, BadLength, BodyTooLong, BadChunk, WantOfMemory, WantOfMemoryDone}
use Rattle.gcs_http_out.specs.declared.reply.Fixed.{Fixed}
use Rattle.gcs_http_out.specs.Head.{head_text}

-- the status
abbrev pub fixed_status : FixedText → ℕ
fixed_status BodyTooLong = 413
fixed_status WantOfMemory = 503
fixed_status WantOfMemoryDone = 503
fixed_status _ = 400

-- the message: the name of the fault, or what was wanting
abbrev pub fixed_message : FixedText → List ℕ
fixed_message HeadTooLong = codes "HeadTooLong"
fixed_message TooManyFields = codes "TooManyFields"
fixed_message BadHead = codes "BadHead"
fixed_message BadCoding = codes "BadCoding"
fixed_message BothLengths = codes "BothLengths"
fixed_message BadLength = codes "BadLength"
fixed_message BodyTooLong = codes "BodyTooLong"
fixed_message BadChunk = codes "BadChunk"
fixed_message WantOfMemory = codes "want of memory"
fixed_message WantOfMemoryDone = codes "want of memory after a step"

-- the reason, a word for programs
abbrev pub fixed_word : FixedText → List ℕ
fixed_word WantOfMemory = codes "wantOfMemory"
fixed_word WantOfMemoryDone = codes "wantOfMemoryDone"
fixed_word _ = codes "badFraming"

-- the compact JSON text of an error with this status, message and reason (RFC 8259)
abbrev pub error_text : ℕ → List ℕ → List ℕ → List ℕ
error_text code message word =
    codes "{\"error\":{\"code\":" ++ decimal code ++ codes ",\"errors\":[{\"domain\":\"global\",\"message\":\"" ++ message
    ++ codes "\",\"reason\":\"" ++ word ++ codes "\"}],\"message\":\"" ++ message ++ codes "\"}}"

-- the body
abbrev pub fixed_body : FixedText → List ℕ
fixed_body what = error_text (fixed_status what) (fixed_message what) (fixed_word what)

-- the fields of the head beside its length and ending
abbrev pub fixed_fields : List (List ℕ × List ℕ)
fixed_fields = (codes "Content-Type", codes "application/json; charset=UTF-8") ∷ []

-- the head with the length of the body, and the body unless the head alone is asked for
unfoldable pub fixed_text : Fixed → List ℕ
fixed_text f =
    head_text (fixed_status f.what) fixed_fields (Some (length (fixed_body f.what))) f.ending
    ++ (if f.head_only then [] else fixed_body f.what)
