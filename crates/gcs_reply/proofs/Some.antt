-- No reply is empty.
use Rattle.std.proofs.Common.{◌≢◌, ℕ, List, [], ◌++◌, Option}
use Rattle.gcs_http_out.specs.declared.head.Ending.{Ending}
use Rattle.gcs_http_out.specs.declared.reply.Fixed.{Fixed}
use Rattle.gcs_http_out.specs.Head.{head_text}
use Rattle.gcs_http_out.specs.Fixed.{fixed_text}
use Rattle.gcs_meaning.specs.declared.reason.Reason.{Reason}
use Rattle.gcs_rewrite.specs.declared.replies.Reply.{Reply}
use Rattle.gcs_rewrite.specs.declared.replies.Reply.TheVariants as reply
use Rattle.gcs_rewrite.specs.declared.request.Request.{Request}
use Rattle.gcs_reply.specs.declared.form.Form.{Form}
use Rattle.gcs_reply.specs.Replies.{bare_text, refusal_text, reply_text}

-- a text that begins with a head is not empty
head-some : (status : ℕ) (fields : List (List ℕ × List ℕ)) (size : Option ℕ) (ending : Ending) (more : List ℕ) → head_text status fields size ending ++ more ≢ []
unfolding head_text
head-some status fields size ending more e = cc

bare-some : (form : Form) (status : ℕ) → bare_text form status ≢ []
unfolding head_text
bare-some form status e = cc

pub fixed-some : (f : Fixed) → fixed_text f ≢ []
unfolding fixed_text
fixed-some f e = head-some _ _ _ _ _ e

pub refusal-some : (form : Form) (reason : Reason) → refusal_text form reason ≢ []
refusal-some form reason e = head-some _ _ _ _ _ e

pub reply-some : (form : Form) (q : Request) (reply : Reply) → reply_text form q reply ≢ []
unfolding reply_text
reply-some form q reply.NoContent e = bare-some form 204 e
reply-some form q reply.NotModified e = bare-some form 304 e
reply-some form q (reply.Refused reason) e = head-some _ _ _ _ _ e
reply-some form q (reply.Object row settings) e = head-some _ _ _ _ _ e
reply-some form q (reply.Bucket row) e = head-some _ _ _ _ _ e
reply-some form q (reply.Buckets rows token) e = head-some _ _ _ _ _ e
reply-some form q (reply.Page page) e = head-some _ _ _ _ _ e
reply-some form q (reply.Rewritten told object) e = head-some _ _ _ _ _ e
reply-some form q (reply.Media row part) e = head-some _ _ _ _ _ e
reply-some form q (reply.Started upload) e = head-some _ _ _ _ _ e
reply-some form q (reply.Kept count) e = head-some _ _ _ _ _ e
reply-some form q reply.Cancelled e = head-some _ _ _ _ _ e
