-- What a copy of a framer has in common with the framer: all but the place of its memory.
use Rattle.std.specs.Prelude.{◌≡◌}
use Rattle.gcs_http_in.specs.declared.head.HeadText.{HeadText}
use Rattle.gcs_http_in.specs.declared.reader.HeadReader.{HeadReader}
use Rattle.gcs_http_in.specs.declared.chunked.ChunkedBody.{ChunkedBody}
use Rattle.gcs_http_in.specs.declared.framer.Framer.{Framer}

-- two texts of heads hold the same bytes and lines
pub record IsSameText (made from : HeadText) : Type 0 where
  pub bytes : made.bytes.items ≡ from.bytes.items
  pub filled : made.filled ≡ from.filled
  pub first : made.first ≡ from.first
  pub lines : made.lines ≡ from.lines
  pub line : made.line ≡ from.line
  pub bare : made.bare ≡ from.bare

-- two readers of heads have the same limits, text and parts
pub record IsSameReader (made from : HeadReader) : Type 0 where
  pub limits : made.limits ≡ from.limits
  pub text : IsSameText made.text from.text
  pub headers : made.headers.items ≡ from.headers.items
  pub request : made.request ≡ from.request

-- two chunked bodies are at the same place
pub record IsSameBody (made from : ChunkedBody) : Type 0 where
  pub line : made.line.items ≡ from.line.items
  pub filled : made.filled ≡ from.filled
  pub sum : made.sum ≡ from.sum
  pub most : made.most ≡ from.most
  pub place : made.place ≡ from.place
  pub trailer : made.trailer ≡ from.trailer
  pub trailer_line : made.trailer_line ≡ from.trailer_line

-- two framers are at the same place of the same message
pub record IsSameFramer (made from : Framer) : Type 0 where
  pub head : IsSameReader made.head from.head
  pub body : IsSameBody made.body from.body
  pub left : made.left ≡ from.left
  pub keeps : made.keeps ≡ from.keeps
  pub state : made.state ≡ from.state
