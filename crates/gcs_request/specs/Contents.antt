-- Which bodies that have come lie in which chunks, and which requests that are made of them.
use Rattle.gcs_chunks.specs.Content.{ChunksValue, ContentLiesIn}
use Rattle.gcs_meaning.specs.Contents.{HashedLiesIn}
use Rattle.gcs_rewrite.specs.Contents.{RequestLiesIn}
use Rattle.gcs_request.specs.declared.bodies.Come.{Come}
use Rattle.gcs_request.specs.declared.bodies.Come.TheVariants.{Content, Piece, Two}
use Rattle.gcs_request.specs.declared.requests.Asked.{Asked}
use Rattle.gcs_request.specs.declared.requests.Asked.TheVariants.{Refused, Asks}

-- what has come of a body: a content, or a piece of one
abbrev pub ComeLiesIn : ChunksValue → Come → Type 0
ComeLiesIn chunks (Content hashed) = HashedLiesIn chunks hashed
ComeLiesIn chunks (Piece content) = ContentLiesIn chunks content
ComeLiesIn chunks (Two text kind hashed) = HashedLiesIn chunks hashed
ComeLiesIn chunks _ = Unit {0}

-- what a message asks for
abbrev pub AskedLiesIn : ChunksValue → Asked → Type 0
AskedLiesIn chunks (Refused reason) = Unit {0}
AskedLiesIn chunks (Asks request) = RequestLiesIn chunks request
