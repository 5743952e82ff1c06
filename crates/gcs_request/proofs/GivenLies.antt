-- What a JSON body says is no content, and so lies in all chunks.
use Rattle.std.proofs.Common.{ℕ, List}
use Rattle.gcs_chunks.specs.Content.{ChunksValue}
use Rattle.gcs_rewrite.specs.declared.request.Given.{Given}
use Rattle.gcs_rewrite.specs.declared.request.Given.TheVariants as given
use Rattle.gcs_rewrite.specs.Contents.{GivenLiesIn}
use Rattle.gcs_request.specs.declared.json_bodies.JsonKind.{JsonKind}
use Rattle.gcs_request.specs.declared.json_bodies.JsonKind.TheVariants.{Bucket, Object, Compose}
use Rattle.gcs_request.specs.JsonBodies.{IsSaidAs}

pub said_lies : (chunks : ChunksValue) (kind : JsonKind) (row : ℕ) (body : List ℕ) (it : Given) → IsSaidAs kind row body it → GivenLiesIn chunks it
said_lies chunks Bucket row body (given.Bucket read) is = tt
said_lies chunks Object row body (given.Object read) is = tt
said_lies chunks Compose row body (given.Compose read) is = tt
said_lies chunks _ row body _ is = absurd is
