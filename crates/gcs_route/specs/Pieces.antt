-- A POST that names an upload goes on with it: it is of another row than one that begins an upload.
use Rattle.std.specs.Prelude.{List, [], ◌∷◌, Bool, ◌&&◌, not, bytes_eq, if◌then◌else◌}
use Rattle.gcs_query.specs.Query.{Pair}
use Rattle.gcs_meaning.specs.declared.reason.Key.TheVariants as key
use Rattle.gcs_route.specs.declared.kind.RequestKind.TheVariants.{UploadPiece}
use Rattle.gcs_route.specs.declared.table.Param.TheVariants.{UploadId}
use Rattle.gcs_route.specs.Kinds.{is_upload}
use Rattle.gcs_route.specs.Params.{text_at}
use Rattle.gcs_route.specs.Table.{Row}

-- a request of the row of uploads whose query names an upload
abbrev pub is_piece : List Pair → Row → Bool
is_piece query row = is_upload row.kind && not (bytes_eq (text_at query key.UploadId) [])

-- the row that a request is of by its query: that of pieces, where it is a piece
abbrev pub row_by : List Pair → Row → Row
row_by query row = if is_piece query row then record row { kind = UploadPiece; params = UploadId ∷ [] } else row
