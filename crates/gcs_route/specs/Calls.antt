-- The call that a request is, and the reason why it is none.
use Rattle.std.specs.Prelude.{◌≡◌, ℕ, List, [], false, Option, Some, None, codes, if◌then◌else◌}
use Rattle.gcs_query.specs.Query.{pairs_of}
use Rattle.gcs_meaning.specs.declared.reason.Reason.{Reason}
use Rattle.gcs_meaning.specs.declared.reason.Reason.TheVariants.{NoPath, NoMethod}
use Rattle.gcs_route.specs.declared.call.Call.{Call}
use Rattle.gcs_route.specs.declared.call.MaskPart.{MaskPart}
use Rattle.gcs_route.specs.declared.call.MaskPart.TheVariants.{Absent}
use Rattle.gcs_route.specs.declared.fault.RouteFault.{RouteFault}
use Rattle.gcs_route.specs.declared.fault.RouteFault.TheVariants.{Refused, NoMemory}
use Rattle.gcs_route.specs.Kinds.{row_of}
use Rattle.gcs_route.specs.Table.{Row, routes}
use Rattle.gcs_route.specs.Paths.{segments, path_of, query_of}
use Rattle.gcs_route.specs.Finding.{find_row, has_path}
use Rattle.gcs_route.specs.Filling.{all_filled}
use Rattle.gcs_route.specs.Masks.{IsMaskPart, IsSameMask}
use Rattle.gcs_route.specs.Pieces.{row_by}
use Rattle.gcs_route.specs.Refusals.{tests, names_at, AllPass, IsFirstFault}

-- a call of that row with these names, and without parameters
abbrev pub blank : ℕ → List (List ℕ) → List (List ℕ) → Call
blank n bs os = record {
  row = n;
  buckets = bs;
  objects = os;
  generation = None;
  pre = record { generation_is = None; generation_not = None; metageneration_is = None; metageneration_not = None };
  source_generation = None;
  source_pre = record { generation_is = None; generation_not = None; metageneration_is = None; metageneration_not = None };
  soft = false;
  media = false;
  versions = false;
  trailing = false;
  prefix = [];
  delimiter = [];
  start = None;
  end = None;
  most = 0;
  page_token = None;
  rewrite_token = None;
  per_call = None;
  upload = None;
  upload_id = None;
  name = None;
  encoding = None;
  mask = Absent;
}

-- a call of that row, with the names of its path
abbrev pub named : Row → List (List ℕ) → Call
named row segments = blank (row_of row.kind) (names_at (codes "{bucket}") row.path segments) (names_at (codes "{object}") row.path segments)

-- a request of that row whose tests all pass is this call: its names and parameters, and its mask
abbrev pub IsCallOf : Row → List (List ℕ) → List ℕ → Call → Type 0
IsCallOf row segments query call =
    AllPass query (tests row segments)
    × (part : MaskPart) × IsMaskPart (pairs_of query) row.masking part
    × (call ≡ record (all_filled (pairs_of query) (named row segments) row.params) { mask = part })

-- a fault of a request of that row: the reason of its first test that fails, or want of memory
abbrev pub IsFaultOfRow : Row → List (List ℕ) → List ℕ → RouteFault → Type 0
IsFaultOfRow row segments query fault = IsFirstFault query (tests row segments) fault

-- the request is that call
abbrev pub IsCall : List ℕ → List ℕ → Call → Type 0
IsCall method target call = (row : Row) × (find_row routes method (segments (path_of target)) ≡ Some row)
    × IsCallOf (row_by (pairs_of (query_of target)) row) (segments (path_of target)) (query_of target) call

-- the reason where no row fits
abbrev pub no_row : List (List ℕ) → Reason
no_row segments = if has_path routes segments then NoMethod else NoPath

-- by the row that fits
abbrev pub IsFaultBy : Option Row → List (List ℕ) → List ℕ → RouteFault → Type 0
IsFaultBy None segments query (Refused reason) = reason ≡ no_row segments
IsFaultBy None segments query NoMemory = Unit {0}
IsFaultBy (Some row) segments query fault = IsFaultOfRow (row_by (pairs_of query) row) segments query fault

-- why the request is no call
abbrev pub IsFault : List ℕ → List ℕ → RouteFault → Type 0
IsFault method target fault = IsFaultBy (find_row routes method (segments (path_of target))) (segments (path_of target)) (query_of target) fault

-- the same call, up to how the mask is held: all other fields are equal, and the masks are the same
abbrev pub IsSameCall : Call → Call → Type 0
IsSameCall call other = (record call { mask = Absent } ≡ record other { mask = Absent }) × IsSameMask call.mask other.mask
