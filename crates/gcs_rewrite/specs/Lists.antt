-- Lists of objects and of buckets: what is asked for a page, and what is said of it (Cloud Storage JSON API, "Objects: list" and
-- "Buckets: list").
use Rattle.std.specs.Prelude.{◌≡◌, ◌≤◌, ℕ, ◌+◌, ◌-◌, unwrap_or, Bool, false, List, [], ◌∷◌, length, nat_lt, take, slice_get, Option, Some, None, option_map, if◌then◌else◌}
use Rattle.std.specs.List.{AllByRecursion}
use Rattle.gcs_meaning.specs.declared.command.Answer.{Answer}
use Rattle.gcs_meaning.specs.declared.command.Answer.TheVariants as answer
use Rattle.gcs_meaning.specs.declared.command.Command.{Command}
use Rattle.gcs_meaning.specs.declared.command.Command.TheVariants.{BucketList}
use Rattle.gcs_meaning.specs.declared.listing.PageQuery.{PageQuery}
use Rattle.gcs_meaning.specs.declared.listing.Unit as unit
use Rattle.gcs_meaning.specs.declared.listing.View.{View}
use Rattle.gcs_meaning.specs.declared.listing.View.TheVariants.{Live, Versions, Soft}
use Rattle.gcs_meaning.specs.declared.version.BucketRow.{BucketRow}
use Rattle.gcs_meaning.specs.Order.{is_below}
use Rattle.gcs_meaning.specs.Tokens.{bucket_token}
use Rattle.gcs_listing.specs.Tokens.{unit_of_token, bucket_of_token}
use Rattle.gcs_route.specs.declared.call.Call.{Call}
use Rattle.gcs_rewrite.specs.declared.moves.Move.{Move}
use Rattle.gcs_rewrite.specs.declared.moves.Move.TheVariants.{Ask, Say}
use Rattle.gcs_rewrite.specs.declared.replies.Reply.{Reply}
use Rattle.gcs_rewrite.specs.declared.replies.Reply.TheVariants as reply

-- the versions that a list of objects shows
abbrev pub view_asked : Bool → Bool → View
view_asked soft versions = if soft then Soft else if versions then Versions else Live

-- the unit after which a page begins, where it has a token
abbrev pub unit_asked : Option (List ℕ) → Option unit.Unit
unit_asked None = None
unit_asked (Some token) = unit_of_token token

-- what a list of objects asks for
abbrev pub query_of : Call → PageQuery
query_of call = record {
  view = view_asked call.soft call.versions;
  prefix = call.prefix;
  delimiter = call.delimiter;
  start = call.start;
  end = call.end;
  trailing = call.trailing;
  most = call.most;
  after = unit_asked call.page_token;
}

-- the name after which a page of buckets begins: without a token that is no name
abbrev pub name_asked : Option (List ℕ) → List ℕ
name_asked None = []
name_asked (Some token) = unwrap_or (bucket_of_token token) []

-- what a list of buckets asks of a shard: one more than a page has, so that it shows whether more are left
abbrev pub list_of_shard : Call → ℕ → Command
list_of_shard call shard = BucketList shard call.prefix (name_asked call.page_token) (call.most + 1)

-- the buckets with one more, before the first whose name comes after its own
abbrev pub with_listed : BucketRow → List BucketRow → List BucketRow
with_listed row [] = row ∷ []
with_listed row (first ∷ rest) = if is_below row.name first.name then row ∷ first ∷ rest else first ∷ with_listed row rest

-- the buckets with all of these, each at its place
abbrev pub with_all_listed : List BucketRow → List BucketRow → List BucketRow
with_all_listed [] listed = listed
with_all_listed (row ∷ rows) listed = with_all_listed rows (with_listed row listed)

-- the buckets rise by name
abbrev pub RiseByName : List BucketRow → Type 0
RiseByName [] = Unit {0}
RiseByName (row ∷ rows) = AllByRecursion (λ later. is_below later.name row.name ≡ false) rows × RiseByName rows

-- the buckets rise by name, and are at most so many
pub record AreListed (most : ℕ) (rows : List BucketRow) : Type 0 where
  pub rise : RiseByName rows
  pub few : length rows ≤ most

-- the buckets that an answer lists
abbrev pub rows_in : Answer → List BucketRow
rows_in (answer.Buckets rows) = rows
rows_in _ = []

-- and these with those of all these answers
abbrev pub listed_from : List BucketRow → List Answer → List BucketRow
listed_from listed [] = listed
listed_from listed (a ∷ answers) = listed_from (with_all_listed (rows_in a) listed) answers

-- the buckets that the answers list, by name
abbrev pub listed_in : List Answer → List BucketRow
listed_in answers = listed_from [] answers

-- the token of a page of buckets: that of its last name, where more are left
abbrev pub token_after : ℕ → List BucketRow → Option (List ℕ)
token_after most rows = if nat_lt most (length rows) then option_map (λ row. bucket_token row.name) (slice_get rows (most - 1)) else None

-- a page of these buckets
abbrev pub buckets_reply : Call → List BucketRow → Reply
buckets_reply call rows = reply.Buckets (take call.most rows) (token_after call.most rows)

-- the script of a list of buckets: it asks all sixteen shards, one after the other
abbrev pub buckets_script : Call → List Answer → Move
buckets_script call answers =
    if nat_lt (length answers) 16 then Ask (length answers) (list_of_shard call (length answers))
    else Say (buckets_reply call (listed_in answers))
