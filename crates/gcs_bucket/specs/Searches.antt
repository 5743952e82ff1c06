-- How many searches of its bucket's versions a command takes at most.
use Rattle.std.specs.Prelude.{ℕ, ◌+◌, ◌*◌, length, Option, Some}
use Rattle.gcs_listing.specs.Seeking.{gone_count}
use Rattle.gcs_meaning.specs.declared.command.Answer.{Answer}
use Rattle.gcs_meaning.specs.declared.command.Answer.TheVariants.{Page as Paged}
use Rattle.gcs_meaning.specs.declared.command.Command.{Command}
use Rattle.gcs_meaning.specs.declared.command.Command.TheVariants.{List as Listing, Get, Change, Delete, Put, Compose, Restore, Finish}
use Rattle.gcs_meaning.specs.declared.listing.View.{View}
use Rattle.gcs_meaning.specs.Moment.{effective_moment}
use Rattle.gcs_meaning.specs.Slot.{State, Slot}

-- a command that isn't a list: a compose takes one a source and one more
abbrev pub searches_of : Command → ℕ
searches_of (Get bucket name generation soft pre) = 1
searches_of (Change bucket name generation pre change whole) = 1
searches_of (Delete bucket name generation pre) = 1
searches_of (Put bucket name pre meta hashed components expect) = 1
searches_of (Compose bucket name pre meta parts) = length parts + 1
searches_of (Restore bucket name generation pre) = 2
searches_of (Finish bucket upload hashed) = 1
searches_of _ = 0

-- a page of a bucket's versions at t: two for each unit, three more, and one for each version of the view that is gone then and still
-- kept. What is no page takes none
abbrev pub page_searches : View → ℕ → Option State → Answer → ℕ
page_searches view t (Some s) (Paged page) = 2 * (length page.items + length page.prefixes) + 3 + gone_count view t s.rows
page_searches view t _ _ = 0

-- a list of a slot's versions, at a reading of the clock, by its answer
abbrev pub list_searches : ℕ → Slot → Command → Answer → ℕ
list_searches reading slot (Listing bucket query) answer = page_searches query.view (effective_moment slot.last_moment reading) slot.alive answer
list_searches reading slot _ answer = 0
