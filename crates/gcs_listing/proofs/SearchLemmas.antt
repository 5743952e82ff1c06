-- How many searches calls make, one after the other.
use Rattle.std.proofs.Common.{ℕ, ◌+◌, ◌≤◌, arith}
use Rattle.gcs_index.specs.Looks.{AreLooks, fewer_searches, more_searches}
use Rattle.gcs_listing.specs.Seeking.{AreOfSearches, Looks}

-- none, from one place on
pub no_searches : (rows steps start end : ℕ) → start ≤ end → AreOfSearches 0 (record { rows = rows; before = steps; after = steps; gone_at_start = start; gone_at_end = end })
no_searches rows steps start end on = record {
  searches = 0;
  few = omega arith;
  each = λ s next. omega arith;
}

-- those of one call and those of the next one, up to an end
pub searches_on : (a b most after start stop end : ℕ) (looks : Looks) → AreOfSearches a looks
    → AreOfSearches b (record { rows = looks.rows; before = looks.after; after = after; gone_at_start = start; gone_at_end = stop })
    → a + b + looks.gone_at_end + stop ≤ most + start + end → AreOfSearches most (record looks { after = after; gone_at_end = end })
searches_on a b most after start stop end looks first second few = record {
  searches = first.searches + second.searches;
  few = omega (arith, first.few, second.few, few);
  each = more_searches first.searches second.searches looks.rows looks.before looks.after after first.each second.each;
}

-- one search more
pub one_search_on : (a most after end : ℕ) (looks : Looks) → AreOfSearches a looks → AreLooks 1 looks.rows looks.after after → a + 1 + looks.gone_at_end ≤ most + end
    → AreOfSearches most (record looks { after = after; gone_at_end = end })
one_search_on a most after end looks first second few = record {
  searches = first.searches + 1;
  few = omega (arith, first.few, few);
  each = more_searches first.searches 1 looks.rows looks.before looks.after after first.each second;
}

-- a place farther on, or more searches
pub searches_within : (a most end : ℕ) (looks : Looks) → AreOfSearches a looks → a + looks.gone_at_end ≤ most + end → AreOfSearches most (record looks { gone_at_end = end })
searches_within a most end looks are few = record {
  searches = are.searches;
  few = omega (arith, are.few, few);
  each = are.each;
}

-- their looks, as those of at most so many
pub looks_within : (a most : ℕ) (looks : Looks) → AreOfSearches a looks → a + looks.gone_at_end ≤ most → AreLooks most looks.rows looks.before looks.after
looks_within a most looks are few = fewer_searches are.searches most looks.rows looks.before looks.after (omega (arith, are.few, few)) are.each
