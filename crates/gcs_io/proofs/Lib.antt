mod PieceLemmas
mod ReadingLemmas
