use Rattle.std.proofs.Common.{◌≡◌, ◌∙◌, sym, ap, ℕ, Some, None, length, Bor}
use Rattle.gcs_index.specs.Entries.{entry_of, position, Shelf}
use Rattle.gcs_index.specs.Looks.{AreLooks}
use Rattle.gcs_meaning.specs.declared.listing.Unit as unit
use Rattle.gcs_meaning.specs.declared.listing.View.{View}
use Rattle.gcs_meaning.specs.Order.{is_shown, unit_at}
use Rattle.gcs_versions.specs.Indexes.{placed}
use Rattle.gcs_versions.specs.Kept.{Kept}
use Rattle.gcs_versions.proofs.Seen.{looks_placed, none_behind, shown_seen}
use Rattle.gcs_versions.proofs.versions.Versions.seek.Given as given
use Rattle.gcs_versions.proofs.versions.Versions.seek.Goals as goal
use Rattle.gcs_versions.proofs.versions.Versions.seek.Goals.{in-Live, in-Versions, in-Soft, After-seek}

-- the index that is searched has the places of the versions that the view shows
shown_are : (g : given.Over) (c : After-seek g) → c.match-view.shown.now.entries ≡ placed (is_shown c.args.view) c.self.inside.slots c.self.inside.all.entries
shown_are g c =
    let at = λ (view : View). placed (is_shown view) c.self.inside.slots c.self.inside.all.entries in
    let entries = λ (shown : Bor (Shelf unit.Unit ℕ)). shown.now.entries in
    elim c.match-view.branch [
      | in-Live w ↦ ap entries w.shown-is ∙ c.self.invariant.indexes.live_are ∙ ap at (sym w.in-Live.is)
      | in-Versions w ↦ ap entries w.shown-is ∙ c.self.invariant.indexes.readable_are ∙ ap at (sym w.in-Versions.is)
      | in-Soft w ↦ ap entries w.shown-is ∙ c.self.invariant.indexes.soft_are ∙ ap at (sym w.in-Soft.is)
    ]

-- one search among them
one_search : (g : given.Over) (c : After-seek g) → AreLooks 1 (length c.args.self.now.rows) c.args.steps.now c.seek.new.steps
one_search g c =
    looks_placed c.self.invariant.indexes (ap (λ (k : Kept). k.rows) c.self.view_is)
    (is_shown c.args.view) c.match-view.shown.now.entries c.args.steps.now c.seek.new.steps (shown_are g c) c.seek.ensures.looks

pub returns-in_err-place-clause-found : goal.returns-in_err-place-clause-found
returns-in_err-place-clause-found g c =
    let es = c.match-view.shown.now.entries in
    rw c.from_residual.ensures
    (shown_seen c.self.invariant.indexes (ap (λ (k : Kept). k.rows) c.self.view_is)
    c.args.view (unit_at c.args.bound.now c.args.number) es (length es) None (shown_are g (goal.at.returns-in_err-place-clause-found g c).After-seek)
    c.in_err-place.ensures.found (none_behind es))

pub returns-in_err-place-clause-looks : goal.returns-in_err-place-clause-looks
returns-in_err-place-clause-looks g c = one_search g (goal.at.returns-in_err-place-clause-looks g c).After-seek

pub returns-clause-found : goal.returns-clause-found
returns-clause-found g c =
    let shown = c.match-view.shown.now in
    c.row_in.ensures
    ∙ shown_seen c.self.invariant.indexes (ap (λ (k : Kept). k.rows) c.self.view_is)
    c.args.view (unit_at c.args.bound.now c.args.number) shown.entries (position shown.sizes c.in_ok-place.place) (Some (entry_of c.at.result.0.now c.at.result.1.now))
    (shown_are g (goal.at.returns-clause-found g c).After-seek) c.in_ok-place.ensures.found c.at.ensures

pub returns-clause-looks : goal.returns-clause-looks
returns-clause-looks g c = one_search g (goal.at.returns-clause-looks g c).After-seek
