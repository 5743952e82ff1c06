use Rattle.std.proofs.Common.{◌≡◌, [], ◌∷◌, ◌++◌, length, vec_len}
use Rattle.gcs_store.proofs.Changes.{AreChanged}
use Rattle.gcs_store.proofs.opening.add_seats.Given as goal

-- the callers from that place on have one pass more
abbrev pub invariant-loop-seat : goal.invariant-loop-seat
invariant-loop-seat l = record {
  given : (rest : _) × (l.fn.seats.items ≡ l.seats.items ++ rest);
  changed : AreChanged (λ s o seat p. (p.caller ≡ o.caller) × (p.seats.items ≡ o.seats.items ++ seat ∷ [])) l.fn.all.items l.fn.seats.items (length l.seats.items) l.all.items;
}

abbrev pub decreases-loop-seat : goal.decreases-loop-seat
decreases-loop-seat l = vec_len l.seats
