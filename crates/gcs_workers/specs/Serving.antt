-- Connections that were served one after another at one caller's desk.
use Rattle.std.specs.Prelude.{◌≡◌, ℕ, List, [], ◌∷◌, Bool}
use Rattle.gcs_http_in.specs.declared.limits.Limits.{Limits}
use Rattle.gcs_meaning.specs.Desk.{Histories}
use Rattle.gcs_session.specs.declared.ends.SessionEnd.{SessionEnd}
use Rattle.gcs_session.specs.Connection.{IsServed}
use Rattle.gcs_workers.specs.Told.{Told, outside_of}

-- what a connection's parts told when it was handed out and at its end, whether its source had ended, and how it ended
pub record Served : Type 0 where
  pub first : Told
  pub last : Told
  pub ended : Bool
  pub end : SessionEnd

-- each of the connections was served as the headline says, over the histories that the caller had seen at the end of the one before
abbrev pub AreServed : Limits → ℕ → List Served → Histories → Histories → Histories → Histories → Type 0
AreServed limits caller [] saw own saw' own' = (saw' ≡ saw) × (own' ≡ own)
AreServed limits caller (c ∷ cs) saw own saw' own' =
    (mid : Histories) × (mine : Histories)
    × IsServed limits caller (outside_of c.first saw own) (outside_of c.last mid mine) c.ended c.end
    × AreServed limits caller cs mid mine saw' own'
