-- Connections that one caller served, and further ones.
use Rattle.std.proofs.Common.{ℕ, List, [], ◌∷◌, ◌++◌, refl, subst, ap}
use Rattle.gcs_http_in.specs.declared.limits.Limits.{Limits}
use Rattle.gcs_meaning.specs.Desk.{Histories}
use Rattle.gcs_session.specs.Connection.{IsServed}
use Rattle.gcs_session.specs.Running.{Grows}
use Rattle.gcs_session.proofs.Steps.{grows_same, grows_trans}
use Rattle.gcs_workers.specs.Serving.{AreServed, Served}
use Rattle.gcs_workers.specs.Told.{outside_of}

module _ (limits : Limits) (caller : ℕ) where
  pub served-append : (cs ds : List Served) (saw own mid mine saw' own' : Histories)
      → AreServed limits caller cs saw own mid mine → AreServed limits caller ds mid mine saw' own' → AreServed limits caller (cs ++ ds) saw own saw' own'
  served-append [] ds saw own mid mine saw' own' h s =
      let P : Histories → Type 0 = λ x. AreServed limits caller ds x mine saw' own' in
      let Q : Histories → Type 0 = λ x. AreServed limits caller ds saw x saw' own' in
      subst Q h.1 (subst P h.0 s)
  served-append (c ∷ cs) ds saw own mid mine saw' own' h s =
      (h.0, h.1, h.2, served-append cs ds h.0 h.1 mid mine saw' own' h.3 s)

  pub served-more : (cs : List Served) (c : Served) (saw own mid mine saw' own' : Histories)
      → AreServed limits caller cs saw own mid mine
      → IsServed limits caller (outside_of c.first mid mine) (outside_of c.last saw' own') c.ended c.end
      → AreServed limits caller (cs ++ c ∷ []) saw own saw' own'
  served-more cs c saw own mid mine saw' own' h s =
      served-append cs (c ∷ []) saw own mid mine saw' own' h (saw', own', s, (refl, refl))

  -- what the caller had seen is a prefix of what it sees at the end
  pub served-grows : (cs : List Served) (saw own saw' own' : Histories) → AreServed limits caller cs saw own saw' own' → Grows saw saw'
  served-grows [] saw own saw' own' h = grows_same saw saw' (λ s. ap (λ (x : Histories). x s) h.0)
  served-grows (c ∷ cs) saw own saw' own' h = grows_trans saw h.0 saw' h.2.moved.grows (served-grows cs h.0 h.1 saw' own' h.3)
