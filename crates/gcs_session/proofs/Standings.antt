-- Desks that stand alike.
use Rattle.std.proofs.Common.{◌≡◌, ap, subst}
use Rattle.gcs_chunks.specs.Content.{ChunksValue}
use Rattle.gcs_meaning.specs.Desk.{Standing}

-- they are of one caller
pub same_caller : {H : Type 0} {a b : Standing H} → a ≡ b → a.caller ≡ b.caller
same_caller {H} e = ap (λ (s : Standing H). s.caller) e

-- and over the same chunks
pub same_chunks : {H : Type 0} {a b : Standing H} → a ≡ b → a.chunks ≡ b.chunks
same_chunks {H} e = ap (λ (s : Standing H). s.chunks) e

-- what stays in the one's chunks stays in those of the other
pub stay_along : (P Q : ChunksValue → Type 0) {k l : ChunksValue} → k ≡ l → (P k → Q k) → P l → Q l
stay_along P Q e stays = subst (λ (chunks : ChunksValue). P chunks → Q chunks) e stays
