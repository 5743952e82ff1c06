use Rattle.std.proofs.Common.{◌∙◌, sym, eq-eqb, arith}
use Rattle.std.proofs.lemmas.Bool.{eqb-true}
use Rattle.gcs_reply.specs.Outgoing.{outgoing_bytes}
use Rattle.gcs_session.proofs.Drops.{all-gone, nothing-left}
use Rattle.gcs_session.proofs.unsent.Unsent.is_empty.Goals as goal

pub returns : goal.returns
returns c =
    let u = c.args.self.now in
    let text = outgoing_bytes u.text in (
      λ same. nothing-left u.sent text (eqb-true _ _ same ∙ u.whole),
      λ none. eq-eqb _ _ (all-gone u.sent text (omega (arith, u.within, u.whole)) none ∙ sym u.whole),
    )
