-- What two parts give, and the refusal of what their JSON says.
use Rattle.std.proofs.Common.{◌≡◌, ◌∙◌, ℕ, List, Bool, inr, subst, sym}
use Rattle.gcs_request.specs.declared.heading.HeadPart.TheVariants.{Parts}
use Rattle.gcs_request.specs.Bodies.{IsCome}
use Rattle.gcs_request.specs.Contents.{ComeLiesIn}
use Rattle.gcs_request.specs.Parts.{IsPartsFault, IsTwo}
use Rattle.gcs_request.specs.UploadJson.{IsJsonFault}
use Rattle.gcs_request.proofs.Fitting.{fits_parts}
use Rattle.gcs_request.proofs.requests.given_of_parts.Goals as goal

pub returns-in-Two-2-clause-refused : goal.returns-in-Two-2-clause-refused
returns-in-Two-2-clause-refused c = λ reason is most boundary bytes come.
    let two : IsTwo most boundary bytes c.in-Two.text.items c.in-Two.kind c.in-Two.hashed = subst (IsCome most (Parts boundary c.args.encoded) bytes) c.in-Two.is come in
    let same : c.deref.result.now ≡ two.json.content = c.deref.ensures.value ∙ two.text_is in
    let fault : IsJsonFault c.args.call.now two.json.content reason = subst (λ (l : List ℕ). IsJsonFault c.args.call.now l reason) same (c.in-Err.ensures.refused reason is) in
    subst (λ (encoded : Bool). IsPartsFault most c.args.call.now boundary encoded bytes reason) (sym c.if-encoded-2.false)
    (inr (two.short, inr (two.json, two.content, two.two, fault)))

pub returns-in-Ok-clause-lies : goal.returns-in-Ok-clause-lies
returns-in-Ok-clause-lies c = λ chunks lies. subst (ComeLiesIn chunks) c.in-Two.is lies

pub returns-in-Ok-clause-fits : goal.returns-in-Ok-clause-fits
returns-in-Ok-clause-fits c = λ head boundary is.
    fits_parts head c.args.call.now boundary c.args.encoded c.in-Ok.body c.in-Two.kind c.in-Two.hashed c.in-Ok.ensures.said.1 is
