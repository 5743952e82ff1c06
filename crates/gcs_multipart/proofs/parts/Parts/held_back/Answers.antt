use Rattle.std.proofs.Common.{◌+◌, ◌≤◌, [], length, ap, sym, ◌∙◌, arith}
use Rattle.std.proofs.lemmas.List.{length-take-le}
use Rattle.gcs_multipart.proofs.Standing.{content_first, content_none_open, content_only, content_state}
use Rattle.gcs_multipart.proofs.parts.Parts.held_back.Goals as goal

-- in content, what is held may begin a delimiter
pub returns-in-Content-clause-content : goal.returns-in-Content-clause-content
returns-in-Content-clause-content c = λ b bytes it is h.
    let p = c.args.self.now in
    let first = content_first p.seeker p.head b bytes it is (content_only p.seeker p.head p.state b bytes [] it h) in
    let within : p.seeker.held ≤ length p.seeker.text.items = omega (arith, p.seeker.held_in, p.seeker.text.ok.0) in
    (first.0, first.1, first.2 ∙ ap (λ n. length it.content + n) (length-take-le p.seeker.held p.seeker.text.items within ∙ sym c.held.ensures))

pub returns-in-Content-clause-few : goal.returns-in-Content-clause-few
returns-in-Content-clause-few c = λ b bytes parts it h.
    let p = c.args.self.now in
    let i = content_only p.seeker p.head p.state b bytes parts it h in
    omega (arith, c.held.ensures, i.seeks.within)

pub returns-in-Content-clause-none : goal.returns-in-Content-clause-none
returns-in-Content-clause-none c = λ b bytes parts h.
    let p = c.args.self.now in
    absurd (content_none_open p.seeker p.head p.state b bytes parts c.in-Content.is h)

-- elsewhere no part is under way
pub returns-in_default-clause-content : goal.returns-in_default-clause-content
returns-in_default-clause-content c = λ b bytes it is h.
    let p = c.args.self.now in
    absurd (c.in_default.not-Content (content_state p.seeker p.head p.state b bytes [] it h))
