use Rattle.std.proofs.Common.{◌≡◌, ◌∙◌, ◌-◌, ◌++◌, ℕ, List, length, take, drop, ap, sym, min, arith}
use Rattle.std.specs.Prelude.{slice_range}
use Rattle.std.proofs.lemmas.List.{length-drop, length-take-le}
use Rattle.gcs_chunks.specs.Content.{bytes_of}
use Rattle.gcs_reply.specs.Excerpt.{cut_bytes}
use Rattle.gcs_reply.proofs.Reading.{read-part}
use Rattle.gcs_reply.proofs.excerpt.Excerpt.read.Goals as goal

pub returns-clause-bytes : goal.returns-clause-bytes
returns-clause-bytes c =
    let e = c.self.inside in
    let xs : List ℕ = bytes_of e.content in
    let whole = c.self.invariant in
    let view = ap cut_bytes c.self.view_is in
    let size : length (slice_range xs e.from e.to) ≡ e.to - e.from =
    length-take-le (e.to - e.from) (drop e.from xs) (omega (arith, whole.1, length-drop e.from xs)) in
    let place : c.min.result ≡ min c.args.at (e.to - e.from) = c.min.ensures ∙ ap (λ (m : ℕ). min c.args.at m) (c.len.ensures.length ∙ ap (λ (l : List ℕ). length l) (sym view) ∙ size) in
    read-part xs c.args.into.now c.read.new.into e.from e.to c.args.at c.min.result c.min-most.result c.read.result
    whole.0 whole.1 place c.min-most.ensures c.read.ensures.count c.read.ensures.bytes
    ∙ ap (λ (l : List ℕ). take c.read.result (drop c.args.at l) ++ drop c.read.result c.args.into.now) view
