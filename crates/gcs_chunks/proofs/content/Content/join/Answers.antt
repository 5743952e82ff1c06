use Rattle.std.proofs.Common.{◌≡◌, ◌+◌, ◌-◌, ◌++◌, ◌∙◌, drop, length, ap, ap₂, subst, sym, arith}
use Rattle.std.specs.Prelude.{if◌then◌else◌}
use Rattle.std.specs.Result.{is_ok}
use Rattle.std.proofs.lemmas.List.{length-append, length-drop, map-append}
use Rattle.gcs_chunks.specs.Content.{AreEnds, ContentLiesIn, PartsLieIn, Placed, Whole, bytes_of, parts_bytes, parts_in, rest_parts}
use Rattle.gcs_chunks.proofs.Words.{bytes_of-parts, parts_lie-append, parts_lie-rest, parts_bytes-append}
use Rattle.gcs_chunks.proofs.Ends.{ends-append}
use Rattle.gcs_chunks.proofs.content.Content.join.Goals as goal

pub invariant_of-self-2 : goal.invariant_of-self-2
unfolding bytes_of
invariant_of-self-2 c =
    let before = c.self.inside.spans.items in
    let added = c.in_ok-added.added.items in
    let others = c.other.inside.spans.items in
    let both : c.append.new.self.items ≡ before ++ added =
    c.append.ensures.items ∙ ap (λ r. if is_ok r then before ++ added else before) c.in_ok-append.was in
    let whole : length (parts_bytes (parts_in c.append.new.self.items)) ≡ length (parts_bytes (parts_in before)) + length (parts_bytes (parts_in added)) =
    ap (λ ss. length (parts_bytes (parts_in ss))) both
    ∙ ap (λ ps. length (parts_bytes ps)) (map-append (λ (s : Placed). s.part) before added)
    ∙ ap length (parts_bytes-append (parts_in before) (parts_in added))
    ∙ length-append (parts_bytes (parts_in before)) (parts_bytes (parts_in added)) in
    let rest : length (parts_bytes (parts_in added)) ≡ length (parts_bytes (parts_in others)) - c.args.from =
    ap (λ ps. length (parts_bytes ps)) (c.in_ok-added.ensures.parts ∙ ap (λ ss. rest_parts c.args.from (parts_in ss)) c.deref.ensures.value)
    ∙ ap length (bytes_of-parts (parts_in others) c.args.from)
    ∙ length-drop c.args.from (parts_bytes (parts_in others)) in
    let mine : length (parts_bytes (parts_in before)) ≡ length (bytes_of c.args.self.now) = ap (λ w. length (bytes_of w)) c.self.view_is in
    let theirs : length (parts_bytes (parts_in others)) ≡ length (bytes_of c.args.other.now) = ap (λ w. length (bytes_of w)) c.other.view_is in
    let place : c.self.inside.len ≡ 0 + length (parts_bytes (parts_in before)) = omega (arith, c.self.invariant.0) in (
      omega (arith, whole, rest, c.self.invariant.0, c.other.invariant.0),
      omega (arith, mine, theirs, c.self.invariant.0, c.other.invariant.0, c.requires.size, c.requires.from),
      subst (AreEnds 0) (sym both) (ends-append 0 before added c.self.invariant.2 (subst (λ n. AreEnds n added) place c.in_ok-added.ensures.ends)),
    )

-- the bytes of the rest come behind those that were there
pub returns-clause-bytes : goal.returns-clause-bytes
unfolding bytes_of
returns-clause-bytes c =
    let mine = c.self.inside.spans.items in
    let theirs = c.other.inside.spans.items in
    let added = c.in_ok-added.added.items in
    let both : c.append.new.self.items ≡ mine ++ added =
    c.append.ensures.items ∙ ap (λ r. if is_ok r then mine ++ added else mine) c.in_ok-append.was in
    let rest : parts_bytes (parts_in added) ≡ drop c.args.from (parts_bytes (parts_in theirs)) =
    ap parts_bytes (c.in_ok-added.ensures.parts ∙ ap (λ ss. rest_parts c.args.from (parts_in ss)) c.deref.ensures.value) ∙ bytes_of-parts (parts_in theirs) c.args.from in
    ap (λ ss. parts_bytes (parts_in ss)) both
    ∙ ap parts_bytes (map-append (λ (s : Placed). s.part) mine added)
    ∙ parts_bytes-append (parts_in mine) (parts_in added)
    ∙ ap₂ (λ a b. a ++ b) (ap bytes_of c.self.view_is) (rest ∙ ap (drop c.args.from) (ap bytes_of c.other.view_is))

pub returns-clause-lies : goal.returns-clause-lies
unfolding ContentLiesIn
returns-clause-lies c chunks lies others =
    let before = c.self.inside.spans.items in
    let added = c.in_ok-added.added.items in
    let both : c.append.new.self.items ≡ before ++ added =
    c.append.ensures.items ∙ ap (λ r. if is_ok r then before ++ added else before) c.in_ok-append.was in
    let mine : PartsLieIn chunks (parts_in before) = subst (λ (w : Whole). ContentLiesIn chunks w) (sym c.self.view_is) lies in
    let theirs : PartsLieIn chunks (parts_in c.other.inside.spans.items) = subst (λ (w : Whole). ContentLiesIn chunks w) (sym c.other.view_is) others in
    let rest : parts_in added ≡ rest_parts c.args.from (parts_in c.other.inside.spans.items) = c.in_ok-added.ensures.parts ∙ ap (λ ss. rest_parts c.args.from (parts_in ss)) c.deref.ensures.value in
    let all : parts_in c.append.new.self.items ≡ parts_in before ++ parts_in added = ap parts_in both ∙ map-append (λ (s : Placed). s.part) before added in
    subst (PartsLieIn chunks) (sym all)
    (parts_lie-append chunks (parts_in before) (parts_in added) mine (subst (PartsLieIn chunks) (sym rest) (parts_lie-rest chunks (parts_in c.other.inside.spans.items) theirs c.args.from)))
