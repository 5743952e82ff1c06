use Rattle.std.proofs.Common.{◌≡◌, ◌<◌, ◌≤◌, ◌+◌, ◌-◌, ◌++◌, ◌∷◌, [], ◌∙◌, ℕ, List, drop, length, ap, ap₂, subst, sym, arith}
use Rattle.std.proofs.lemmas.List.{length-append, length-drop}
use Rattle.gcs_chunks.specs.Content.{AreEnds, Placed, part_bytes, parts_bytes, parts_in, rest_parts}
use Rattle.gcs_chunks.proofs.Words.{part_rest}
use Rattle.gcs_chunks.proofs.Ends.{bytes-push, bytes_left, cut_on, ends-append, passed_on}
use Rattle.gcs_chunks.proofs.content.spans_from.Goals as goal
use Rattle.gcs_chunks.proofs.content.spans_from.Goals.{then-skip-size+in_ok-cut+in_ok-push, else-skip-size}

pub loop-span-preserved : goal.loop-span-preserved
loop-span-preserved c =
    let spans : List Placed = c.args.spans.now in
    let i : ℕ = c.loop-span.span-index in
    let span : Placed = c.span-item.result in
    let skip : ℕ = c.loop-span.skip in
    let made : List Placed = c.loop-span.made.items in
    let left = bytes_left spans i span c.loop-span-test.true c.span-item.is in
    elim c.if-skip-size.branch [
      | then-skip-size+in_ok-cut+in_ok-push w ↦
          let cut : Placed = w.in_ok-cut.field-0 in
          let short : skip < length (part_bytes span.part) = omega (arith, w.if-skip-size.true, c.len-size.ensures.size) in
          let items : c.if-skip-size.made.items ≡ made ++ cut ∷ [] = ap (λ v. v.items) w.made-is ∙ w.in_ok-push.ensures.items in
          let size : length (part_bytes cut.part) ≡ length (part_bytes span.part) - skip =
          ap (λ (s : Placed). length (part_bytes s.part)) w.in_ok-cut.ensures
          ∙ ap length (part_rest span.part skip (omega (arith, w.if-skip-size.true, c.len-size.ensures.places)))
          ∙ length-drop skip (part_bytes span.part) in
          let end : cut.end ≡ c.loop-span.end + (span.part.to - span.part.from) - skip = ap (λ (s : Placed). s.end) w.in_ok-cut.ensures in
          let whole : length (parts_bytes (parts_in c.if-skip-size.made.items)) ≡ length (parts_bytes (parts_in made)) + length (part_bytes cut.part) =
          ap (λ ss. length (parts_bytes (parts_in ss))) items ∙ ap length (bytes-push made cut) ∙ length-append (parts_bytes (parts_in made)) (part_bytes cut.part) in record {
            parts = ap₂ (λ ss k. parts_in ss ++ rest_parts k (parts_in (drop (i + 1) spans))) items w.skip-is
                ∙ cut_on made spans i skip span cut (rest_parts c.args.from (parts_in spans)) c.loop-span-test.true c.span-item.is short (ap (λ (s : Placed). s.part) w.in_ok-cut.ensures) c.loop-span.invariant.parts;
            ends = subst (AreEnds c.args.before) (sym items)
                (ends-append c.args.before made (cut ∷ []) c.loop-span.invariant.ends (omega (arith, end, size, c.loop-span.invariant.end, c.len-size.ensures.size, c.len-size.ensures.places, short), tt));
            end = omega (arith, whole, size, w.end-is, c.loop-span.invariant.end, c.len-size.ensures.size);
            room = omega (arith, left, w.end-is, w.skip-is, c.loop-span.invariant.room, c.len-size.ensures.size, short);
          }
      | else-skip-size w ↦
          let items : c.if-skip-size.made.items ≡ made = ap (λ v. v.items) w.made-is in
          let past : length (part_bytes span.part) ≤ skip = omega (arith, w.if-skip-size.false, c.len-size.ensures.size) in
          let whole : length (parts_bytes (parts_in c.if-skip-size.made.items)) ≡ length (parts_bytes (parts_in made)) = ap (λ ss. length (parts_bytes (parts_in ss))) items in record {
            parts = ap₂ (λ ss k. parts_in ss ++ rest_parts k (parts_in (drop (i + 1) spans))) items (w.skip-is ∙ ap (λ n. skip - n) c.len-size.ensures.size)
                ∙ passed_on made spans i skip span (rest_parts c.args.from (parts_in spans)) c.loop-span-test.true c.span-item.is past c.loop-span.invariant.parts;
            ends = subst (AreEnds c.args.before) (sym items) c.loop-span.invariant.ends;
            end = omega (arith, whole, w.end-is, c.loop-span.invariant.end);
            room = omega (arith, left, w.end-is, w.skip-is, c.loop-span.invariant.room, c.len-size.ensures.size, past);
          }
    ]
