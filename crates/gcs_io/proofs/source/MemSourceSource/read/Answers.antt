use Rattle.std.proofs.Common.{◌≡◌, ◌∙◌, ◌++◌, ◌+◌, ◌-◌, ◌<◌, ◌≤◌, min, length, ap, sym, arith, List, ℕ, take, drop, get_or, slice_range}
use Rattle.std.specs.Global.{Vec}
use Rattle.gcs_io.specs.Pieces.{left, passed, next_bytes}
use Rattle.gcs_io.proofs.PieceLemmas.{left-given, passed-given, next_bytes-inside}
use Rattle.gcs_io.proofs.source.MemSourceSource.read.Goals as goal

pub returns-clause-rest : goal.returns-clause-rest
returns-clause-rest c =
    let at = c.next_piece-index.result.1 in
    let count = c.copy_front-count.result in
    let there : at + count ≤ length c.index.result.now.items = omega (arith, c.copy_front-count.ensures.there, ap length c.deref-2.ensures.value) in
    let given : slice_range c.index.result.now.items at (at + count) ≡ take count c.copy_front-count.new.into = ap (λ (x : List ℕ). slice_range x at (at + count)) (sym c.deref-2.ensures.value) ∙ sym c.copy_front-count.ensures.copied in
    ap (λ (ps : List (Vec ℕ)). left ps c.args.self.now.index c.args.self.now.at) (sym c.deref.ensures.value)
    ∙ sym c.next_piece-index.ensures.left
    ∙ ap (λ (ps : List (Vec ℕ)). left ps c.next_piece-index.result.0 at) c.deref.ensures.value
    ∙ left-given c.args.self.now.pieces.items c.next_piece-index.result.0 at count c.index.result.now (omega (arith, c.len.ensures, c.args.self.now.pieces.ok.0)) c.index.ensures there
    ∙ ap (λ (x : List ℕ). x ++ left c.args.self.now.pieces.items c.next_piece-index.result.0 (at + count)) given

pub returns-clause-taken : goal.returns-clause-taken
returns-clause-taken c =
    let at = c.next_piece-index.result.1 in
    let count = c.copy_front-count.result in
    let there : at + count ≤ length c.index.result.now.items = omega (arith, c.copy_front-count.ensures.there, ap length c.deref-2.ensures.value) in
    let given : slice_range c.index.result.now.items at (at + count) ≡ take count c.copy_front-count.new.into = ap (λ (x : List ℕ). slice_range x at (at + count)) (sym c.deref-2.ensures.value) ∙ sym c.copy_front-count.ensures.copied in
    passed-given c.args.self.now.pieces.items c.next_piece-index.result.0 at count c.index.result.now (omega (arith, c.len.ensures, c.args.self.now.pieces.ok.0)) c.index.ensures there
    ∙ ap (λ (x : List ℕ). passed c.args.self.now.pieces.items c.next_piece-index.result.0 at ++ x) given
    ∙ ap (λ (x : List ℕ). x ++ take count c.copy_front-count.new.into)
    (ap (λ (ps : List (Vec ℕ)). passed ps c.next_piece-index.result.0 at) (sym c.deref.ensures.value)
    ∙ c.next_piece-index.ensures.passed
    ∙ ap (λ (ps : List (Vec ℕ)). passed ps c.args.self.now.index c.args.self.now.at) c.deref.ensures.value)

pub returns-clause-much : goal.returns-clause-much
returns-clause-much c =
    let inside : c.next_piece-index.result.1 < length c.index.result.now.items = c.next_piece-index.ensures.found (omega (arith, c.if-index-len.false, c.len.ensures, c.deref.ensures.len)) c.index.result.now (c.index.ensures ∙ ap (λ (ps : List (Vec ℕ)). get_or ps c.next_piece-index.result.0 c.index.result.now) (sym c.deref.ensures.value)) in
    let next : length (next_bytes (drop c.next_piece-index.result.0 c.args.self.now.pieces.items) c.next_piece-index.result.1) ≡ length c.index.result.now.items - c.next_piece-index.result.1 =
    next_bytes-inside c.args.self.now.pieces.items c.next_piece-index.result.0 c.next_piece-index.result.1 c.index.result.now (omega (arith, c.if-index-len.false, c.len.ensures)) c.index.ensures inside in
    let total : length c.deref-2.result.now - c.next_piece-index.result.1 ≡ length (next_bytes (drop c.args.self.now.index c.args.self.now.pieces.items) c.args.self.now.at) =
    ap (λ (xs : List ℕ). length xs - c.next_piece-index.result.1) c.deref-2.ensures.value
    ∙ sym next
    ∙ ap (λ (ps : List (Vec ℕ)). length (next_bytes (drop c.next_piece-index.result.0 ps) c.next_piece-index.result.1)) (sym c.deref.ensures.value)
    ∙ ap length c.next_piece-index.ensures.next
    ∙ ap (λ (ps : List (Vec ℕ)). length (next_bytes (drop c.args.self.now.index ps) c.args.self.now.at)) c.deref.ensures.value in
    c.copy_front-count.ensures.much ∙ ap (λ (n : ℕ). min (length c.copy_front-count.new.into) n) total
