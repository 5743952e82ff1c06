use Rattle.std.proofs.Common.{◌≡◌, ℕ, ◌≤◌, ◌++◌, List, [], ◌∷◌, Option, length, subst, refl, sym, ap, ◌∙◌, append-nil, append_assoc, arith}
use Rattle.std.proofs.lemmas.List.{length-take-le}
use Rattle.gcs_multipart.specs.declared.parts.Parts.{Parts}
use Rattle.gcs_multipart.specs.declared.parts.State.{State}
use Rattle.gcs_multipart.specs.declared.parts.State.TheVariants as state
use Rattle.gcs_multipart.specs.Grammar.{Part}
use Rattle.gcs_multipart.specs.Stands.{Stands, StandsIn, InHead}
use Rattle.gcs_multipart.proofs.Heads.{no_empty}
use Rattle.gcs_multipart.proofs.parts.Parts.push_head.Goals as goal

inside : (p : Parts) (b bytes : List ℕ) (parts : List Part) (current : Option Part) → p.state ≡ state.Head → Stands p b bytes parts current → InHead p.seeker p.head b bytes parts current
inside p b bytes parts current e h = subst (λ (s : State). StandsIn p.seeker p.head s b bytes parts current) e h

pub returns-then-push-clause-brought : goal.returns-then-push-clause-brought
returns-then-push-clause-brought c = λ b bytes parts current is h.
    let p = c.args.self.now in
    let i = inside p b bytes parts current c.requires h in
    let n = c.if-push.ensures.next i.head i.scans in
    let new = i.head ++ c.args.byte ∷ [] in
    let short : length new ≤ 32768 = omega (arith, ap length n.0, length-take-le c.push.new.self.filled c.push.new.self.bytes.items (omega (arith, c.push.new.self.filled_in, c.push.new.self.bytes.ok.0)), c.push.new.self.filled_in, c.push.ensures.room, p.head_room) in (
      i.nothing,
      (
        new,
        record {
          it = record { head = new; content = [] };
          is = refl;
          front = i.front;
          rest = [];
          split = ap (λ t. t ++ c.args.byte ∷ []) i.split ∙ append_assoc i.front i.head (c.args.byte ∷ []) ∙ ap (λ t. i.front ++ t) (sym (append-nil new));
          before = i.before;
          head = n.1 short;
          holds = n.0;
          seeks = c.begin.ensures b i.buffer;
        },
      ),
    )

pub returns-then-is_full-clause-brought : goal.returns-then-is_full-clause-brought
returns-then-is_full-clause-brought c = λ b bytes parts current is h.
    let p = c.args.self.now in
    let i = inside p b bytes parts current c.requires h in
    let n = c.if-push.ensures.next i.head i.scans in
    let new = i.head ++ c.args.byte ∷ [] in
    let long : length new ≡ 32768 = omega (arith, ap length n.holds, length-take-le c.push.new.self.filled c.push.new.self.bytes.items (omega (arith, c.push.new.self.filled_in, c.push.new.self.bytes.ok.0)), c.is_full.ensures.0 c.if-is_full.true, c.push.ensures.room, p.head_room) in
    (refl, record { nothing = i.nothing; front = i.front; head = new; rest = []; split = ap (λ t. t ++ c.args.byte ∷ []) i.split ∙ append_assoc i.front i.head (c.args.byte ∷ []) ∙ ap (λ t. i.front ++ t) (sym (append-nil new)); before = i.before; long = record { long = long; none = no_empty new c.push.new.self.place n.runs } })
