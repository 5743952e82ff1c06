use Rattle.std.proofs.Common.{◌≡◌, ℕ, ◌++◌, List, [], ◌∷◌, Option, ◌⊎◌, inl, inr, subst, refl, sym, append-nil}
use Rattle.gcs_multipart.specs.declared.mark.Mark.{Mark}
use Rattle.gcs_multipart.specs.declared.mark.Mark.TheVariants as mark
use Rattle.gcs_multipart.specs.declared.parts.Parts.{Parts}
use Rattle.gcs_multipart.specs.declared.parts.State.{State}
use Rattle.gcs_multipart.specs.declared.parts.State.TheVariants as state
use Rattle.gcs_multipart.specs.declared.seek.Seeker.{Seeker}
use Rattle.gcs_multipart.specs.Delimiter.{EndsAt}
use Rattle.gcs_multipart.specs.declared.mark.Sought.{Sought}
use Rattle.gcs_multipart.specs.declared.mark.Sought.TheVariants as sought
use Rattle.gcs_multipart.specs.Seek.{HasSeen, Next, Seeks}
use Rattle.gcs_multipart.specs.Grammar.{Part, AreParts, IsBody}
use Rattle.gcs_multipart.specs.Stands.{Stands, StandsIn, InPreamble}
use Rattle.gcs_multipart.proofs.parts.Parts.push_preamble.Goals as goal

inside : (p : Parts) (b bytes : List ℕ) (parts : List Part) (current : Option Part) → p.state ≡ state.Preamble → Stands p b bytes parts current → InPreamble p.seeker b bytes parts current
inside p b bytes parts current e h = subst (λ (s : State). StandsIn p.seeker p.head s b bytes parts current) e h

pub returns-in-Found-Last-clause-brought : goal.returns-in-Found-Last-clause-brought
returns-in-Found-Last-clause-brought c = λ b bytes parts current is h.
    let p = c.args.self.now in
    let i = inside p b bytes parts current c.requires h in
    let n = c.in-Found-Last.ensures.next b (13 ∷ 10 ∷ bytes) i.passed is i.seeks in
    let all : AreParts b mark.Last parts (bytes ++ c.args.byte ∷ []) = subst (λ (ps : List Part). AreParts b mark.Last ps (bytes ++ c.args.byte ∷ [])) (sym i.none) (i.passed, subst (λ (m : Mark). EndsAt b (13 ∷ 10 ∷ (bytes ++ c.args.byte ∷ [])) i.passed m) c.in-Found-Last.field-0-is n.0) in
    let body : IsBody b parts (bytes ++ c.args.byte ∷ []) = (bytes ++ c.args.byte ∷ [], [], sym (append-nil (bytes ++ c.args.byte ∷ [])), all) in
    inl (i.nothing, body, record { nothing = refl; body = body })

pub returns-in-Found-Next-clause-brought : goal.returns-in-Found-Next-clause-brought
returns-in-Found-Next-clause-brought c = λ b bytes parts current is h.
    let p = c.args.self.now in
    let i = inside p b bytes parts current c.requires h in
    let n = c.in-Found-Next.ensures.next b (13 ∷ 10 ∷ bytes) i.passed is i.seeks in
    record {
      nothing = i.nothing;
      front = bytes ++ c.args.byte ∷ [];
      head = [];
      split = sym (append-nil (bytes ++ c.args.byte ∷ []));
      before = subst (λ (ps : List Part). AreParts b mark.Next ps (bytes ++ c.args.byte ∷ [])) (sym i.none) (i.passed, subst (λ (m : Mark). EndsAt b (13 ∷ 10 ∷ (bytes ++ c.args.byte ∷ [])) i.passed m) c.in-Found-Next.field-0-is n.0);
      scans = c.begin.ensures.scans;
      buffer = n.1;
    }

-- a byte that ends no delimiter
passes : (p : Parts) (new : Seeker) (b bytes passed : List ℕ) (parts : List Part) (current : Option Part) (byte : ℕ) → p.state ≡ state.Preamble → InPreamble p.seeker b bytes parts current
    → Seeks new b (13 ∷ 10 ∷ (bytes ++ byte ∷ [])) passed → StandsIn new p.head p.state b (bytes ++ byte ∷ []) parts current
passes p new b bytes passed parts current byte e i s =
    subst (λ (st : State). StandsIn new p.head st b (bytes ++ byte ∷ []) parts current) (sym e) record { none = i.none; nothing = i.nothing; passed = passed; seeks = s }

-- and it goes on in what was seen
seen_on : (new : Seeker) (b text content : List ℕ) (byte : ℕ) (result : Sought) → (result ≡ sought.Held) ⊎ ((result ≡ sought.Given) ⊎ (result ≡ sought.Passed))
    → Next new b result byte text content → HasSeen new b (text ++ byte ∷ [])
seen_on new b text content byte result which n = elim which [
  | inl e ↦ (content, subst (λ (s : Sought). Next new b s byte text content) e n)
  | inr other ↦ elim other [
    | inl e ↦ let given : Next new b sought.Given byte text content = subst (λ (s : Sought). Next new b s byte text content) e n in (_, given.2)
    | inr e ↦ let passed : Next new b sought.Passed byte text content = subst (λ (s : Sought). Next new b s byte text content) e n in (_, passed.1)
  ]
]

pub returns-in-Held-clause-brought : goal.returns-in-Held-clause-brought
returns-in-Held-clause-brought c = λ b bytes parts current is h.
    let i = inside c.args.self.now b bytes parts current c.requires h in
    let seen = seen_on c.push.new.self b (13 ∷ 10 ∷ bytes) i.passed c.args.byte c.push.result c.in-Held.is (c.push.ensures.next b (13 ∷ 10 ∷ bytes) i.passed is i.seeks) in
    passes c.args.self.now c.push.new.self b bytes seen.0 parts current c.args.byte c.requires i seen.1
