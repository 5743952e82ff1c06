use Rattle.std.proofs.Common.{◌≡◌, ℕ, ◌++◌, List, [], ◌∷◌, Option, Some, inr, subst, refl, sym, ap, ◌∙◌, append-nil, append_assoc}
use Rattle.gcs_multipart.specs.declared.mark.Mark.{Mark}
use Rattle.gcs_multipart.specs.Delimiter.{EndsAt}
use Rattle.gcs_multipart.specs.declared.parts.Parts.{Parts}
use Rattle.gcs_multipart.specs.declared.parts.State.{State}
use Rattle.gcs_multipart.specs.declared.parts.State.TheVariants as state
use Rattle.gcs_multipart.specs.declared.seek.Seeker.{Seeker}
use Rattle.gcs_multipart.specs.Seek.{Seeks}
use Rattle.gcs_multipart.specs.Grammar.{Part, IsBody}
use Rattle.gcs_multipart.specs.Stands.{Stands, StandsIn, InContent}
use Rattle.gcs_multipart.proofs.parts.Parts.push_content.Goals as goal

inside : (p : Parts) (b bytes : List ℕ) (parts : List Part) (current : Option Part) → p.state ≡ state.Content → Stands p b bytes parts current → InContent p.seeker p.head b bytes parts current
inside p b bytes parts current e h = subst (λ (s : State). StandsIn p.seeker p.head s b bytes parts current) e h

grows : (front head rest bytes : List ℕ) (byte : ℕ) → bytes ≡ front ++ (head ++ rest) → bytes ++ byte ∷ [] ≡ front ++ (head ++ (rest ++ byte ∷ []))
grows front head rest bytes byte e = ap (λ t. t ++ byte ∷ []) e ∙ append_assoc front (head ++ rest) (byte ∷ []) ∙ ap (λ t. front ++ t) (append_assoc head rest (byte ∷ []))

-- more content
goes_on : (p : Parts) (new : Seeker) (b bytes content : List ℕ) (parts : List Part) (current : Option Part) (byte : ℕ) → p.state ≡ state.Content → (i : InContent p.seeker p.head b bytes parts current)
    → Seeks new b (i.rest ++ byte ∷ []) content → StandsIn new p.head p.state b (bytes ++ byte ∷ []) parts (Some record { head = i.it.head; content = content })
goes_on p new b bytes content parts current byte e i s =
    subst (λ (st : State). StandsIn new p.head st b (bytes ++ byte ∷ []) parts (Some record { head = i.it.head; content = content })) (sym e)
    record {
      it = record { head = i.it.head; content = content };
      is = refl;
      front = i.front;
      rest = i.rest ++ byte ∷ [];
      split = grows i.front i.it.head i.rest bytes byte i.split;
      before = i.before;
      head = i.head;
      holds = i.holds;
      seeks = s;
    }

pub returns-in-Held-clause-brought : goal.returns-in-Held-clause-brought
returns-in-Held-clause-brought c = λ b bytes parts current is h.
    let p = c.args.self.now in
    let i = inside p b bytes parts current c.requires h in
    let n = c.in-Held.ensures.next b i.rest i.it.content is i.seeks in
    subst (λ (o : Option Part). StandsIn c.push.new.self p.head p.state b (bytes ++ c.args.byte ∷ []) parts o) (sym i.is) (goes_on p c.push.new.self b bytes i.it.content parts current c.args.byte c.requires i n)

pub returns-in-Given-clause-brought : goal.returns-in-Given-clause-brought
returns-in-Given-clause-brought c = λ b bytes parts current is h.
    let p = c.args.self.now in
    let i = inside p b bytes parts current c.requires h in
    let n = c.in-Given.ensures.next b i.rest i.it.content is i.seeks in
    (n.0, c.requires, n.1, (i.it, i.is, goes_on p c.push.new.self b bytes _ parts current c.args.byte c.requires i n.2))

pub returns-in-Passed-clause-brought : goal.returns-in-Passed-clause-brought
returns-in-Passed-clause-brought c = λ b bytes parts current is h.
    let p = c.args.self.now in
    let i = inside p b bytes parts current c.requires h in
    let n = c.in-Passed.ensures.next b i.rest i.it.content is i.seeks in
    (c.requires, n.0, (i.it, i.is, goes_on p c.push.new.self b bytes _ parts current c.args.byte c.requires i n.1))

pub returns-in-Found-Next-clause-brought : goal.returns-in-Found-Next-clause-brought
returns-in-Found-Next-clause-brought c = λ b bytes parts current is h.
    let p = c.args.self.now in
    let i = inside p b bytes parts current c.requires h in
    let n = c.in-Found-Next.ensures.next b i.rest i.it.content is i.seeks in
    let all = bytes ++ c.args.byte ∷ [] in (
      i.it,
      i.is,
      record {
        nothing = refl;
        front = all;
        head = [];
        split = sym (append-nil all);
        before = (i.front, i.rest ++ c.args.byte ∷ [], grows i.front i.it.head i.rest bytes c.args.byte i.split, i.before, i.head, subst (λ (m : Mark). EndsAt b (i.rest ++ c.args.byte ∷ []) i.it.content m) c.in-Found-Next.field-0-is n.0);
        scans = c.begin.ensures.scans;
        buffer = n.1;
      },
    )

pub returns-in-Found-Last-clause-brought : goal.returns-in-Found-Last-clause-brought
returns-in-Found-Last-clause-brought c = λ b bytes parts current is h.
    let p = c.args.self.now in
    let i = inside p b bytes parts current c.requires h in
    let n = c.in-Found-Last.ensures.next b i.rest i.it.content is i.seeks in
    let all = bytes ++ c.args.byte ∷ [] in
    let body : IsBody b (i.it ∷ parts) all = (all, [], sym (append-nil all), (i.front, i.rest ++ c.args.byte ∷ [], grows i.front i.it.head i.rest bytes c.args.byte i.split, i.before, i.head, subst (λ (m : Mark). EndsAt b (i.rest ++ c.args.byte ∷ []) i.it.content m) c.in-Found-Last.field-0-is n.0)) in
    inr (i.it, i.is, body, record { nothing = refl; body = body })
