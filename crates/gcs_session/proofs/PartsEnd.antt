-- What has come of parts, where their body ends.
use Rattle.std.proofs.Common.{◌≡◌, ℕ, ◌+◌, ◌≤◌, Bool, true, false, List, [], ◌∷◌, ◌++◌, length, Option, Some, None, refl, ap, subst, arith}
use Rattle.gcs_meaning.specs.Content.{Digested, bytes_in}
use Rattle.gcs_multipart.specs.declared.parts.Parts.{Parts}
use Rattle.gcs_multipart.specs.Delimiter.{IsBoundary}
use Rattle.gcs_multipart.specs.FirstContent.{IsFirstContent}
use Rattle.gcs_multipart.specs.Grammar.{IsBody, Part}
use Rattle.gcs_multipart.specs.Stands.{Stands}
use Rattle.gcs_multipart.proofs.FirstContents.{ended_first, no_first, one_first}
use Rattle.gcs_multipart.proofs.OneBody.{one_body}
use Rattle.gcs_request.specs.Parts.{AreOthers, IsLong, IsTwo}
use Rattle.gcs_session.specs.declared.bounded.Bounded.{Bounded}
use Rattle.gcs_session.specs.declared.hashing.Hashing.{Hashing}
use Rattle.gcs_session.specs.declared.two_parts.PartsKept.{PartsKept}
use Rattle.gcs_session.specs.declared.two_parts.PartsKept.TheVariants as kept
use Rattle.gcs_session.specs.Holding.{IsHashing}
use Rattle.gcs_session.specs.TwoParts.{AreKept, begun, first_of}

-- what a reader of parts says where the body ends: whether it is over, and how many bytes are held back
pub record Says (p : Parts) (over : Bool) (held : ℕ) : Type 0 where
  pub whole : over ≡ true → (b bytes : List ℕ) (parts : List Part) (current : Option Part) → Stands p b bytes parts current → IsBody b parts bytes × (current ≡ None)
  pub more : over ≡ false → (b bytes : List ℕ) (parts : List Part) (current : Option Part) → IsBoundary b → Stands p b bytes parts current → (others : List Part) → IsBody b others bytes → ⊥
  pub content : (b bytes : List ℕ) (it : Part) → IsBoundary b → Stands p b bytes [] (Some it) → (content : List ℕ) × IsFirstContent b bytes content × (length content ≡ length it.content + held)
  pub none : (b bytes : List ℕ) (parts : List Part) → Stands p b bytes parts None → held ≡ 0

-- ---- the first content

split-first : (it : Part) (parts : List Part) → (later : List Part) × (it ∷ parts ≡ later ++ first_of it parts ∷ [])
split-first it [] = ([], refl)
split-first it (part ∷ parts) = let more = split-first part parts in (it ∷ more.0, ap (λ (l : List Part). it ∷ l) more.1)

-- of parts that are whole it is that of the first one
first-is : (p : Parts) (b bytes : List ℕ) (it : Part) (parts : List Part) (current : Option Part) → Stands p b bytes (it ∷ parts) current → IsFirstContent b bytes (first_of it parts).content
first-is p b bytes it parts current stands =
    let split = split-first it parts in
    ended_first p.seeker p.head p.state b bytes split.0 (first_of it parts) current (subst (λ (l : List Part). Stands p b bytes l current) split.1 stands)

short-by : (most : ℕ) (b bytes content : List ℕ) → IsFirstContent b bytes content → length content ≤ most → ¬ IsLong most b bytes
short-by most b bytes content first few long =
    let same : length long.0 ≡ length content = ap length (one_first b bytes long.0 content long.1 first) in omega (arith, same, long.2, few)

-- ---- the first part is too long

pub too-long : (most : ℕ) (b bytes : List ℕ) (p : Parts) (over : Bool) (held : ℕ) (whole : List Part) (current : Option Part) → Says p over held → IsBoundary b → Stands p b bytes whole current
    → AreKept most kept.TooLong (begun whole current) → IsLong most b bytes
too-long most b bytes p over held [] None says fits stands x = absurd x
too-long most b bytes p over held [] (Some it) says fits stands x =
    let c = says.content b bytes it fits stands in (c.0, c.1, omega (arith, c.2, x))
too-long most b bytes p over held (part ∷ parts) None says fits stands x = ((first_of part parts).content, first-is p b bytes part parts None stands, x)
too-long most b bytes p over held (part ∷ parts) (Some it) says fits stands x = ((first_of part parts).content, first-is p b bytes part parts (Some it) stands, x)

-- ---- or it isn't

pub nothing-short : (most : ℕ) (b bytes : List ℕ) (p : Parts) (whole : List Part) (current : Option Part) → IsBoundary b → Stands p b bytes whole current → AreKept most kept.Nothing (begun whole current) → ¬ IsLong most b bytes
nothing-short most b bytes p [] None fits stands x long = no_first p.seeker p.head p.state b bytes long.0 fits stands long.1
nothing-short most b bytes p [] (Some it) fits stands x long = x
nothing-short most b bytes p (part ∷ parts) None fits stands x long = x
nothing-short most b bytes p (part ∷ parts) (Some it) fits stands x long = x

-- what a text may have is what the JSON may
pub one-most : (most : ℕ) (text : Bounded) (parts : List Part) → AreKept most (kept.One text) parts → text.most ≡ most
one-most most text [] x = absurd x
one-most most text (json ∷ []) x = x.most_is
one-most most text (json ∷ part ∷ parts) x = absurd x

pub one-short : (most : ℕ) (b bytes : List ℕ) (p : Parts) (over : Bool) (held : ℕ) (text : Bounded) (whole : List Part) (current : Option Part) → Says p over held → IsBoundary b → Stands p b bytes whole current
    → length text.bytes.items + held ≤ most → AreKept most (kept.One text) (begun whole current) → ¬ IsLong most b bytes
one-short most b bytes p over held text [] None says fits stands few x = absurd x
one-short most b bytes p over held text [] (Some it) says fits stands few x =
    let c = says.content b bytes it fits stands in
    let same : length text.bytes.items ≡ length it.content = ap length x.bytes_are in
    short-by most b bytes c.0 c.1 (omega (arith, c.2, few, same))
one-short most b bytes p over held text (part ∷ []) None says fits stands few x = short-by most b bytes part.content (first-is p b bytes part [] None stands) x.within
one-short most b bytes p over held text (part ∷ second ∷ parts) None says fits stands few x = absurd x
one-short most b bytes p over held text (part ∷ parts) (Some it) says fits stands few x = absurd x

pub two-short : (most : ℕ) (b bytes : List ℕ) (p : Parts) (text : Bounded) (kind : Option (List ℕ)) (content : Hashing) (whole : List Part) (current : Option Part) → Stands p b bytes whole current
    → AreKept most (kept.Two text kind content) (begun whole current) → ¬ IsLong most b bytes
two-short most b bytes p text kind content [] None stands x = absurd x
two-short most b bytes p text kind content [] (Some it) stands x = absurd x
two-short most b bytes p text kind content (json ∷ []) None stands x = absurd x
two-short most b bytes p text kind content (json ∷ []) (Some it) stands x = short-by most b bytes json.content (first-is p b bytes json [] (Some it) stands) x.0.within
two-short most b bytes p text kind content (it ∷ json ∷ []) None stands x = short-by most b bytes json.content (first-is p b bytes it (json ∷ []) None stands) x.0.within
two-short most b bytes p text kind content (it ∷ json ∷ []) (Some more) stands x = absurd x
two-short most b bytes p text kind content (it ∷ json ∷ part ∷ parts) None stands x = absurd x
two-short most b bytes p text kind content (it ∷ json ∷ part ∷ parts) (Some more) stands x = absurd x

pub others-short : (most : ℕ) (b bytes : List ℕ) (p : Parts) (whole : List Part) (current : Option Part) → Stands p b bytes whole current → AreKept most kept.Others (begun whole current) → ¬ IsLong most b bytes
others-short most b bytes p [] None stands x = absurd x
others-short most b bytes p [] (Some it) stands x = absurd x
others-short most b bytes p (a ∷ []) None stands x = absurd x
others-short most b bytes p (a ∷ []) (Some it) stands x = absurd x
others-short most b bytes p (a ∷ json ∷ []) None stands x = absurd x
others-short most b bytes p (a ∷ json ∷ parts) (Some it) stands x = short-by most b bytes (first_of json parts).content (first-is p b bytes a (json ∷ parts) (Some it) stands) x
others-short most b bytes p (a ∷ c ∷ json ∷ parts) None stands x = short-by most b bytes (first_of json parts).content (first-is p b bytes a (c ∷ json ∷ parts) None stands) x

-- ---- the parts are not two

open-others : (b bytes : List ℕ) (p : Parts) (held : ℕ) (whole : List Part) (current : Option Part) → Says p false held → IsBoundary b → Stands p b bytes whole current → AreOthers b bytes
open-others b bytes p held whole current says fits stands json content two = says.more refl b bytes whole current fits stands (content ∷ json ∷ []) two

-- where this can't be kept of two parts
pub are-others : (most : ℕ) (b bytes : List ℕ) (p : Parts) (over : Bool) (held : ℕ) (k : PartsKept) (whole : List Part) (current : Option Part) → Says p over held → IsBoundary b → Stands p b bytes whole current
    → AreKept most k (begun whole current) → ((content json : Part) → over ≡ true → AreKept most k (content ∷ json ∷ []) → ⊥) → AreOthers b bytes
are-others most b bytes p false held k whole current says fits stands x none = open-others b bytes p held whole current says fits stands
are-others most b bytes p true held k whole current says fits stands x none = λ json content two.
    let all = says.whole refl b bytes whole current stands in
    let same : whole ≡ content ∷ json ∷ [] = one_body b bytes whole (content ∷ json ∷ []) all.0 two in
    let closed : AreKept most k whole = subst (λ (c : Option Part). AreKept most k (begun whole c)) all.1 x in
    none content json refl (subst (AreKept most k) same closed)

-- ---- or they are

-- two parts that are whole
pub record AreWhole (most : ℕ) (b bytes : List ℕ) (text : Bounded) (kind : Option (List ℕ)) (content : Hashing) : Type 0 where
  pub json : Part
  pub it : Part
  pub body : IsBody b (it ∷ json ∷ []) bytes
  pub kept : AreKept most (kept.Two text kind content) (it ∷ json ∷ [])

pub two-whole : (most : ℕ) (b bytes : List ℕ) (text : Bounded) (kind : Option (List ℕ)) (content : Hashing) (whole : List Part) → IsBody b whole bytes
    → AreKept most (kept.Two text kind content) whole → AreWhole most b bytes text kind content
two-whole most b bytes text kind content [] body x = absurd x
two-whole most b bytes text kind content (it ∷ []) body x = absurd x
two-whole most b bytes text kind content (it ∷ json ∷ []) body x = record { json = json; it = it; body = body; kept = x }
two-whole most b bytes text kind content (it ∷ json ∷ part ∷ parts) body x = absurd x

pub is-two : (most : ℕ) (b bytes : List ℕ) (p : Parts) (held : ℕ) (text : Bounded) (kind : Option (List ℕ)) (content : Hashing) (hashed : Digested) (whole : List Part) (current : Option Part)
    → Says p true held → Stands p b bytes whole current → AreKept most (kept.Two text kind content) (begun whole current)
    → ((all : List ℕ) → IsHashing content all → bytes_in hashed ≡ all) → hashed.with_md5 ≡ true → IsTwo most b bytes text.bytes.items kind hashed
is-two most b bytes p held text kind content hashed whole current says stands x holds md5 =
    let all = says.whole refl b bytes whole current stands in
    let w = two-whole most b bytes text kind content whole all.0 (subst (λ (c : Option Part). AreKept most (kept.Two text kind content) (begun whole c)) all.1 x) in
    record {
      short = two-short most b bytes p text kind content whole current stands x;
      json = w.json;
      content = w.it;
      two = w.body;
      text_is = w.kept.0.bytes_are;
      kind_is = w.kept.1;
      bytes = holds w.it.content w.kept.2;
      md5 = md5;
    }
