-- What the fields of a head are refused for.
use Rattle.std.proofs.Common.{◌≡◌, ℕ, Bool, true, false, List, refl, subst, arith, Err}
use Rattle.std.proofs.lemmas.Bool.{false≢true}
use Rattle.gcs_http_in.specs.declared.limits.Limits.{Limits}
use Rattle.gcs_http_in.specs.declared.fault.FrameFault.{FrameFault}
use Rattle.gcs_http_in.specs.declared.fault.FrameFault.TheVariants as fault
use Rattle.gcs_http_in.specs.declared.fields.Coding.{Coding}
use Rattle.gcs_http_in.specs.declared.fields.Coding.TheVariants as coding
use Rattle.gcs_http_in.specs.declared.fields.Length.{Length}
use Rattle.gcs_http_in.specs.declared.fields.Length.TheVariants as lengths
use Rattle.gcs_http_in.specs.Fields.{framing_by, framing_of, coding_in, length_in}
use Rattle.gcs_http_in.specs.Head.{HasBadFields, IsBadHead}

-- the faults that the fields of a head can have
abbrev pub is_of_fields : FrameFault → Bool
is_of_fields fault.BadCoding = true
is_of_fields fault.BothLengths = true
is_of_fields fault.BadLength = true
is_of_fields fault.BodyTooLong = true
is_of_fields f = false

-- equal faults are both of fields
of_err : (f g : FrameFault) → is_of_fields f ≡ true → f ≡ g → is_of_fields g ≡ true
of_err f g e same = subst (λ (v : FrameFault). is_of_fields v ≡ true) same e

-- the fields show four faults alone
pub framing_faults : (most : ℕ) (c : Coding) (l : Length) (f : FrameFault) → framing_by most c l ≡ Err f → is_of_fields f ≡ true
framing_faults most coding.Bad l f e = of_err fault.BadCoding f refl (cc)
framing_faults most coding.Chunked lengths.Absent f e = cc
framing_faults most coding.Chunked lengths.Bad f e = of_err fault.BothLengths f refl (cc)
framing_faults most coding.Chunked (lengths.Is n) f e = of_err fault.BothLengths f refl (cc)
framing_faults most coding.Absent lengths.Absent f e = cc
framing_faults most coding.Absent lengths.Bad f e = of_err fault.BadLength f refl (cc)
framing_faults most coding.Absent (lengths.Is n) f e = grind (arith, of_err)

-- a head with bad fields is bad
pub bad_fields : (limits : Limits) (lines : List (List ℕ)) (last : List ℕ) (f : FrameFault) → HasBadFields limits lines last f → IsBadHead limits lines last f
unfolding framing_of
bad_fields limits lines last fault.BadCoding h = h
bad_fields limits lines last fault.BothLengths h = h
bad_fields limits lines last fault.BadLength h = h
bad_fields limits lines last fault.BodyTooLong h = h
bad_fields limits lines last fault.HeadTooLong h = absurd (false≢true (framing_faults limits.body (coding_in h.head.fields) (length_in h.head.fields) fault.HeadTooLong h.cut))
bad_fields limits lines last fault.TooManyFields h = absurd (false≢true (framing_faults limits.body (coding_in h.head.fields) (length_in h.head.fields) fault.TooManyFields h.cut))
bad_fields limits lines last fault.BadHead h = absurd (false≢true (framing_faults limits.body (coding_in h.head.fields) (length_in h.head.fields) fault.BadHead h.cut))
bad_fields limits lines last fault.BadChunk h = absurd (false≢true (framing_faults limits.body (coding_in h.head.fields) (length_in h.head.fields) fault.BadChunk h.cut))
