-- What is read of each field is what stands there.
use Rattle.std.proofs.Common.{◌≡◌, ℕ, List, Option, Some, None, Bor, sym}
use Rattle.std.specs.Prelude.{MatchOption}
use Rattle.std.specs.Option.{option_copied}
use Rattle.gcs_request.proofs.heads.HeadFields.read.Goals as goal

-- a field that is read, where it stands there
field_copied : (read : Option (Bor (List ℕ))) (value : Option (List ℕ)) → MatchOption read (value ≡ None) (λ v. value ≡ Some v.now) → option_copied read ≡ value
field_copied None value is = sym is
field_copied (Some v) value is = sym is

pub returns : goal.returns
returns c = λ bytes messages it stands. record {
  method = c.method.ensures bytes messages it stands;
  target = c.target.ensures bytes messages it stands;
  method_override = field_copied _ _ (c.field.ensures bytes messages it stands);
  content_type = field_copied _ _ (c.field-2.ensures bytes messages it stands);
  content_encoding = field_copied _ _ (c.field-3.ensures bytes messages it stands);
  range = field_copied _ _ (c.field-4.ensures bytes messages it stands);
  content_range = field_copied _ _ (c.field-5.ensures bytes messages it stands);
  upload_type = field_copied _ _ (c.field-6.ensures bytes messages it stands);
  upload_length = field_copied _ _ (c.field-7.ensures bytes messages it stands);
  host = field_copied _ _ (c.field-8.ensures bytes messages it stands);
}
