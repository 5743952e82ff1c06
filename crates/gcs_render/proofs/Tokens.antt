-- No token of a value's text is one that a reader refuses.
use Rattle.std.proofs.Common.{◌≡◌, ℕ, List, [], ◌∷◌, ◌++◌, false, subst, sym}
use Rattle.json.specs.Json as json
use Rattle.json.specs.Lex.{tokens}
use Rattle.json.specs.Token.{Token}
use Rattle.json.specs.Tree.{json_tokens, items_tokens, members_tokens}
use Rattle.serde_json.specs.Data.{Data}
use Rattle.serde_json.specs.Written.{outline, IsInOrder, has_float}
use Rattle.serde_json.proofs.Texts.{tokens_from_order}
use Rattle.gcs_render.specs.Shown.{AreGood}

good-append : (xs ys : List Token) → AreGood xs → AreGood ys → AreGood (xs ++ ys)
good-append [] ys good more = more
good-append (x ∷ xs) ys good more = (good.0, good-append xs ys good.1 more)

mutual
  good_value : (value : json.Json) → AreGood (json_tokens value)
  good_value json.null = ((λ e. cc), tt)
  good_value (json.boolean b) = ((λ e. cc), tt)
  good_value (json.number s) = ((λ e. cc), tt)
  good_value (json.string s) = ((λ e. cc), tt)
  good_value (json.array items) = ((λ e. cc), good_items items)
  good_value (json.object members) = ((λ e. cc), good_members members)

  good_items : (items : json.Items) → AreGood (items_tokens items)
  good_items json.no_items = ((λ e. cc), tt)
  good_items (json.item value items) = good-append (json_tokens value) (items_tokens items) (good_value value) (good_items items)

  good_members : (members : json.Members) → AreGood (members_tokens members)
  good_members json.no_members = ((λ e. cc), tt)
  good_members (json.member name value members) = ((λ e. cc), good-append (json_tokens value) (members_tokens members) (good_value value) (good_members members))

-- so none of its text is
pub text-good : (text : List ℕ) (value : Data) → IsInOrder text value → has_float value ≡ false → AreGood (tokens text)
text-good text value order whole = subst AreGood (sym (tokens_from_order text value order whole)) (good_value (outline value))
