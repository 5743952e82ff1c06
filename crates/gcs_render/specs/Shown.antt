-- Where fields go: into the members of a value, or into the tokens of a text.
use Rattle.std.specs.Prelude.{◌≢◌, ℕ, List, [], ◌∷◌, ◌++◌, Option, Some, None}
use Rattle.json.specs.Token.{Token, key, bad}
use Rattle.json.specs.Tree.{json_tokens}
use Rattle.serde_json.specs.Data.{Data, string, Members, put}
use Rattle.serde_json.specs.Written.{outline}
use Rattle.gcs_render.specs.Fields.{Field}

-- the bytes that stood before, and the tokens that are written behind them
abbrev pub Sent : Type 0
Sent = List ℕ × List Token

-- a token more
abbrev pub with_token : Token → Sent → Sent
with_token token before = (before.0, before.1 ++ token ∷ [])

-- tokens more
abbrev pub with_tokens : List Token → Sent → Sent
with_tokens tokens before = (before.0, before.1 ++ tokens)

-- a value more
abbrev pub with_value : Data → Sent → Sent
with_value value before = with_tokens (json_tokens (outline value)) before

-- none of these tokens is one that a reader refused
abbrev pub AreGood : List Token → Type 0
AreGood [] = Unit {0}
AreGood (token ∷ tokens) = (token ≢ bad) × AreGood tokens

-- the values of a list, one by one
abbrev pub send_values : List Data → Sent → Sent
send_values [] before = before
send_values (value ∷ values) before = send_values values (with_value value before)

-- a text for each pair
abbrev pub send_pairs : List (List ℕ × List ℕ) → Sent → Sent
send_pairs [] before = before
send_pairs (pair ∷ pairs) before = send_pairs pairs (with_value (string pair.1) (with_token (key pair.0) before))

-- the members of a value, or the tokens of a text
pub data Shown : Type 0 where
  in_value : Members → Shown
  in_text : Sent → Shown

-- a field more, where it stands
unfoldable pub show_where : List ℕ → Option Data → Shown → Shown
show_where name None shown = shown
show_where name (Some value) (in_value members) = in_value (put name value members)
show_where name (Some value) (in_text before) = in_text (with_value value (with_token (key name) before))

-- the fields that stand
abbrev pub show_fields : List Field → Shown → Shown
show_fields [] shown = shown
show_fields (field ∷ fields) shown = show_fields fields (show_where field.0 field.1 shown)
