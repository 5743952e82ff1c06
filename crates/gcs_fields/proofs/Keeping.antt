-- Values kept one after the other
use Rattle.std.proofs.Common.{◌≡◌, ℕ, List, [], ◌∷◌, ◌++◌, Option, Some, None, string_bytes, string_cmp, nat_cmp, Less, Greater, refl, ap, ◌∙◌}
use Rattle.std.specs.Ordering.{ordering_reverse}
use Rattle.std.specs.Cmp.Lexicographic.{slice_cmp}
use Rattle.std.specs.List.{AllByRecursion}
use Rattle.std.specs.List.Sorted.{IsStrictlySortedBy}
use Rattle.std.specs.Map.{keys_of}
use Rattle.std.proofs.lemmas.Cmp.{nat_list_cmp_total}
use Rattle.serde_json.specs.declared.value.Value.{Value}
use Rattle.serde_json.specs.Data.{Data, Items, no_items, item, Members, no_members, member, put}
use Rattle.serde_json.specs.View.{view, items_view, members_view}
use Rattle.serde_json.proofs.Views.{Entry}
use Rattle.gcs_fields.specs.Tree.{Mask}
use Rattle.gcs_fields.specs.Select.{select_members, member_of}
use Rattle.gcs_fields.specs.Rests.{members_by}

-- elements, and others behind them
abbrev pub added : Items → Items → Items
added no_items es = es
added (item d ds) es = item d (added ds es)

-- none behind them changes nothing
pub added_none : (ds : Items) → added ds no_items ≡ ds
added_none no_items = refl
added_none (item d ds) = ap (item d) (added_none ds)

-- one more kept element stands before those behind
pub added_push : (vs : List Value) (v : Value) (es : Items) → added (items_view (vs ++ v ∷ [])) es ≡ added (items_view vs) (item (view v) es)
added_push [] v es = refl
added_push (w ∷ vs) v es = ap (item (view w)) (added_push vs v es)

by_option : (o : Option Data) (k l : List ℕ) (d : Data) (ms more : Members) → slice_cmp nat_cmp k l ≡ Greater → put k d ms ≡ more
    → put k d (member_of l o ms) ≡ member_of l o more
by_option None k l d ms more above e = e
by_option (Some x) k l d ms more above e = rw above (ap (member l x) e)

below_middle : (first : Entry) (es : List Entry) (e : Entry) (more : List Entry) → AllByRecursion (λ y. string_cmp first.0 y ≡ Less) (keys_of (es ++ e ∷ more)) → string_cmp first.0 e.0 ≡ Less
below_middle first [] e more h = h.0
below_middle first (x ∷ es) e more h = below_middle first es e more h.1

-- a member that stays goes last
pub kept_put : (m : Mask) (done : List Entry) (e : Entry) (more : List Entry) (d : Data) → IsStrictlySortedBy string_cmp (keys_of (done ++ e ∷ more))
    → Some d ≡ members_by (string_bytes e.0) m (view e.1)
    → put (string_bytes e.0) d (select_members m (members_view done)) ≡ select_members m (members_view (done ++ e ∷ []))
unfolding IsStrictlySortedBy
kept_put m [] e more d h stays = ap (λ o. member_of (string_bytes e.0) o no_members) stays
kept_put m (first ∷ done) e more d h stays =
    let above : slice_cmp nat_cmp (string_bytes e.0) (string_bytes first.0) ≡ Greater =
    nat_list_cmp_total.antisymm (string_bytes e.0) (string_bytes first.0) ∙ ap ordering_reverse (below_middle first done e more h.0) in
    by_option (members_by (string_bytes first.0) m (view first.1)) (string_bytes e.0) (string_bytes first.0) d (select_members m (members_view done)) (select_members m (members_view (done ++ e ∷ []))) above (kept_put m done e more d h.1 stays)

-- and one that doesn't changes nothing
pub kept_skip : (m : Mask) (done : List Entry) (e : Entry) → None ≡ members_by (string_bytes e.0) m (view e.1)
    → select_members m (members_view done) ≡ select_members m (members_view (done ++ e ∷ []))
kept_skip m [] e goes = ap (λ o. member_of (string_bytes e.0) o no_members) goes
kept_skip m (first ∷ done) e goes = ap (member_of (string_bytes first.0) (members_by (string_bytes first.0) m (view first.1))) (kept_skip m done e goes)
