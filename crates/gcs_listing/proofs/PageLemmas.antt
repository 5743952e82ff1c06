-- A page from the units taken so far and those that are left.
use Rattle.std.proofs.Common.{◌≡◌, ℕ, zero, suc, ◌+◌, ◌-◌, ◌≤◌, ◌∙◌, sym, ap, refl, List, [], ◌∷◌, ◌++◌, length, take, arith, subst, Some, None, Option, length-append, append_assoc}
use Rattle.std.specs.Prelude.{Bool, true, false, not, map, nat_lt, slice_get, if◌then◌else◌, ◌&&◌}
use Rattle.std.specs.List.{cons_option}
use Rattle.std.specs.List.{filter, filter_map, find}
use Rattle.std.proofs.lemmas.Bool.{lt-ltb, le-ltb}
use Rattle.std.proofs.lemmas.List.{append-nil, take_all}
use Rattle.gcs_meaning.specs.declared.version.Row.{Row}
use Rattle.gcs_meaning.specs.declared.listing.Unit as unit
use Rattle.gcs_meaning.specs.declared.listing.PageQuery.{PageQuery}
use Rattle.gcs_meaning.specs.declared.listing.Page.{Page}
use Rattle.gcs_meaning.specs.declared.settings.Settings.{Settings}
use Rattle.gcs_meaning.specs.Aging.{aged_rows}
use Rattle.gcs_listing.specs.declared.looking.Found.{Found}
use Rattle.gcs_listing.specs.declared.paging.Taken.{Taken}
use Rattle.gcs_listing.specs.Seeking.{listed_rows, units_after}
use Rattle.gcs_listing.specs.Looking.{IsNextUnit, IsShownBy}
use Rattle.gcs_listing.specs.Paging.{option_list, texts_of, IsMore, IsPaged}
use Rattle.gcs_meaning.specs.Listing.{has_item, is_prefix, items_of, page_next, page_of, page_units, prefixes_of, units_left}
use Rattle.gcs_meaning.specs.declared.listing.View.{View}

take_front : (done rest : List unit.Unit) (n : ℕ) → length done ≡ n → take n (done ++ rest) ≡ done
take_front [] rest n e = subst (λ (m : ℕ). take m rest ≡ []) e refl
take_front (x ∷ done) rest n e = subst (λ (m : ℕ). take m (x ∷ (done ++ rest)) ≡ x ∷ done) e (ap (λ l. x ∷ l) (take_front done rest (length done) refl))

-- with nothing left, the page is what there is
pub ended_units : (q : PageQuery) (rows : List Row) (done : List unit.Unit) (last : Option unit.Unit) → units_after q rows q.after ≡ done ++ units_after q rows last → units_after q rows last ≡ [] → length done ≤ q.most → done ≡ page_units q rows
unfolding page_units units_left
ended_units q rows done last all none few =
    let whole : units_after q rows q.after ≡ done = all ∙ ap (λ l. done ++ l) none ∙ append-nil done in
    sym (ap (take q.most) whole ∙ take_all q.most done few)

pub ended_next : (q : PageQuery) (rows : List Row) (done : List unit.Unit) (last : Option unit.Unit) → units_after q rows q.after ≡ done ++ units_after q rows last → units_after q rows last ≡ [] → length done ≤ q.most → None ≡ page_next q rows
unfolding page_next page_units units_left
ended_next q rows done last all none few =
    let whole : units_after q rows q.after ≡ done = all ∙ ap (λ l. done ++ l) none ∙ append-nil done in
    let short : nat_lt q.most (length (units_after q rows q.after)) ≡ false = le-ltb q.most (length (units_after q rows q.after)) (omega (arith, ap length whole)) in
    sym (ap (λ t. if t then slice_get (take q.most (units_after q rows q.after)) (q.most - 1) else None) short)

-- a full page
pub full_units : (q : PageQuery) (rows : List Row) (done rest : List unit.Unit) → units_after q rows q.after ≡ done ++ rest → length done ≡ q.most → done ≡ page_units q rows
unfolding page_units units_left
full_units q rows done rest all full = sym (ap (take q.most) all ∙ take_front done rest q.most full)

pub full_next : (q : PageQuery) (rows : List Row) (done : List unit.Unit) (last : Option unit.Unit) (more : Bool) → units_after q rows q.after ≡ done ++ units_after q rows last → length done ≡ q.most → IsMore q rows last more
    → (1 ≤ length done → last ≡ slice_get done (length done - 1)) → (if more && nat_lt 0 q.most then last else None) ≡ page_next q rows
unfolding page_next page_units units_left
full_next q rows done last false all full is at = ended_next q rows done last all is (omega arith)
full_next q rows done last true all full more at =
    let u : unit.Unit = more.0 in
    let is : units_after q rows last ≡ u ∷ units_after q rows (Some u) = more.1 in
    let whole : units_after q rows q.after ≡ done ++ (u ∷ units_after q rows (Some u)) = all ∙ ap (λ l. done ++ l) is in
    let long : nat_lt q.most (length (units_after q rows q.after)) ≡ true = lt-ltb q.most (length (units_after q rows q.after)) (omega (arith, ap length whole, length-append done (u ∷ units_after q rows (Some u)))) in
    let taken : take q.most (units_after q rows q.after) ≡ done = ap (take q.most) whole ∙ take_front done (u ∷ units_after q rows (Some u)) q.most full in
    by q.most refl at full
    ∙ sym (ap (λ t. if t then slice_get (take q.most (units_after q rows q.after)) (q.most - 1) else None) long ∙ ap (λ l. slice_get l (q.most - 1)) taken)
  where
    by : (m : ℕ) → q.most ≡ m → (1 ≤ length done → last ≡ slice_get done (length done - 1)) → length done ≡ q.most → (if nat_lt 0 q.most then last else None) ≡ slice_get done (q.most - 1)
    by zero e at full =
        let no : nat_lt 0 q.most ≡ false = le-ltb 0 q.most (omega arith) in
        ap (λ t. if t then last else None) no ∙ none_of done (full ∙ e) (q.most - 1)
      where
        none_of : (xs : List unit.Unit) → length xs ≡ 0 → (i : ℕ) → None ≡ slice_get xs i
        none_of [] h i = refl
        none_of (x ∷ xs) h i = absurd (omega arith)
    by (suc m) e at full =
        let yes : nat_lt 0 q.most ≡ true = lt-ltb 0 q.most (omega arith) in
        ap (λ t. if t then last else None) yes ∙ at (omega arith) ∙ ap (λ n. slice_get done (n - 1)) full

-- one unit more
pub one_more : (q : PageQuery) (rows : List Row) (done : List unit.Unit) (last : Option unit.Unit) (u : unit.Unit) → units_after q rows q.after ≡ done ++ units_after q rows last → units_after q rows last ≡ u ∷ units_after q rows (Some u)
    → units_after q rows q.after ≡ (done ++ u ∷ []) ++ units_after q rows (Some u)
one_more q rows done last u all next = all ∙ ap (λ l. done ++ l) next ∙ sym (append_assoc done (u ∷ []) (units_after q rows (Some u)))

pub last_added : (done : List unit.Unit) (u : unit.Unit) (n : ℕ) → n ≡ length done → Some u ≡ slice_get (done ++ u ∷ []) n
last_added [] u n e = subst (λ (m : ℕ). Some u ≡ slice_get (u ∷ []) m) (sym e) refl
last_added (x ∷ done) u n e = subst (λ (m : ℕ). Some u ≡ slice_get (x ∷ (done ++ u ∷ [])) m) (sym e) (last_added done u (length done) refl)

-- ---- what the units show
items_left : (view : View) (rows : List Row) (u : unit.Unit) (us : List unit.Unit) → is_prefix u ≡ true → items_of view rows (u ∷ us) ≡ items_of view rows us
items_left view rows u us e =
    ap (λ (t : Bool). filter_map (λ v. find (has_item view v) rows) (if t then u ∷ filter (λ v. not (is_prefix v)) us else filter (λ v. not (is_prefix v)) us)) (ap not e)

items_kept : (view : View) (rows : List Row) (u : unit.Unit) (us : List unit.Unit) (row : Row) → is_prefix u ≡ false → find (has_item view u) rows ≡ Some row → items_of view rows (u ∷ us) ≡ row ∷ items_of view rows us
items_kept view rows u us row e found =
    ap (λ (t : Bool). filter_map (λ v. find (has_item view v) rows) (if t then u ∷ filter (λ v. not (is_prefix v)) us else filter (λ v. not (is_prefix v)) us)) (ap not e)
    ∙ ap (λ o. cons_option o (items_of view rows us)) found

prefixes_kept : (u : unit.Unit) (us : List unit.Unit) → is_prefix u ≡ true → prefixes_of (u ∷ us) ≡ u.text ∷ prefixes_of us
prefixes_kept u us e = ap (λ (t : Bool). map (λ v. v.text) (if t then u ∷ filter is_prefix us else filter is_prefix us)) e

prefixes_left : (u : unit.Unit) (us : List unit.Unit) → is_prefix u ≡ false → prefixes_of (u ∷ us) ≡ prefixes_of us
prefixes_left u us e = ap (λ (t : Bool). map (λ v. v.text) (if t then u ∷ filter is_prefix us else filter is_prefix us)) e

-- one more at the end
items_one : (view : View) (rows : List Row) (u : unit.Unit) (item : Option Row) → IsShownBy view rows u item → items_of view rows (u ∷ []) ≡ option_list item
items_one view rows u None is = items_left view rows u [] is
items_one view rows u (Some row) is = items_kept view rows u [] row is.0 is.1

pub items_more : (view : View) (rows : List Row) (u : unit.Unit) (item : Option Row) → IsShownBy view rows u item → (us : List unit.Unit) → items_of view rows us ++ option_list item ≡ items_of view rows (us ++ u ∷ [])
items_more view rows u item is [] = sym (items_one view rows u item is)
items_more view rows u item is (v ∷ us) = by (is_prefix v) refl (find (has_item view v) rows) refl (items_more view rows u item is us)
  where
    by : (t : Bool) → is_prefix v ≡ t → (o : Option Row) → find (has_item view v) rows ≡ o → items_of view rows us ++ option_list item ≡ items_of view rows (us ++ u ∷ [])
        → items_of view rows (v ∷ us) ++ option_list item ≡ items_of view rows (v ∷ (us ++ u ∷ []))
    by true e o f rest = ap (λ l. l ++ option_list item) (items_left view rows v us e) ∙ rest ∙ sym (items_left view rows v (us ++ u ∷ []) e)
    by false e (Some row) f rest = ap (λ l. l ++ option_list item) (items_kept view rows v us row e f) ∙ ap (λ l. row ∷ l) rest ∙ sym (items_kept view rows v (us ++ u ∷ []) row e f)
    by false e None f rest = ap (λ l. l ++ option_list item) (items_none us e f) ∙ rest ∙ sym (items_none (us ++ u ∷ []) e f)
      where
        items_none : (ws : List unit.Unit) → is_prefix v ≡ false → find (has_item view v) rows ≡ None → items_of view rows (v ∷ ws) ≡ items_of view rows ws
        items_none ws e f =
            ap (λ (t : Bool). filter_map (λ v. find (has_item view v) rows) (if t then v ∷ filter (λ v. not (is_prefix v)) ws else filter (λ v. not (is_prefix v)) ws)) (ap not e)
            ∙ ap (λ o. cons_option o (items_of view rows ws)) f

prefixes_one : (view : View) (rows : List Row) (u : unit.Unit) (item : Option Row) → IsShownBy view rows u item → prefixes_of (u ∷ []) ≡ texts_of u item
prefixes_one view rows u None is = prefixes_kept u [] is
prefixes_one view rows u (Some row) is = prefixes_left u [] is.0

pub prefixes_more : (view : View) (rows : List Row) (u : unit.Unit) (item : Option Row) → IsShownBy view rows u item → (us : List unit.Unit) → prefixes_of us ++ texts_of u item ≡ prefixes_of (us ++ u ∷ [])
prefixes_more view rows u item is [] = sym (prefixes_one view rows u item is)
prefixes_more view rows u item is (v ∷ us) = by (is_prefix v) refl (prefixes_more view rows u item is us)
  where
    by : (t : Bool) → is_prefix v ≡ t → prefixes_of us ++ texts_of u item ≡ prefixes_of (us ++ u ∷ []) → prefixes_of (v ∷ us) ++ texts_of u item ≡ prefixes_of (v ∷ (us ++ u ∷ []))
    by true e rest = ap (λ l. l ++ texts_of u item) (prefixes_kept v us e) ∙ ap (λ l. v.text ∷ l) rest ∙ sym (prefixes_kept v (us ++ u ∷ []) e)
    by false e rest = ap (λ l. l ++ texts_of u item) (prefixes_left v us e) ∙ rest ∙ sym (prefixes_left v (us ++ u ∷ []) e)

-- a unit shows one thing
pub one_shown : (u : unit.Unit) (item : Option Row) → length (option_list item) + length (texts_of u item) ≡ 1
one_shown u None = refl
one_shown u (Some row) = refl

-- what is taken once so many units are
pub record IsTakenSo (q : PageQuery) (rows : List Row) (taken : Taken) (last : Option unit.Unit) (count : ℕ) : Type 0 where
  pub units : List unit.Unit
  pub so_far : units_after q rows q.after ≡ units ++ units_after q rows last
  pub count_is : length units ≡ count
  pub at : 1 ≤ length units → last ≡ slice_get units (length units - 1)
  pub items : taken.items ≡ items_of q.view rows units
  pub prefixes : taken.prefixes ≡ prefixes_of units
  pub shown : length taken.items + length taken.prefixes ≡ count

pub none_taken : (q : PageQuery) (rows : List Row) (taken : Taken) (last : Option unit.Unit) → taken.items ≡ [] → taken.prefixes ≡ [] → last ≡ q.after → IsTakenSo q rows taken last 0
none_taken q rows taken last items prefixes is = record {
  units = [];
  so_far = ap (units_after q rows) (sym is);
  count_is = refl;
  at = λ h. absurd (omega (arith, h));
  items = items;
  prefixes = prefixes;
  shown = omega (arith, ap length items, ap length prefixes);
}

pub one_taken : (q : PageQuery) (rows : List Row) (taken more : Taken) (last : Option unit.Unit) (count : ℕ) (found : Found) → IsTakenSo q rows taken last count → IsNextUnit q rows last found
    → more.items ≡ taken.items ++ option_list found.item → more.prefixes ≡ taken.prefixes ++ texts_of found.unit found.item → IsTakenSo q rows more (Some found.unit) (count + 1)
one_taken q rows taken more last count found before next items prefixes =
    let u : unit.Unit = found.unit in
    let size : length (before.units ++ u ∷ []) ≡ length before.units + 1 = length-append before.units (u ∷ []) in
    record {
      units = before.units ++ u ∷ [];
      so_far = one_more q rows before.units last u before.so_far next.least;
      count_is = omega (arith, size, before.count_is);
      at = λ h. last_added before.units u (length (before.units ++ u ∷ []) - 1) (omega (arith, size));
      items = items ∙ ap (λ l. l ++ option_list found.item) before.items ∙ items_more q.view rows u found.item next.shown before.units;
      prefixes = prefixes ∙ ap (λ l. l ++ texts_of u found.item) before.prefixes ∙ prefixes_more q.view rows u found.item next.shown before.units;
      shown = omega (
        arith,
        ap length items,
        ap length prefixes,
        length-append taken.items (option_list found.item),
        length-append taken.prefixes (texts_of u found.item),
        one_shown u found.item,
        before.shown,
      );
    }

pub paged_end : (q : PageQuery) (rows : List Row) (taken : Taken) (last : Option unit.Unit) (count : ℕ) → IsTakenSo q rows taken last count → units_after q rows last ≡ [] → count ≤ q.most → IsPaged q rows taken None
paged_end q rows taken last count before none few =
    let within : length before.units ≤ q.most = omega (arith, before.count_is, few) in
    let all = ended_units q rows before.units last before.so_far none within in
    record {
      items = before.items ∙ ap (items_of q.view rows) all;
      prefixes = before.prefixes ∙ ap prefixes_of all;
      next_is = ended_next q rows before.units last before.so_far none within;
    }

pub paged_full : (q : PageQuery) (rows : List Row) (taken : Taken) (last : Option unit.Unit) (count : ℕ) (more : Bool) → IsTakenSo q rows taken last count → IsMore q rows last more → count ≡ q.most
    → IsPaged q rows taken (if more && nat_lt 0 q.most then last else None)
paged_full q rows taken last count more before left full =
    let whole : length before.units ≡ q.most = before.count_is ∙ full in
    let all = full_units q rows before.units (units_after q rows last) before.so_far whole in
    record {
      items = before.items ∙ ap (items_of q.view rows) all;
      prefixes = before.prefixes ∙ ap prefixes_of all;
      next_is = full_next q rows before.units last more before.so_far whole left before.at;
    }

-- the page of what was taken
pub page_is : (q : PageQuery) (moment : ℕ) (rows : List Row) (settings : Settings) (taken : Taken) (next : Option unit.Unit) (page : Page) → IsPaged q (listed_rows q.view moment rows) taken next
    → page ≡ record { items = taken.items; prefixes = taken.prefixes; next = next; settings = settings } → page ≡ page_of settings q (aged_rows moment rows)
unfolding page_of listed_rows
page_is q moment rows settings taken next page paged is =
    let a = paged.items in
    let b = paged.prefixes in
    let c = paged.next_is in
    is ∙ (λ i. record { items = a i; prefixes = b i; next = c i; settings = settings })
