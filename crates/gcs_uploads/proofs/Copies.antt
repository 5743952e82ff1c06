-- A copy of a map, entry by entry.
use Rattle.std.proofs.Common.{◌≡◌, ℕ, [], ◌∷◌, ◌++◌, ap, sym, subst, refl, ◌∙◌}
use Rattle.std.specs.Ordering.{nat_cmp, ordering_reverse}
use Rattle.std.specs.declared.cmp.Ordering.TheVariants.{Less, Greater}
use Rattle.std.specs.BTreeMap.{insert_entry}
use Rattle.std.specs.List.{AllByRecursion}
use Rattle.std.specs.List.Sorted.{IsStrictlySortedBy}
use Rattle.std.specs.Map.{keys_of}
use Rattle.std.proofs.lemmas.Cmp.{nat_cmp_total}
use Rattle.std.proofs.lemmas.List.{append_assoc}
use Rattle.gcs_meaning.specs.declared.uploading.Upload.{Upload}
use Rattle.gcs_meaning.specs.Uploads.{UploadMap}

below_middle : (n : ℕ) (es : UploadMap) (e : ℕ × Upload) (more : UploadMap) → AllByRecursion (λ y. nat_cmp n y ≡ Less) (keys_of (es ++ e ∷ more)) → nat_cmp n e.0 ≡ Less
below_middle n [] e more h = h.0
below_middle n (x ∷ es) e more h = below_middle n es e more h.1

-- a number above all others goes to the end
insert_last : (made : UploadMap) (e : ℕ × Upload) (more : UploadMap) → IsStrictlySortedBy nat_cmp (keys_of (made ++ e ∷ more))
    → insert_entry nat_cmp made e.0 e.1 ≡ made ++ e ∷ []
unfolding IsStrictlySortedBy
insert_last [] e more h = refl
insert_last (first ∷ made) e more h =
    let above : nat_cmp e.0 first.0 ≡ Greater = nat_cmp_total.antisymm e.0 first.0 ∙ ap ordering_reverse (below_middle first.0 made e more h.0) in
    rw above (ap (λ rest. first ∷ rest) (insert_last made e more h.1))

pub copied_more : (es made left left' made' : UploadMap) (number : ℕ) (upload copy : Upload) → IsStrictlySortedBy nat_cmp (keys_of es)
    → made ++ left ≡ es → left ≡ (number, upload) ∷ left' → copy ≡ upload → made' ≡ insert_entry nat_cmp made number copy → made' ++ left' ≡ es
copied_more es made left left' made' number upload copy sorted whole first same added =
    let parts : made ++ (number, upload) ∷ left' ≡ es = ap (λ l. made ++ l) (sym first) ∙ whole in
    let last : insert_entry nat_cmp made number upload ≡ made ++ (number, upload) ∷ [] =
    insert_last made (number, upload) left' (subst (λ l. IsStrictlySortedBy nat_cmp (keys_of l)) (sym parts) sorted) in
    ap (λ l. l ++ left') (added ∙ ap (insert_entry nat_cmp made number) same ∙ last)
    ∙ append_assoc made ((number, upload) ∷ []) left'
    ∙ parts
