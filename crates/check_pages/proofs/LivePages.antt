-- Looks of a page of live versions.
use Rattle.std.proofs.Common.{◌≡◌, ◌∙◌, ap, refl, ℕ, List, [], ◌∷◌, length}
use Rattle.std.specs.Prelude.{not, if◌then◌else◌}
use Rattle.std.specs.List.{filter}
use Rattle.gcs_meaning.specs.declared.listing.View.{View}
use Rattle.gcs_meaning.specs.declared.listing.View.TheVariants.{Live as OfLive}
use Rattle.gcs_meaning.specs.declared.version.Kind.{Kind}
use Rattle.gcs_meaning.specs.declared.version.Kind.TheVariants.{Live, Noncurrent, Soft}
use Rattle.gcs_meaning.specs.declared.version.Row.{Row}
use Rattle.gcs_meaning.specs.Aging.{kind_stays}
use Rattle.gcs_meaning.specs.Choosing.{is_live}
use Rattle.gcs_meaning.specs.Order.{shown_rows}
use Rattle.gcs_listing.specs.Seeking.{gone_count, is_gone}

-- no live version is gone
pub none_gone : (view : View) (t : ℕ) (rows : List Row) → view ≡ OfLive → gone_count view t rows ≡ 0
unfolding gone_count
none_gone view t rows is = ap (λ v. gone_count v t rows) is ∙ all rows
  where
    all : (xs : List Row) → length (filter (is_gone t) (shown_rows OfLive xs)) ≡ 0
    all [] = refl
    all (x ∷ xs) = by x.kind refl (all xs)
      where
        by : (kind : Kind) → x.kind ≡ kind → length (filter (is_gone t) (shown_rows OfLive xs)) ≡ 0 → length (filter (is_gone t) (shown_rows OfLive (x ∷ xs))) ≡ 0
        by Live e rest =
            ap (λ k. length (filter (is_gone t) (if is_live k then x ∷ shown_rows OfLive xs else shown_rows OfLive xs))) e
            ∙ ap (λ k. length (if not (kind_stays t k) then x ∷ filter (is_gone t) (shown_rows OfLive xs) else filter (is_gone t) (shown_rows OfLive xs))) e ∙ rest
        by (Noncurrent at) e rest = ap (λ k. length (filter (is_gone t) (if is_live k then x ∷ shown_rows OfLive xs else shown_rows OfLive xs))) e ∙ rest
        by (Soft at hard) e rest = ap (λ k. length (filter (is_gone t) (if is_live k then x ∷ shown_rows OfLive xs else shown_rows OfLive xs))) e ∙ rest
