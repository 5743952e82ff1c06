use Rattle.std.proofs.Common.{ap, sym, subst}
use Rattle.std.proofs.lemmas.Cmp.{nat_list_cmp_total}
use Rattle.gcs_listing.specs.Seeking.{IsLow}
use Rattle.gcs_meaning.specs.Listing.{is_from}
use Rattle.gcs_listing.proofs.OrderLemmas.{lt_self}
use Rattle.gcs_listing.proofs.bounds.lowest.Goals as goal

pub returns-in-None : goal.returns-in-None
returns-in-None c =
    let q = c.args.query.now in
    subst (IsLow q) (sym c.as_bytes-prefix.ensures) record {
      prefix = lt_self nat_list_cmp_total q.prefix;
      start = ap (λ s. is_from s q.prefix) c.in-None.is;
      least = λ x above _. above;
    }
