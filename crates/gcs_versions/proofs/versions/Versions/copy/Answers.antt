use Rattle.std.proofs.Common.{◌∙◌, sym, ap, subst}
use Rattle.gcs_meaning.specs.Order.{AreVersions}
use Rattle.gcs_versions.specs.Kept.{Kept}
use Rattle.gcs_versions.proofs.Copying.{indexes_copied, rows_copied}
use Rattle.gcs_versions.proofs.versions.Versions.copy.Goals as goal

pub invariant_of-result : goal.invariant_of-result
invariant_of-result c = record {
  indexes = indexes_copied c.in_ok-clone.ensures.cases c.in_ok-copy.ensures c.in_ok-copy-2.ensures c.in_ok-copy-3.ensures c.in_ok-copy-4.ensures c.in_ok-copy-5.ensures c.self.invariant.indexes;
  versions = subst AreVersions (sym (rows_copied c.in_ok-clone.ensures.cases c.in_ok-copy.ensures)) c.self.invariant.versions;
  put = tt;
  retire = tt;
}

pub returns : goal.returns
returns c = rows_copied c.in_ok-clone.ensures.cases c.in_ok-copy.ensures ∙ ap (λ (k : Kept). k.rows) c.self.view_is
