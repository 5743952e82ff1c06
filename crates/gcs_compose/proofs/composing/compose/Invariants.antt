use Rattle.std.proofs.Common.{◌≡◌, ◌≤◌, ◌*◌, ◌^◌, false, length, drop}
use Rattle.gcs_chunks.specs.Content.{bytes_of}
use Rattle.gcs_index.specs.Looks.{AreLooks}
use Rattle.gcs_meaning.specs.Compose.{composed, composed_from}
use Rattle.gcs_meaning.specs.Tests.{largest_object}
use Rattle.gcs_compose.proofs.composing.compose.Given as goal

-- the sources from here on decide what all of them make
abbrev pub invariant-loop-i : goal.invariant-loop-i
invariant-loop-i g l = record {
  rest : composed l.versions.rows l.sources ≡ composed_from l.versions.rows l.i l.joined.hashed.content l.joined.count (drop l.i l.sources);
  size : length (bytes_of l.joined.hashed.content) ≤ l.i * largest_object;
  count : l.joined.count ≤ l.i * 2 ^ 32;
  md5 : l.joined.hashed.with_md5 ≡ false;
  looks : AreLooks l.i (length l.versions.rows) l.fn.steps l.steps;
}
