use Rattle.std.proofs.Common.{◌≡◌, ◌∙◌, ap, List, ℕ, Some, Option}
use Rattle.std.proofs.lemmas.Bool.{and_parts}
use Rattle.gcs_meaning.specs.Texts.{begins, folded}
use Rattle.gcs_listing.proofs.TextLemmas.{folded_some}
use Rattle.gcs_listing.proofs.looking.past_fold.Goals as goal

-- the fold, of the query's own texts
folds : (p d n q_p q_d r_n : List ℕ) (o : Option (List ℕ)) → p ≡ q_p → d ≡ q_d → n ≡ r_n → o ≡ folded p d n → o ≡ folded q_p q_d r_n
folds p d n q_p q_d r_n o a b e h = h ∙ ap (λ x. folded x d n) a ∙ ap (λ x. folded q_p x n) b ∙ ap (λ x. folded q_p q_d x) e

pub past_text-requires : goal.past_text-requires
past_text-requires c =
    let q = c.args.query.now in
    let name = c.args.row.now.name in
    record {
      some = folded_some q.prefix q.delimiter name c.in-Some.prefix.now (and_parts (begins q.prefix name) _ c.requires.kept).0
          (folds c.as_str.result.now c.as_str-2.result.now c.as_str-3.result.now q.prefix q.delimiter name (Some c.in-Some.prefix.now) c.as_str.ensures c.as_str-2.ensures c.as_str-3.ensures c.in-Some.ensures);
    }
