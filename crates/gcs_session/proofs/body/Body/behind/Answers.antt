-- Two parts of which nothing has come.
use Rattle.std.proofs.Common.{Result, Ok, Err, subst, sym, Option}
use Rattle.std.specs.Prelude.{IfOk, IfSome}
use Rattle.std.specs.Result.{result_ok}
use Rattle.gcs_chunks.specs.Content.{ChunksValue}
use Rattle.gcs_session.specs.declared.two_parts.TwoParts.{TwoParts}
use Rattle.gcs_session.specs.Contents.{TwoPartsLieIn}
use Rattle.gcs_session.proofs.body.Body.behind.Goals as goal

-- where memory did not lack for them
made_lie : {E : Type 0} (chunks : ChunksValue) (made : Result TwoParts E) → IfOk made (λ two. (k : ChunksValue) → TwoPartsLieIn k two) → IfSome (result_ok made) (TwoPartsLieIn chunks)
made_lie chunks (Ok two) lies = lies chunks
made_lie chunks (Err error) lies = tt

pub returns-in-Parts-clause-lies : goal.returns-in-Parts-clause-lies
returns-in-Parts-clause-lies c = λ chunks.
    subst (λ (parts : Option TwoParts). IfSome parts (TwoPartsLieIn chunks)) (sym c.ok.ensures.value) (made_lie chunks c.new-in-Parts.result c.new-in-Parts.ensures.lies)
