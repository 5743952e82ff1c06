use Rattle.check_store.proofs.finishes.ask.Goals as goal

pub apply-requires-clause-contents : goal.apply-requires-clause-contents
apply-requires-clause-contents c = c.requires.1 _
