use Rattle.check_steps.proofs.twins.Twins.step.Goals as goal

pub apply-requires : goal.apply-requires
apply-requires c = c.requires.1 _
