-- A session that has just begun has no content.
use Rattle.check_exchanges.proofs.by_hand.take_steps.Goals as goal

pub loop-step-init : goal.loop-step-init
loop-step-init c = record {
  chunks = c.requires;
  running = c.in_ok-session.ensures.running;
  lies = c.in_ok-session.ensures.lies c.args.chunks.now;
}
