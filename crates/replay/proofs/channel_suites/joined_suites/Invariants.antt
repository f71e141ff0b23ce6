use lib.ListN.{length}
use Rattle.replay.proofs.channel_suites.joined_suites.Given as goal

abbrev pub decreases-loop-rest : goal.decreases-loop-rest
decreases-loop-rest l = length l.rest
