use Rattle.assise_threads.proofs.Common.{length}
use Rattle.assise_threads.proofs.meeting.+meet_all.Given as goal

abbrev pub decreases-meet_all : goal.decreases-meet_all
decreases-meet_all g l = length l.clients.rest.items
