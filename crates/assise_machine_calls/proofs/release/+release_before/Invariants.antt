use Rattle.assise_machine_calls.proofs.release.+release_before.Given as goal

abbrev pub decreases-release_before : goal.decreases-release_before
decreases-release_before g l = l.place
