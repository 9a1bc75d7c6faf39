-- What a clause says of a worker's pass.
use Rattle.assise_keeper.specs.declared.pass.Pass.{Pass}
use Rattle.assise_keeper.specs.declared.worker_pass.WorkerPass.{WorkerPass}

-- the pass without a client that the worker has
abbrev pub pass_of : {S : Type 0} → WorkerPass S → Pass S
pass_of w = w.pass
