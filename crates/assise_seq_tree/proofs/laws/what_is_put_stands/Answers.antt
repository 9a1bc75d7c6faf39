use Rattle.assise_seq_tree.proofs.Shared.Moves.{put-put_any}
use Rattle.assise_seq_tree.proofs.Shared.Paths.{put_stands}
use Rattle.assise_seq_tree.proofs.laws.what_is_put_stands.Goals as goal

pub returns-clause-found : goal.returns-clause-found
returns-clause-found c = λ t x p es h. put_stands t x p es h

pub returns-clause-last : goal.returns-clause-last
returns-clause-last c = λ t x y p s o k. put-put_any p t x y s o k
