use Rattle.assise_digest.proofs.RegroupedKept.{renoted}
use Rattle.assise_digest.proofs.laws.what_is_kept_stands_for_what_is_left.Goals as goal

pub returns : goal.returns
returns c = λ p m n fs old new s net touch. renoted p m n fs old new s (record { net = net; touch = touch })
