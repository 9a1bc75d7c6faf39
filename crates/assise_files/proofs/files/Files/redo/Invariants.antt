use Rattle.assise_files.proofs.Common.{◌≡◌, vec_len, FaithfulAt, cluster_seen, links_seen, most_tries, lost_changes}
use Rattle.assise_files.proofs.MadeAgain.{AreMadeSoFar}
use Rattle.assise_files.proofs.files.Files.redo.Given as goal

abbrev pub invariant-loop-change : goal.invariant-loop-change
invariant-loop-change l = record {
  made : AreMadeSoFar (FaithfulAt (links_seen l.fn.self)) (most_tries l.fn.self) l.client (lost_changes l.lost l.first (cluster_seen l.fn.self).history)
      l.left.items (cluster_seen l.fn.self) (cluster_seen l.self);
  turns : most_tries l.self ≡ most_tries l.fn.self;
  links : links_seen l.self ≡ links_seen l.fn.self;
}

abbrev pub decreases-loop-change : goal.decreases-loop-change
decreases-loop-change l = vec_len l.left
