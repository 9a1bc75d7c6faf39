use Rattle.assise_digest.proofs.Common.{◌∙◌, subst, ahead, StandsHere, seen_log}
use Rattle.assise_digest.proofs.MovedInodes.{sound_settled}
use Rattle.assise_digest.proofs.RebuiltInodes.{stood_over}
use Rattle.assise_digest.proofs.received.Received.settle.Goals as goal

pub returns-clause-moved : goal.returns-clause-moved
returns-clause-moved c =
    let m = c.args.area.now.inodes in
    let l = seen_log c.args.self.now in
    c.in_ok-settle.ensures.moved ∙ stood_over c.in-Some.pending m l.digested (ahead l) (subst (StandsHere m l) c.in-Some.is c.requires.sound.stands)

pub returns-clause-sound : goal.returns-clause-sound
returns-clause-sound c =
    sound_settled c.args.area.now.inodes c.settle.new.area.inodes c.args.self.now c.settle.new.self c.end-self.result c.requires.sound c.end-self.ensures.end
    c.in_ok-settle.ensures.inodes c.in_ok-settle.ensures.last
