use Rattle.assise_digest.proofs.Common.{◌∙◌, ap, subst, sym, ok_map, StandsFor, taken_in, ahead, with_more, StandsHere, seen_log}
use Rattle.assise_digest.proofs.ReceivedLogs.{kept_more, kept_new}
use Rattle.assise_digest.proofs.received.Received.keep.Goals as goal

pub take_in-requires-clause-fresh : goal.take_in-requires-clause-fresh
take_in-requires-clause-fresh c =
    let l = seen_log c.args.self.now in
    kept_new c.in-Some.pending c.args.area.now.inodes l c.end-number.result c.requires.sound.begun
    (subst (StandsHere c.args.area.now.inodes l) c.in-Some.is c.requires.sound.stands) c.end-number.ensures.end

pub returns-in-Some-clause-kept : goal.returns-in-Some-clause-kept
returns-in-Some-clause-kept c =
    let m = c.args.area.now.inodes in
    let l = seen_log c.args.self.now in
    let r = c.args.added.now in
    let more : StandsFor (taken_in c.in-Some.pending m c.end-number.result r.effects) m l.digested (ahead (with_more l r)) =
    kept_more c.in-Some.pending m l r c.end-number.result c.requires.sound.begun (subst (StandsHere m l) c.in-Some.is c.requires.sound.stands)
    c.end-number.ensures.end in
    ok_map c.take_in.result c.take_in.ensures.ok
    (λ is. subst (λ p. StandsFor p m l.digested (ahead (with_more l r)))
    (sym (is ∙ ap (taken_in c.in-Some.pending m c.end-number.result) c.effects.ensures.effects)) more)
