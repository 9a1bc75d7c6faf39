use Rattle.assise_digest.proofs.Common.{◌∙◌, ap, sym, subst, LogInvariant}
use Rattle.assise_digest.proofs.RegroupedLogs.{all_there, sound_regrouped}
use Rattle.assise_digest.proofs.received.Received.coalesce.Goals as goal

pub note_from-requires : goal.note_from-requires
note_from-requires c =
    let s = c.requires.sound.1 in
    record {
      there = all_there c.args.self.now c.args.from s.begun c.requires.digested c.requires.to_end c.requires.sound.0 c.regroup.new.self
          c.args.self.now.pending c.in_ok-regroup.ensures.ok s.stands;
    }

pub returns-clause-sound : goal.returns-clause-sound
returns-clause-sound c = λ m s.
    let x = c.args.self.now in
    let n = c.note_from.new.self in
    let log = c.regroup.new.self in
    subst (LogInvariant m)
    (sym (ap (λ l. record { log = l; digested = n.digested; pending = n.pending }) c.note_from.ensures.log
    ∙ ap (λ d. record { log = log; digested = d; pending = n.pending }) c.note_from.ensures.digested))
    (sound_regrouped x c.args.from s.begun c.requires.digested c.requires.to_end m log n.pending s c.in_ok-regroup.ensures.ok c.note_from.ensures.pending)
