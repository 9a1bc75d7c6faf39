use Rattle.assise_digest.proofs.Common.{◌≡◌, ◌-◌, ◌++◌, ◌∙◌, [], ◌∷◌, min, length, take, ap, sym, subst, arith, all_effects, all_effects-append, CanBeMadeWhole}
use Rattle.assise_digest.proofs.Common.{Lays, ahead, seen_log}
use Rattle.assise_digest.proofs.ReceivedLogs.{count_ahead}
use Rattle.assise_digest.proofs.InodesUnderRecords.{appended_last, laid_no_more, lays_more, one_more_ahead, record_here, take_same, whole_at}
use Rattle.assise_digest.proofs.received.Received.lay.Goals as goal

pub make-requires-clause-whole : goal.make-requires-clause-whole
make-requires-clause-whole c =
    let l = seen_log c.args.self.now in
    let r = c.in-Some.record.now in
    subst CanBeMadeWhole (sym c.effects.ensures.effects)
    (whole_at l.log.records (c.loop-number.number - l.log.first) r c.requires.whole
    (record_here l c.loop-number.number r c.requires.begun c.loop-number.auto.number c.in-Some.ensures))

pub loop-number-preserved : goal.loop-number-preserved
loop-number-preserved c =
    let l = seen_log c.args.self.now in
    let r = c.in-Some.record.now in
    let m = c.args.area.now.inodes in
    let p = c.loop-number.pending in
    let number = c.loop-number.number in
    let made = c.in_ok-make.ensures.ok_inodes in
    let before = take (number - l.digested) (ahead l) in
    record {
      no_more = laid_no_more p c.make.new.self m 0 c.effects.result.now c.loop-number.invariant.no_more c.in_ok-make.ensures.ok_inodes
          c.in_ok-make.ensures.ok_last;
      lays = λ es h.
          subst (Lays c.make.new.self m)
          (ap (λ fs. (es ++ all_effects before) ++ fs) c.effects.ensures.effects ∙ appended_last es (all_effects before) r.effects
          ∙ ap (λ fs. es ++ fs) (sym (all_effects-append before (r ∷ []))
          ∙ ap all_effects (sym (one_more_ahead l number r c.requires.begun c.loop-number.auto.number c.in-Some.ensures))))
          (lays_more p c.make.new.self m 0 (es ++ all_effects before) c.effects.result.now (c.loop-number.invariant.lays es h) c.in_ok-make.ensures.ok_inodes
          c.in_ok-make.ensures.ok_last);
    }

pub returns-clause-lays : goal.returns-clause-lays
returns-clause-lays c = λ es h.
    let l = seen_log c.args.self.now in
    let all = count_ahead l c.requires.begun in
    let same : min (c.loop-number.number - l.digested) (length (ahead l)) ≡ min (c.args.acked - l.digested) (length (ahead l)) =
    grind (arith, all, c.loop-number-test.false, c.loop-number.auto.number, c.loop-number.auto.number-end, c.clamp-to.ensures, c.end.ensures.end) in
    subst (λ rs. Lays c.loop-number.pending c.args.area.now.inodes (es ++ all_effects rs))
    (take_same (c.loop-number.number - l.digested) (c.args.acked - l.digested) (ahead l) same)
    (c.loop-number.invariant.lays es h)
