use Rattle.assise_digest.proofs.Common.{◌≡◌, ◌+◌, ◌∷◌, ◌∙◌, length, ap, sym, subst, arith, rules, all_effects, HasAllNumbers, all_noted, last_noted}
use Rattle.assise_digest.proofs.RegroupedLogs.{has_prefix, has_others}
use Rattle.assise_digest.proofs.pending.Pending.note_all.Goals as goal

pub note-requires : goal.note-requires
note-requires c =
    let r = c.in-Some.record.now in
    let rest = c.next.new.self in
    let is : c.loop-record.record-iterator ≡ r ∷ rest = search rules in
    let all : HasAllNumbers c.loop-record.self.last (all_effects (r ∷ rest)) = subst (λ rs. HasAllNumbers c.loop-record.self.last (all_effects rs)) is
    c.loop-record.invariant.there in
    record {
      there = subst (HasAllNumbers c.loop-record.self.last) (sym c.effects.ensures.effects)
          (has_prefix c.loop-record.self.last r.effects (all_effects rest) all);
    }

pub loop-record-preserved : goal.loop-record-preserved
loop-record-preserved c =
    let r = c.in-Some.record.now in
    let rest = c.next.new.self in
    let number = c.loop-record.number in
    let is : c.loop-record.record-iterator ≡ r ∷ rest = search rules in
    let all : HasAllNumbers c.loop-record.self.last (all_effects (r ∷ rest)) = subst (λ rs. HasAllNumbers c.loop-record.self.last (all_effects rs)) is
    c.loop-record.invariant.there in
    let new = c.note.ensures ∙ ap (last_noted c.loop-record.self.last number) c.effects.ensures.effects in
    record {
      noted = ap (λ l. all_noted l (number + 1) rest) new ∙ ap (all_noted c.loop-record.self.last number) (sym is) ∙ c.loop-record.invariant.noted;
      inodes = c.loop-record.invariant.inodes;
      fits = omega (arith, c.loop-record.invariant.fits, ap length is);
      there = subst (λ l. HasAllNumbers l (all_effects rest)) (sym new) (has_others c.loop-record.self.last number r.effects (all_effects rest) all);
    }
