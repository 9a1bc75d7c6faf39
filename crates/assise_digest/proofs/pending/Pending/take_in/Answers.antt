use Rattle.assise_digest.proofs.Common.{sym, subst, HasAllNumbers}
use Rattle.assise_digest.proofs.KeptInodes.{all_held_has}
use Rattle.assise_digest.proofs.pending.Pending.take_in.Goals as goal

pub note-requires : goal.note-requires
note-requires c =
    record {
      there = subst (λ l. HasAllNumbers l c.args.effects.now) (sym c.in_default.ensures.ok_last)
          (all_held_has c.args.self.now c.args.area.now.inodes c.args.number c.args.effects.now);
    }
