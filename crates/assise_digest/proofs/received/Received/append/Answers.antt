use Rattle.assise_digest.proofs.Common.{◌≡◌, ◌<◌, ◌∙◌, IsOk, OnOk, Result, Ok, Err, length, ap, sym, subst, arith, true≢false, HasOpenGroup, with_grouped}
use Rattle.assise_digest.proofs.Common.{LogInvariant}
use Rattle.assise_digest.proofs.ReceivedLogs.{sound_more}
use Rattle.assise_digest.proofs.received.Received.append.Goals as goal

from_ok : {T E A : Type 0} (r : Result T E) → IsOk r → OnOk r A → A
from_ok (Ok x) i a = a
from_ok (Err e) i a = absurd (true≢false (sym i))

pub append_grouped-requires-clause-open_group : goal.append_grouped-requires-clause-open_group
append_grouped-requires-clause-open_group c joins = subst HasOpenGroup (sym c.keep.ensures.log) (c.requires.open_group joins)

pub returns-clause-sound : goal.returns-clause-sound
returns-clause-sound c =
    let x = c.args.self.now in
    let k = c.keep.new.self in
    let m = c.args.area.now.inodes in
    let room : length k.log.records < k.log.limit = subst (λ l. length l.records < l.limit) (sym c.keep.ensures.log)
    (omega (arith, c.spare.ensures, c.if-spare-eq0.false)) in
    let appended : c.append_grouped.new.self ≡ with_grouped x.log c.args.added c.args.begins = from_ok c.append_grouped.result
    (c.append_grouped.ensures.room.1 room) c.append_grouped.ensures.ok ∙ ap (λ l. with_grouped l c.args.added c.args.begins) c.keep.ensures.log in
    subst (LogInvariant m)
    (sym (ap (λ l. record { log = l; digested = k.digested; pending = k.pending }) appended
    ∙ ap (λ d. record { log = with_grouped x.log c.args.added c.args.begins; digested = d; pending = k.pending }) c.keep.ensures.digested))
    (sound_more m x c.args.added c.args.begins k.pending c.requires.sound c.requires.whole c.in_default.ensures.kept)
