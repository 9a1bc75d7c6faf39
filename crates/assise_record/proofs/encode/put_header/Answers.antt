use Rattle.assise_record.proofs.Common.{List, ℕ, ◌∷◌, length, ap, subst, header_of, Appends}
use Rattle.assise_record.proofs.RoomLaws.{Appends-then, header_is}
use Rattle.assise_record.proofs.encode.put_header.Goals as goal

pub returns : goal.returns
returns c =
    let size = Appends-then _ _ _ _ _ c.put_u16.ensures c.put_u32-2.ensures in
    let first = Appends-then _ _ _ _ _ c.put_u64-2.ensures size in
    let client = Appends-then _ _ _ _ _ c.put_u32.ensures first in
    let epoch = Appends-then _ _ _ _ _ c.put_u64.ensures client in
    let whole = Appends-then _ _ _ _ _ c.put.ensures epoch in
    let fields = header_is c.args.frame.now _ _ _ _ c.args.size c.epoch.ensures c.client.ensures.client c.first.ensures.first
    (ap length c.records.ensures.records) in
    let numbers = subst (λ (t : List ℕ). Appends c.args.out.now c.put_u32-2.new.out (65 ∷ 83 ∷ c.version.result ∷ t)) fields whole in
    subst (λ (n : ℕ). Appends c.args.out.now c.put_u32-2.new.out (65 ∷ 83 ∷ n ∷ header_of c.args.frame.now c.args.size)) c.version.ensures.version numbers
