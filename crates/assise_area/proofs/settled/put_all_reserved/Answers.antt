use Rattle.assise_area.proofs.Common.{◌∙◌, ap, arith, sym, option_or, nat_cmp, spare, value_in}
use Rattle.std.specs.FinMap as map
use Rattle.assise_area.proofs.AllPut.{fewer, put_next, room_left, some_there}
use Rattle.assise_area.proofs.settled.put_all_reserved.Goals as goal

pub put_reserved-requires-clause-room : goal.put_reserved-requires-clause-room
put_reserved-requires-clause-room c =
    let some = some_there c.loop-inode.inodes c.in-Some.inode c.in-Some.content c.in-Some.ensures.there in
    omega (arith, some, c.loop-inode.invariant.room)

pub loop-inode-smaller : goal.loop-inode-smaller
loop-inode-smaller c = fewer c.loop-inode.inodes c.pop.new.self c.in-Some.inode c.in-Some.content c.in-Some.ensures.there c.in-Some.ensures.others

pub loop-inode-preserved : goal.loop-inode-preserved
loop-inode-preserved c =
    let all = c.loop-inode.inodes in
    let rest = c.pop.new.self in
    let k = c.in-Some.inode in
    let v = c.in-Some.content in
    let there = c.in-Some.ensures.there in
    let others = c.in-Some.ensures.others in
    let kept = c.loop-inode.invariant in
    let put = c.put_reserved.ensures in
    record {
      room = room_left all rest k v there others (spare c.loop-inode.cold) (spare c.put_reserved.new.cold) kept.room put.room;
      keys = put.keys ∙ kept.keys;
      cap = put.cap ∙ kept.cap;
      disjoint = put.disjoint;
      values = λ q. put_next all rest k v there others c.loop-inode.hot.entries c.loop-inode.cold.entries c.put_reserved.new.hot.entries
          c.put_reserved.new.cold.entries put.values q ∙ kept.values q;
    }

pub returns-clause-values : goal.returns-clause-values
returns-clause-values c = λ q.
    let none = ap (λ m. map.get m q) (sym c.in_default.ensures.same ∙ c.in_default.ensures.empty) ∙ map.get-empty nat_cmp q in
    sym (ap (λ o. option_or o (value_in c.loop-inode.hot.entries c.loop-inode.cold.entries q)) none) ∙ c.loop-inode.invariant.values q
