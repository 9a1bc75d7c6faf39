-- What a failure leaves at the other full nodes.
use Rattle.assise_machine.proofs.Common.{◌≡◌, ◌≢◌, ℕ, ◌-◌, ◌≤◌, Some, true, take, length, List, ap, sym, ◌∙◌, arith, and_parts, cases_Bool, eqb-true, drop-take}
use Rattle.assise_machine.proofs.Common.{length-take, take_all, Loss, donor_of, is_returning, full, standing_of, kept_at_failure, WorldInvariant, World, Full}
use Rattle.assise_machine.proofs.Common.{undigested_records, undigested_below, end_of_log, records_between, kept_low, Answer, failed, MachineInvariant, Machine}
use Rattle.assise_machine.proofs.Common.{Failing, IsFailed, full_after}
use Rattle.assise_model_world.proofs.Shared.Views.{ahead_between}
use Rattle.assise_model_events.specs.MemberEvents as member
use Rattle.assise_machine.proofs.Others.{dropped_ahead, leaves_all, leaves_nodes}

-- ---- areas

no_donor : (m : Machine) (n : ℕ) → standing_of m.members.nodes n ≡ Some full → donor_of (standing_of m.members.nodes n) ≢ Some n
no_donor m n is there = (let none = ap donor_of is in cc)

-- other full nodes are full in the world whose logs were cut, and when it is listed what still stands there
cut_full : (m m' : Machine) (n j : ℕ) (e : IsFailed m n m') → Full m.world j → j ≢ n → Full e.refreshed j
cut_full m m' n j e there other = full_after e.cut e.refreshed j e.failure.rests.nodes.full (e.failure.fails.others j there other)

failed_area : (m m' : Machine) (n j i : ℕ) → IsFailed m n m' → Full m.world j → m'.world.area j i ≡ m.world.area j i
failed_area m m' n j i e there = grind arith

pub failing_area : (m m' : Machine) (n : ℕ) (a : Answer) → Failing m n a m' → (j i : ℕ) → Full m.world j → m'.world.area j i ≡ m.world.area j i
failing_area m m' n a s j i there = grind (arith, failed_area, leaves_all)

-- ---- records that are not digested

-- what is kept of a log, from what was digested on
prefix_ahead : (w v : World) (j c k : ℕ) → v.digested j c ≡ w.digested j c → v.first c ≡ w.first c → v.log j c ≡ take (k - w.first c) (w.log j c) →
    w.first c ≤ w.digested j c → w.digested j c ≤ k →
    undigested_records v j c ≡ undigested_below w j c k
unfolding undigested_records undigested_below
prefix_ahead w v j c k digested first log begun kept = grind (arith, drop-take (w.digested j c - w.first c) (k - w.digested j c) (w.log j c))

failed_ahead : (m m' : Machine) (n j c : ℕ) → WorldInvariant m.world → IsFailed m n m' → Full m.world j → j ≢ n → undigested_records m'.world j c
    ≡ undigested_below m.world j c (kept_at_failure m.world n c)
failed_ahead m m' n j c s e there other =
    let order = s.coherent.order j c there in
    let kept = kept_low m.world n c in
    let cut = e.failure.fails.others j there other in
    let still = cut_full m m' n j e there other in
    let node = e.failure.rests.nodes.same j cut in
    let first = e.failure.rests.logs.first c ∙ e.failure.fails.first c in
    let digested = node.digested c ∙ e.failure.fails.digested j c cut in
    dropped_ahead e.refreshed m'.world j c e.drops still
    ∙ prefix_ahead m.world e.refreshed j c (kept_at_failure m.world n c) digested first (node.log c ∙ e.failure.fails.log j c cut)
    order.begun (omega (arith, order.replicated, kept))

-- ---- clients that live elsewhere

short : (w : World) (j c : ℕ) → WorldInvariant w → Full w j → length (undigested_records w j c) ≤ end_of_log w c - w.digested j c
unfolding records_between
short w j c s there = grind (arith, ahead_between, length-take)

-- a full node has nothing past the end of a client's log
ahead_to_end : (w : World) (j c : ℕ) → WorldInvariant w → Full w j → undigested_below w j c (end_of_log w c) ≡ undigested_records w j c
unfolding undigested_below
ahead_to_end w j c s there = grind (arith, take_all, short)

kept_whole : (w : World) (n c : ℕ) → (w.lives c ≡ true → w.home c ≢ n) → kept_at_failure w n c ≡ end_of_log w c
unfolding kept_at_failure
kept_whole w n c away = grind (arith, cases_Bool, and_parts, eqb-true)

kept_ahead : (w : World) (n j c : ℕ) → WorldInvariant w → Full w j → (w.lives c ≡ true → w.home c ≢ n) → undigested_below w j c (kept_at_failure w n c)
    ≡ undigested_records w j c
kept_ahead w n j c s there away = ap (undigested_below w j c) (kept_whole w n c away) ∙ ahead_to_end w j c s there

-- ---- a failure

-- nobody lives at a node that comes back
nobody_there : (m : Machine) (n c : ℕ) → MachineInvariant m → is_returning (standing_of m.members.nodes n) ≡ true → m.world.lives c ≡ true → m.world.home c ≢ n
nobody_there m n c h returns lives home = grind arith

pub failing_ahead : (m m' : Machine) (n : ℕ) (losses : List Loss) → MachineInvariant m → Failing m n (failed losses) m' → (j c : ℕ) → Full m.world j → j ≢ n →
    undigested_records m'.world j c ≡ undigested_below m.world j c (kept_at_failure m.world n c)
failing_ahead m m' n losses h (member.is_failed fine is e) j c there other = failed_ahead m m' n j c h.sound e there other
failing_ahead m m' n losses h (member.is_failed_again fine is e) j c there other =
    (leaves_nodes m.world m'.world j e.failure.rests.logs e.failure.rests.nodes there).ahead c
    ∙ sym (kept_ahead m.world n j c h.sound there (nobody_there m n c h e.failure.was_returning))
failing_ahead m m' n losses h (member.lacks_memory fine is same) j c there other = cc
failing_ahead m m' n losses h (member.is_refused r fault is same) j c there other = cc

pub failing_elsewhere : (m m' : Machine) (n : ℕ) (a : Answer) → MachineInvariant m → Failing m n a m' → (j c : ℕ) → Full m.world j → j ≢ n →
    m.world.home c ≢ n →
    undigested_records m'.world j c ≡ undigested_records m.world j c
failing_elsewhere m m' n a h (member.is_failed fine is e) j c there other away = grind (arith, failed_ahead m m' n j c h.sound e there other, kept_ahead)
failing_elsewhere m m' n a h (member.is_failed_again fine is e) j c there other away =
    (leaves_nodes m.world m'.world j e.failure.rests.logs e.failure.rests.nodes there).ahead c
failing_elsewhere m m' n a h (member.lacks_memory fine is same) j c there other away = (leaves_all m m' j same).ahead c
failing_elsewhere m m' n a h (member.is_refused r fault is same) j c there other away = (leaves_all m m' j same).ahead c
