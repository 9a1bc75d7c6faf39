-- What happens to nodes comes from the start: node 2 fails, comes back, is filled and joins.
use Rattle.assise_model_events.proofs.Common.{◌≡◌, ◌≢◌, ℕ, suc, ◌-◌, ◌<◌, ◌==◌, inl, inr, false, true, List, [], ◌∷◌, Some, None, refl, ap, sym, subst, ◌∙◌}
use Rattle.assise_model_events.proofs.Common.{arith, cases_Bool, cases_eq, ne_eqb, same_Some, nat_cmp, Busy, LastNode, OutOfMemory, WrongPhase, Loss}
use Rattle.assise_model_events.proofs.Common.{all_effects, contains, touched, all_full, failed_members, back_members, is_returning, join_fault, stale_of}
use Rattle.assise_model_events.proofs.Common.{Membership, standing_of, never, Fails, kept_at_failure, World, end_of_log, records_between, same_stale}
use Rattle.assise_model_events.proofs.Common.{with_raised, began, fail, failed, back, joined, left, raise, raised, refused, MachineInvariant, Machine, Failing}
use Rattle.assise_model_events.proofs.Common.{IsRefilled, Joining, Raising, Refilling, Returning, count_of, stale_at, is_back, is_failed, is_failed_again}
use Rattle.assise_model_events.proofs.Common.{is_raised, is_refilled, is_whole, Comes, IsReached}
use Rattle.std.proofs.Math.Seq.{drop-nil, take-nil}
use Rattle.std.specs.FinSet as set
use Rattle.std.specs.Cmp.{nat_cmp_total}
use Rattle.assise_manager.specs.Standings.{full, down, returning, is_full}
use Rattle.assise_manager.proofs.Shared.Sets.{Numbers, same, union-empty}
use Rattle.assise_model_members.proofs.Shared.StaleInodes.{refilled_stale}
use Rattle.assise_manager.specs.declared.level.Level.TheVariants.{Plain}
use Rattle.assise_model_events.specs.MemberEvents.{is_refused, lacks_memory}
use Rattle.assise_model_events.proofs.NodeEventsPossible.{back_can, joined_can, refilled_can}
use Rattle.assise_model_events.proofs.Trace.{reaches, start, start_holds, start_reached}
use Rattle.assise_model_events.proofs.ReachedCreate.{HasFile, file_record, has_file}
use Rattle.assise_model_events.proofs.Shared.EachEvent.{event_keeps}
use Rattle.assise_model_events.proofs.Shared.Failable.{failed_can}

-- ---- node 2 is down

-- node 2 failed in its first epoch, while these inodes may not be everywhere
abbrev pub with_down : Numbers → Membership
with_down inodes = record { epoch = 2; nodes = full ∷ down 2 ∷ []; written = inodes ∷ []; levels = Plain ∷ Plain ∷ [] }

-- node 2 failed where both nodes were full
pub record IsDown (limit : ℕ) (m : Machine) (inodes : Numbers) (m' : Machine) : Type 0 where
  pub reached : IsReached limit m'
  pub holds : MachineInvariant m'
  pub members : m'.members ≡ with_down inodes
  -- the world whose logs are cut, and what its records touch
  pub cut : World
  pub fails : Fails m.world 2 cut
  pub touched_only : (i : ℕ) → set.contains inodes i ≡ true → (c : ℕ) × (contains (touched (all_effects (cut.records c))) i ≡ true)
  pub touched_all : (c i : ℕ) → contains (touched (all_effects (cut.records c))) i ≡ true → set.contains inodes i ≡ true

of_failing : (limit : ℕ) (m m' : Machine) (losses : List Loss) → IsReached limit m → MachineInvariant m → m.members ≡ all_full 2 →
    Failing m 2 (failed losses) m' → (inodes : Numbers) × IsDown limit m inodes m'
of_failing limit m m' losses r h is (is_refused why fault answer same) = cc
of_failing limit m m' losses r h is (lacks_memory fine answer same) = cc
of_failing limit m m' losses r h is (is_failed_again fine answer e) = grind (arith, is_returning, standing_of, never)
of_failing limit m m' losses r h is (is_failed fine answer e) = (
  e.inodes,
  record {
    reached = reaches limit m m' (fail 2) (failed losses) r (is_failed fine answer e);
    holds = event_keeps m m' (fail 2) (failed losses) h (is_failed fine answer e);
    members = e.failure.members ∙ ap (λ o. failed_members o 2 e.inodes) is;
    cut = e.cut;
    fails = e.failure.fails;
    touched_only = e.failure.touched_only;
    touched_all = e.failure.touched_all;
  },
)

pub falls : (limit : ℕ) (m : Machine) → IsReached limit m → MachineInvariant m → m.members ≡ all_full 2 →
    (m' : Machine) × ((inodes : Numbers) × IsDown limit m inodes m')
falls limit m r h is = (let (m', (losses, e)) = failed_can m 2 h (rw is refl) in (m', of_failing limit m m' losses r h is e))

-- ---- it comes back

-- node 2 comes back, and may lack these inodes
pub record IsReturning (limit : ℕ) (stale : Numbers) (m : Machine) : Type 0 where
  pub reached : IsReached limit m
  pub holds : MachineInvariant m
  pub nodes : m.members.nodes ≡ full ∷ returning 2 1 stale ∷ []

of_returning : (limit : ℕ) (m m' : Machine) (inodes : Numbers) (count : ℕ) → IsReached limit m → MachineInvariant m → m.members ≡ with_down inodes →
    Returning m 2 (began count) m' → IsReturning limit inodes m'
of_returning limit m m' inodes count r h is (is_refused why fault answer same) = cc
of_returning limit m m' inodes count r h is (lacks_memory fine answer same) = cc
of_returning limit m m' inodes count r h is (is_back fine answer e) = grind (
  arith,
  reaches limit m m' (back 2) (began count) r (is_back fine answer e),
  event_keeps m m' (back 2) (began count) h (is_back fine answer e),
  back_members,
  full,
  returning,
  union-empty inodes,
)

lacks_so_many : (limit : ℕ) (stale : Numbers) (m : Machine) → IsReturning limit stale m → stale_at m.members 2 ≡ set.len stale
lacks_so_many limit stale m b = ap (λ ns. count_of (stale_of (standing_of ns 2))) b.nodes

pub comes_back : (limit : ℕ) (m : Machine) (inodes : Numbers) → IsReached limit m → MachineInvariant m → m.members ≡ with_down inodes →
    (m' : Machine) × (IsReturning limit inodes m' × Returning m 2 (began (set.len inodes)) m')
comes_back limit m inodes r h is =
    let (m', e) = back_can m 2 h (rw is refl) in
    let b : IsReturning limit inodes m' = of_returning limit m m' inodes (stale_at m'.members 2) r h is e in
    (m', (b, subst (λ count. Returning m 2 (began count) m') (lacks_so_many limit inodes m' b) e))

-- ---- where nothing was written, it lacks nothing

no_records : (m : Machine) (inodes : Numbers) (d : IsDown 0 (start 0) inodes m) (c : ℕ) → d.cut.records c ≡ []
unfolding records_between
no_records m inodes d c = grind (arith, kept_at_failure, start, drop-nil, take-nil)

-- no record touches an inode
none_touched : (m : Machine) (inodes : Numbers) → IsDown 0 (start 0) inodes m → inodes ≡ set.empty
none_touched m inodes d = same inodes set.empty (λ i. elim (cases_Bool (set.contains inodes i)) [
  | inl there ↦ (let (c, touches) = d.touched_only i there in
      never (sym (ap (λ rs. contains (touched (all_effects rs)) i) (no_records m inodes d c)) ∙ touches))
  | inr none ↦ none ∙ sym (set.contains-empty nat_cmp i)
])

down_at_start : (m : Machine) × IsDown 0 (start 0) set.empty m
down_at_start = grind (arith, falls 0 (start 0) (start_reached 0) (start_holds 0) refl, none_touched)

back_at_start : (m : Machine) × IsReturning 0 set.empty m
back_at_start =
    let (m, d) = down_at_start in
    let (m', both) = comes_back 0 m set.empty d.reached d.holds d.members in
    (m', both.0)

-- ---- what comes at the start

pub not_failed_for_memory_comes : Comes (λ m m'. Failing m 1 (refused OutOfMemory) m')
not_failed_for_memory_comes = record { limit = 0; before = start 0; reached = start_reached 0; after = start 0; outcome = lacks_memory refl refl refl }

pub not_back_comes : Comes (λ m m'. Returning m 2 (refused WrongPhase) m')
not_back_comes = record { limit = 0; before = start 0; reached = start_reached 0; after = start 0; outcome = is_refused WrongPhase refl refl refl }

pub not_refilled_comes : Comes (λ m m'. Refilling m 2 (refused WrongPhase) m')
not_refilled_comes = record { limit = 0; before = start 0; reached = start_reached 0; after = start 0; outcome = is_refused WrongPhase refl refl refl }

-- ---- what comes once node 2 is down

pub not_failed_comes : Comes (λ m m'. Failing m 1 (refused LastNode) m')
not_failed_comes = (let (m, d) = down_at_start in
    record { limit = 0; before = m; reached = d.reached; after = m; outcome = is_refused LastNode (rw d.members refl) refl refl })

pub not_back_for_memory_comes : Comes (λ m m'. Returning m 2 (refused OutOfMemory) m')
not_back_for_memory_comes = grind (arith, down_at_start, lacks_memory)

-- ---- what comes once it is back

not_full : (limit : ℕ) (stale : Numbers) (m : Machine) → IsReturning limit stale m → standing_of m.members.nodes 2 ≢ Some full
not_full limit stale m b at = never (ap is_full (same_Some (returning 2 1 stale) full (sym (ap (λ ns. standing_of ns 2) b.nodes) ∙ at)))

may_join : (m : Machine) → IsReturning 0 set.empty m → join_fault m.members 2 ≡ None
may_join m b = rw (b.nodes, set.len-empty nat_cmp) refl

fails_again : (limit : ℕ) (stale : Numbers) (m m' : Machine) (losses : List Loss) → IsReturning limit stale m → Failing m 2 (failed losses) m' →
    Failing m 2 (failed []) m'
fails_again limit stale m m' losses b h = grind (arith, not_full)

pub failed_again_comes : Comes (λ m m'. (standing_of m.members.nodes 2 ≢ Some full) × Failing m 2 (failed []) m')
failed_again_comes =
    let (m, b) = back_at_start in
    let (m', (losses, e)) = failed_can m 2 b.holds (rw b.nodes refl) in
    record { limit = 0; before = m; reached = b.reached; after = m'; outcome = (not_full 0 set.empty m b, fails_again 0 set.empty m m' losses b e) }

pub whole_comes : Comes (λ m m'. (stale_at m.members 2 ≡ 0) × Refilling m 2 (left 0) m')
whole_comes = grind (arith, back_at_start, stale_at, lacks_so_many, set.len-empty, nat_cmp, is_whole)

pub joined_comes : Comes (λ m m'. Joining m 2 joined m')
joined_comes =
    let (m, b) = back_at_start in
    let (m', e) = joined_can m 2 b.holds (may_join m b) in
    record { limit = 0; before = m; reached = b.reached; after = m'; outcome = e }

pub not_joined_for_memory_comes : Comes (λ m m'. Joining m 2 (refused OutOfMemory) m')
not_joined_for_memory_comes = grind (arith, back_at_start, lacks_memory, may_join)

-- ---- node 1 is raised

abbrev raised_start : Machine
raised_start = record {
  limit = (start 0).limit;
  hot = (start 0).hot;
  history = (start 0).history;
  world = (start 0).world;
  leases = (start 0).leases;
  members = with_raised (start 0).members 1;
}

raising_start : Raising (start 0) 1 raised raised_start
raising_start = is_raised refl refl (record { members = refl; world = refl; leases = refl; adds = record { history = refl; limit = refl; hot = refl } })

pub raised_comes : Comes (λ m m'. Raising m 1 raised m')
raised_comes = record { limit = 0; before = start 0; reached = start_reached 0; after = raised_start; outcome = raising_start }

pub not_raised_comes : Comes (λ m m'. Raising m 1 (refused WrongPhase) m')
not_raised_comes = record {
  limit = 0;
  before = raised_start;
  reached = reaches 0 (start 0) raised_start (raise 1) raised (start_reached 0) raising_start;
  after = raised_start;
  outcome = is_refused WrongPhase refl refl refl;
}

-- ---- where a file was made, it lacks the root

-- the record of the file is kept where node 2 fails
kept_record : (m m' : Machine) (inodes : Numbers) (f : HasFile 1 m) (d : IsDown 1 m inodes m') → d.cut.records 1 ≡ file_record ∷ []
unfolding records_between kept_at_failure end_of_log
kept_record m m' inodes f d = d.fails.records 1 ∙ rw (f.lives, f.home, f.first, f.records) refl

root_listed : (m m' : Machine) (inodes : Numbers) → HasFile 1 m → IsDown 1 m inodes m' → set.contains inodes 0 ≡ true
root_listed m m' inodes f d = d.touched_all 1 0 (ap (λ rs. contains (touched (all_effects rs)) 0) (kept_record m m' inodes f d))

at_least_one : (inodes : Numbers) → set.contains inodes 0 ≡ true → 0 < set.len inodes
at_least_one inodes there = grind (arith, cases_eq, never, set.contains-empty, nat_cmp, set.empty_of_len)

-- node 2 failed once a file was made, and came back
record IsBackWithFile (m : Machine) : Type 0 where
  stale : Numbers
  -- it lacks an inode
  some : 0 < set.len stale
  state : IsReturning 1 stale m
  -- the state in which it was down, from which it came back
  before : Machine
  before_reached : IsReached 1 before
  came : Returning before 2 (began (set.len stale)) m

back_with_file : (m : Machine) × IsBackWithFile m
back_with_file =
    let (m, f) = has_file 1 (omega arith) in
    let (v, (inodes, d)) = falls 1 m f.reached f.holds f.members in
    let (m', (b, e)) = comes_back 1 v inodes d.reached d.holds d.members in
    (m', record { stale = inodes; some = at_least_one inodes (root_listed m v inodes f d); state = b; before = v; before_reached = d.reached; came = e })

one_less : (k : ℕ) → 0 < k → k ≡ suc (k - 1)
one_less k some = omega (arith, some)

pub back_comes : (stale : ℕ) × Comes (λ m m'. Returning m 2 (began (suc stale)) m')
back_comes =
    let (m, b) = back_with_file in (
    grind (arith, began, one_less (set.len b.stale) b.some)
    )

pub busy_comes : Comes (λ m m'. Joining m 2 (refused Busy) m')
busy_comes =
    let (m, b) = back_with_file in
    let lacks : (set.len b.stale == 0) ≡ false = ne_eqb (set.len b.stale) 0 (λ none. (let some = b.some in omega (arith, none, some))) in
    record { limit = 1; before = m; reached = b.state.reached; after = m; outcome = is_refused Busy (rw (b.state.nodes, lacks) refl) refl refl }

-- ---- it gets an inode

-- the lowest that it lacked is no longer listed
left_less : (limit : ℕ) (stale : Numbers) (m m' : Machine) → IsReturning limit stale m → IsRefilled m 2 m' → stale_at m'.members 2 ≡ set.len stale - 1
left_less limit stale m m' b e = grind (arith, standing_of, returning, same_stale, refilled_stale, count_of, stale_of, set.len-remove, nat_cmp_total)

gets_one : (limit : ℕ) (stale : Numbers) (m m' : Machine) (count : ℕ) → IsReturning limit stale m → 0 < set.len stale → Refilling m 2 (left count) m' →
    Refilling m 2 (left (set.len stale - 1)) m'
gets_one limit stale m m' count b some (is_refused why fault answer same) = cc
gets_one limit stale m m' count b some (lacks_memory fine lacks answer same) = cc
gets_one limit stale m m' count b some (is_whole fine none answer same) = grind (arith, stale_at, lacks_so_many)
gets_one limit stale m m' count b some (is_refilled fine answer e) = is_refilled fine (ap left (sym (left_less limit stale m m' b e))) e

pub refilled_comes : (stale : ℕ) × Comes (λ m m'. (stale_at m.members 2 ≡ suc stale) × Refilling m 2 (left stale) m')
refilled_comes =
    let (m, b) = back_with_file in
    let lacks : stale_at m.members 2 ≡ set.len b.stale = lacks_so_many 1 b.stale m b.state in
    let (m', e) = refilled_can m 2 b.state.holds (rw b.state.nodes refl) (subst (λ k. 0 < k) (sym lacks) b.some) in (
    grind (arith, one_less (set.len b.stale) b.some, gets_one 1 b.stale m m' (stale_at m'.members 2) b.state b.some e)
    )

pub not_refilled_for_memory_comes : Comes (λ m m'. Refilling m 2 (refused OutOfMemory) m')
not_refilled_for_memory_comes = grind (arith, back_with_file, stale_at, lacks_so_many, lacks_memory)
