-- Failures and returns keep what the history says of the state.
use Rattle.assise_model_history.proofs.Common.{◌≡◌, ◌≢◌, ℕ, zero, suc, ◌+◌, ◌-◌, ◌<◌, ◌≤◌, Bool, true, false, not, ◌&&◌, nat_le, ◌==◌, List, [], ◌∷◌, ◌++◌}
use Rattle.assise_model_history.proofs.Common.{filter, length, Contains, refl, ap, sym, subst, ◌∙◌, inl, inr, arith, eq-eqb, ne_eqb, list_any, cases_Bool}
use Rattle.assise_model_history.proofs.Common.{cases_eq, cases_lt, and_parts, and_from, ltb-true, ltb-false, leb-true, le-leb, false_from_ne_true, or_left}
use Rattle.assise_model_history.proofs.Common.{or_right, Contains-append_cases, Loss, fails, returns, loses, IsDown, IsFair, IsOn, IsPastSyncs, is_failure_of}
use Rattle.assise_model_history.proofs.Common.{legal-failure, legal-return, Passes, passes_from, not_nil, down-failed, down-push, down-last, Ascending, call_of}
use Rattle.assise_model_history.proofs.Common.{NumberedCall, below, Fails, kept_at_failure, fails_node, joins_node, rests_all, Counted, WorldInvariant, World}
use Rattle.assise_model_history.proofs.Common.{Full, IsClient, end_of_log, received_by_all, first_unreplicated, call_at, call_at-mono, call_at-end}
use Rattle.assise_model_history.proofs.Common.{first-received_by_all, step_sound, step_falls, IsFailure, IsFailureAgain, IsReturn, losses_of, IsFirstLost}
use Rattle.assise_model_history.proofs.Common.{plain_call, kept_numbered, State, WasOpened, IsRecorded}
use Rattle.std.proofs.lemmas.Bool.{eqb-true}
use Rattle.assise_inode_table.proofs.Shared.PairwiseLists.{each-map}
use Rattle.assise_record.specs.LogRecord.{LogRecord}
use Rattle.assise_model_world.proofs.Shared.FailureKeeps.{kept_low}
use Rattle.assise_model_world.proofs.Shared.Logs.{at_top}
use Rattle.assise_model_history.proofs.OneEntryMore.{AreUp, or_false, and_true, opened_more, opened_aside, full_moves}
use Rattle.assise_model_history.proofs.Shared.FailureList.{one_in, in_midst, first_loss, IsLossTo, listed_to, is_loss, losses_ascend, exactly_lost}
use Rattle.assise_model_history.proofs.Shared.NumberedCalls.{filter_like, kept_fail, kept_fail_none, kept_return}
use Rattle.assise_model_history.proofs.Shared.RecordKeeps.{same_run, counts_of, no_failure, recorded_aside}

-- ---- the calls that are listed are those that are cut

-- the threshold of a client's calls
abbrev cut_call : World → ℕ → ℕ → ℕ
cut_call w n c = call_at w c (kept_at_failure w n c)

abbrev takes : NumberedCall → Loss → Bool
takes x l = (l.client == x.client) && nat_le l.first x.number

-- a call below its client's threshold isn't listed
not_taken : (w : World) (n : ℕ) (x : NumberedCall) → x.number < cut_call w n x.client → loses (losses_of w n) (plain_call x) ≡ false
not_taken w n x low = false_from_ne_true (loses (losses_of w n) (plain_call x)) (λ lost.
    let p : Passes (takes x) (losses_of w n) = passes_from (takes x) (losses_of w n) lost in
    let parts = and_parts (p.item.client == x.client) (nat_le p.item.first x.number) p.holds in
    let own : p.item.client ≡ x.client = eqb-true p.item.client x.client parts.0 in
    let listed : IsLossTo w n w.clients p.item = listed_to w n w.clients p.item (in_midst (losses_of w n) p.before p.behind p.item p.split) in
    let first : p.item.first ≡ cut_call w n x.client = listed.first ∙ ap (cut_call w n) own in
    let from : p.item.first ≤ x.number = leb-true p.item.first x.number parts.1 in
    omega (arith, low, first, from))

-- what an element of a list says
any_of : {X : Type 0} (p : X → Bool) (xs : List X) (x : X) → Contains xs x → p x ≡ true → list_any p xs ≡ true
any_of p [] x h passes = absurd (omega (arith, h.1))
any_of p (y ∷ ys) x h passes =
    elim (Contains-append_cases (y ∷ []) ys x h) [
      | inl here ↦ or_left (p y) (list_any p ys) (ap p (one_in y x here) ∙ passes)
      | inr there ↦ or_right (p y) (list_any p ys) (any_of p ys x there passes)
    ]

-- and one from there on is
is_taken : (w : World) (n : ℕ) (x : NumberedCall) → IsClient w x.client → x.number < w.next x.client → cut_call w n x.client ≤ x.number →
    loses (losses_of w n) (plain_call x) ≡ true
is_taken w n x client few from =
    let c : ℕ = x.client in
    elim (cases_lt (kept_at_failure w n c) (end_of_log w c)) [
      | inl some ↦
          let listed : Contains (losses_of w n) (first_loss w n c) = grind (arith, is_loss) in
          any_of (takes x) (losses_of w n) (first_loss w n c) listed
          (and_from (c == c) (nat_le (cut_call w n c) x.number) (eq-eqb c c refl) (le-leb (cut_call w n c) x.number from))
      | inr none ↦
          grind (arith, call_at-end)
    ]

same_test : (w : World) (n : ℕ) (x : NumberedCall) → IsClient w x.client → x.number < w.next x.client →
    below (cut_call w n) x ≡ not (loses (losses_of w n) (plain_call x))
same_test w n x client few = grind (arith, cases_Bool, not_taken, ltb-true, is_taken, ltb-false)

same_filter : (w : World) (n : ℕ) → WorldInvariant w → filter (below (cut_call w n)) w.calls ≡ filter (λ x. not (loses (losses_of w n) (plain_call x))) w.calls
unfolding Counted
same_filter w n s = grind (arith, filter_like, each-map, same_test)

pub failure_takes : (w w' : World) (n : ℕ) → WorldInvariant w → Fails w n w' → w'.calls ≡ filter (λ x. not (loses (losses_of w n) (plain_call x))) w.calls
failure_takes w w' n s e = e.calls ∙ same_filter w n s

-- so what is left are the kept calls
failure_calls : (s : State) (n : ℕ) (s' : State) → WorldInvariant s.world → IsRecorded s → IsFailure s n s' →
    s'.world.calls ≡ kept_numbered (s.history ++ fails n (losses_of s.world n) ∷ [])
failure_calls s n s' sound r e =
    failure_takes s.world s'.world n sound e.world ∙ ap (λ xs. filter (λ x. not (loses (losses_of s.world n) (plain_call x))) xs) r.calls
    ∙ sym (kept_fail s.history n (losses_of s.world n))

-- a call that is listed was answered
call_inside : (rs : List LogRecord) (k d : ℕ) → Ascending rs d → k < length rs → call_of rs k d < d
call_inside [] k d h few = absurd (omega (arith, few))
call_inside (r ∷ rs) zero d h few = (let low : r.call < call_of rs 0 d = h.0 in let top : call_of rs 0 d ≤ d = at_top rs 0 d h.1 in omega (arith, low, top))
call_inside (r ∷ rs) (suc k) d h few = call_inside rs k d h.1 (omega (arith, few))

pub loss_answered : (w : World) (n : ℕ) (l : Loss) → WorldInvariant w → Contains (losses_of w n) l → l.first < w.next l.client
unfolding call_at end_of_log
loss_answered w n l s h = grind (arith, listed_to w n w.clients l h, first-received_by_all, kept_low, call_inside)

-- ---- the failure is fair

pub past_syncs : (s : State) (n : ℕ) (l : Loss) → WorldInvariant s.world → IsRecorded s → Contains (losses_of s.world n) l → IsPastSyncs s.history l
unfolding first_unreplicated
past_syncs s n l sound r h before since x split client sync =
    let c : ℕ = l.client in
    let o : IsLossTo s.world n s.world.clients l = listed_to s.world n s.world.clients l h in
    let low : x.number < call_at s.world c (received_by_all s.world c) = r.synced c before since x split client sync in
    let up : call_at s.world c (received_by_all s.world c) ≤ call_at s.world c (kept_at_failure s.world n c) =
    grind (arith, call_at-mono, kept_low) in
    let first : l.first ≡ call_at s.world c (kept_at_failure s.world n c) = o.first in
    omega (arith, low, up, first)

was_on : (s : State) (n : ℕ) (l : Loss) → WorldInvariant s.world → IsRecorded s → Contains (losses_of s.world n) l → IsOn s.history l.client n
was_on s n l sound r h =
    let f : IsFirstLost s.world n l = (exactly_lost s.world n l sound).0 h in
    let was : WasOpened s.history s.world l.client = r.opened l.client (sound.opened l.client f.lives) in
    let o = was.opened in
    record {
      opened = grind arith;
      no_failure = subst (λ m. list_any (is_failure_of m) o.since ≡ false) f.home (no_failure s l.client was f.lives);
    }

pub failure_fits : (s : State) (n : ℕ) → WorldInvariant s.world → IsRecorded s → IsFair s.history n (losses_of s.world n)
failure_fits s n sound r = record {
  ascending = losses_ascend s.world n;
  each = λ lower higher l split.
      let h : Contains (losses_of s.world n) l = in_midst (losses_of s.world n) lower higher l split in
      record { on = was_on s n l sound r h; past = past_syncs s n l sound r h };
}

-- ---- a failure of a full node

and_false : (b : Bool) → (b && false) ≡ false
and_false true = refl
and_false false = refl

failure_opened : (s : State) (n : ℕ) (s' : State) → IsRecorded s → IsFailure s n s' → (c : ℕ) → IsClient s.world c →
    WasOpened (s.history ++ fails n (losses_of s.world n) ∷ []) s'.world c
failure_opened s n s' r e c client =
    opened_more s.history (fails n (losses_of s.world n)) s.world s'.world c (e.world.home c) (e.world.crashed c ∙ sym (or_false (s.world.crashed c))) lives
    (r.opened c client)
  where
    lives : s'.world.lives c ≡ (s.world.lives c && not (s.world.home c == n))
    lives = elim (cases_eq (s.world.home c) n) [
      | inl there ↦ e.world.lives_there c there ∙ rw (eq-eqb (s.world.home c) n there) (sym (and_false (s.world.lives c)))
      | inr other ↦ e.world.lives_else c other ∙ rw (ne_eqb (s.world.home c) n other) (sym (and_true (s.world.lives c)))
    ]

failure_nodes : (s : State) (n : ℕ) (s' : State) → IsRecorded s → IsFailure s n s' → AreUp s.nodes (s.history ++ fails n (losses_of s.world n) ∷ []) s'.world
failure_nodes s n s' r e = record {
  nodes = λ m full. r.nodes m (e.world.only m full);
  up = λ m full down. elim (down-last s.history (fails n (losses_of s.world n)) m down) [
    | inl last ↦
        grind arith
    | inr before ↦ r.up m (e.world.only m full) before.0
  ];
  down = λ m node absent. elim (cases_eq m n) [
    | inl same ↦ subst (λ k. IsDown (s.history ++ fails n (losses_of s.world n) ∷ []) k) (sym same) (down-failed s.history n (losses_of s.world n))
    | inr other ↦ down-push s.history (fails n (losses_of s.world n)) m (r.down m node (λ full. absent (e.world.others m full other))) refl
  ];
}

pub failure_recorded : (s : State) (n : ℕ) (s' : State) → WorldInvariant s.world → IsRecorded s → IsFailure s n s' → IsRecorded s'
failure_recorded s n s' sound r e = grind (
  arith,
  failure_calls s n s' sound r e,
  same_run,
  step_sound s.world s'.world sound (fails_node n e.world),
  recorded_aside,
  legal-failure,
  failure_fits s n sound r,
  failure_opened s n s' r e,
  step_falls s.world s'.world sound (fails_node n e.world),
  failure_nodes s n s' r e,
)

-- ---- a failure of a node that isn't full

pub nothing_fair : (s : State) (n : ℕ) → IsFair s.history n []
nothing_fair s n = search (absurd, not_nil, arith) parts 3

again_opened : (s : State) (n : ℕ) (s' : State) → WorldInvariant s.world → IsRecorded s → IsFailureAgain s n s' → (c : ℕ) → IsClient s.world c →
    WasOpened (s.history ++ fails n [] ∷ []) s'.world c
again_opened s n s' sound r e c client =
    opened_more s.history (fails n []) s.world s'.world c (e.world.clients.home c) (e.world.clients.crashed c ∙ sym (or_false (s.world.crashed c)))
    (e.world.clients.lives c ∙ lives) (r.opened c client)
  where
    -- a client that lives there would have a full home
    lives : s.world.lives c ≡ (s.world.lives c && not (s.world.home c == n))
    lives = elim (cases_Bool (s.world.lives c)) [
      | inl is ↦
          let other : (s.world.home c == n) ≡ false = ne_eqb (s.world.home c) n (λ there. e.absent (subst (λ k. Full s.world k) there (sound.homes c is))) in
          rw (is, other) refl
      | inr isnt ↦ rw isnt refl
    ]

again_nodes : (s : State) (n : ℕ) (s' : State) → IsRecorded s → IsFailureAgain s n s' → AreUp s.nodes (s.history ++ fails n [] ∷ []) s'.world
again_nodes s n s' r e = grind (arith, full_moves, down-last, down-push)

pub failure_again_recorded : (s : State) (n : ℕ) (s' : State) → WorldInvariant s.world → IsRecorded s → IsFailureAgain s n s' → IsRecorded s'
failure_again_recorded s n s' sound r e =
    let left = same_run s.world (s.history ++ fails n [] ∷ []) sound (r.calls ∙ sym (kept_fail_none s.history n)) in
    recorded_aside s (fails n []) s' tt r e.adds (legal-failure s.history n [] r.legal (nothing_fair s n) left)
    (e.world.logs.calls ∙ r.calls ∙ sym (kept_fail_none s.history n)) (counts_of s.world s'.world e.world.logs e.world.clients.clients)
    (again_opened s n s' sound r e)
    (step_falls s.world s'.world sound (rests_all e.world)) (again_nodes s n s' r e)

-- ---- a return

pub return_fits : (s : State) (n donor : ℕ) (s' : State) → IsRecorded s → IsReturn s n donor s' → IsDown s.history n
return_fits s n donor s' r e = r.down n e.node e.world.absent

return_nodes : (s : State) (n donor : ℕ) (s' : State) → IsRecorded s → IsReturn s n donor s' → AreUp s.nodes (s.history ++ returns n ∷ []) s'.world
return_nodes s n donor s' r e = record {
  nodes = grind arith;
  up = λ m full down. elim (down-last s.history (returns n) m down) [
    | inl last ↦ (let entry = last.1 in cc)
    | inr before ↦ grind arith
  ];
  down = λ m node absent.
      let other : m ≢ n = λ same. absent (subst (λ k. Full s'.world k) (sym same) e.world.joined) in
      down-push s.history (returns n) m (r.down m node (λ full. absent (e.world.stay m full))) (ne_eqb m n other);
}

pub return_recorded : (s : State) (n donor : ℕ) (s' : State) → WorldInvariant s.world → IsRecorded s → IsReturn s n donor s' → IsRecorded s'
return_recorded s n donor s' sound r e =
    recorded_aside s (returns n) s' tt r e.adds (legal-return s.history n r.legal (return_fits s n donor s' r e))
    (e.world.logs.calls ∙ r.calls ∙ sym (kept_return s.history n)) (counts_of s.world s'.world e.world.logs e.world.clients.clients)
    (λ c client. opened_aside s.history (returns n) s.world s'.world c e.world.clients refl refl (r.opened c client))
    (step_falls s.world s'.world sound (joins_node n donor e.world)) (return_nodes s n donor s' r e)
