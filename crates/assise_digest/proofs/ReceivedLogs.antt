-- The log that a node received of a client, while records come and go.
use Rattle.assise_digest.proofs.Common.{◌≡◌, ◌≤◌, ◌<◌, ◌+◌, ◌-◌, ℕ, Bool, zero, suc, if◌then◌else◌, drop-drop, false, List, [], ◌∷◌, ◌++◌, length, take, drop}
use Rattle.assise_digest.proofs.Common.{Option, Some, None, option_map, refl, sym, ap, subst, ◌∙◌, is_some, true≢false, arith, same_Some, drop-append-le}
use Rattle.assise_digest.proofs.Common.{length-drop, length-take, slice_get, le-ltb, LogRecord, InodeMap, all_applied, CanBeMadeWhole, end, record_at}
use Rattle.assise_digest.proofs.Common.{with_grouped, without_prefix, without_tail, IsNew, StandsFor, forgotten, taken_in, AreWhole, IsBegun, ReceivedLog}
use Rattle.assise_digest.proofs.Common.{ahead, digested_further, first_effects, from_number, next_effects, with_more, LogInvariant, StandsHere, seen_log}
use Rattle.assise_digest.proofs.Common.{Pending, Received}
use Rattle.std.proofs.lemmas.List.{length-append}
use Rattle.assise_digest.proofs.Shared.KeptStands.{next_is_new, stands_for_one_more, stands_for_the_rest}

-- ---- lists

-- an item and those behind it
pub drop_item : {X : Type 0} (xs : List X) (k : ℕ) (x : X) → Some x ≡ slice_get xs k → drop k xs ≡ x ∷ drop (k + 1) xs
drop_item [] k x e = absurd (true≢false (ap is_some e))
drop_item (y ∷ xs) zero x e = ap (λ z. z ∷ xs) (same_Some y x (sym e))
drop_item (y ∷ xs) (suc k) x e = let next : suc (k + 1) ≡ suc k + 1 = omega arith in drop_item xs k x e ∙ ap (λ n. x ∷ drop n (y ∷ xs)) next

-- ---- records that can be made whole

pub whole_both : (rs qs : List LogRecord) → AreWhole rs → AreWhole qs → AreWhole (rs ++ qs)
whole_both [] qs w v = v
whole_both (r ∷ rs) qs w v = (w.0, whole_both rs qs w.1 v)

pub whole_drop : (k : ℕ) (rs : List LogRecord) → AreWhole rs → AreWhole (drop k rs)
whole_drop zero rs w = w
whole_drop (suc k) [] w = tt
whole_drop (suc k) (r ∷ rs) w = whole_drop k rs w.1

pub whole_take : (k : ℕ) (rs : List LogRecord) → AreWhole rs → AreWhole (take k rs)
whole_take zero rs w = tt
whole_take (suc k) [] w = tt
whole_take (suc k) (r ∷ rs) w = (w.0, whole_take k rs w.1)

-- ---- the records that aren't digested

-- their count leads to the end
pub count_ahead : (l : ReceivedLog) → IsBegun l → end l.log ≡ l.digested + length (ahead l)
count_ahead l b = grind (arith, length-drop)

-- one more
pub ahead_more : (l : ReceivedLog) (r : LogRecord) → IsBegun l → ahead (with_more l r) ≡ ahead l ++ r ∷ []
ahead_more l r b = drop-append-le (l.digested - l.log.first) l.log.records (r ∷ []) (omega (arith, b.from_first, b.to_end))

placed : (l : ReceivedLog) → IsBegun l → record_at l.log l.digested ≡ slice_get l.log.records (l.digested - l.log.first)
placed l b = ap (λ x. if x then None else slice_get l.log.records (l.digested - l.log.first)) (le-ltb l.digested l.log.first b.from_first)

-- the next one, and those behind it
pub ahead_next : (l : ReceivedLog) (r : LogRecord) → IsBegun l → Some r ≡ record_at l.log l.digested → ahead l ≡ r ∷ ahead (digested_further l 1)
ahead_next l r b is = grind (arith, drop_item)

-- those before it went from the front
pub ahead_prefix : (l : ReceivedLog) (to : ℕ) → l.log.first ≤ to → to ≤ l.digested → ahead (from_number l to) ≡ ahead l
ahead_prefix l to low high = grind (arith, drop-drop)

-- ---- what is kept

pub kept_more : (p : Pending) (m : InodeMap) (l : ReceivedLog) (r : LogRecord) (k : ℕ) → IsBegun l → StandsFor p m l.digested (ahead l) → k ≡ end l.log
    → StandsFor (taken_in p m k r.effects) m l.digested (ahead (with_more l r))
kept_more p m l r k b s is = grind (arith, ahead_more, stands_for_one_more, count_ahead)

pub kept_new : (p : Pending) (m : InodeMap) (l : ReceivedLog) (k : ℕ) → IsBegun l → StandsFor p m l.digested (ahead l) → k ≡ end l.log → IsNew p k
kept_new p m l k b s is = subst (IsNew p) (sym (is ∙ count_ahead l b)) (next_is_new p m l.digested (ahead l) s)

-- ---- one of these changes

pub sound_more : (m : InodeMap) (x : Received) (r : LogRecord) (begins : Bool) (o : Option Pending) → LogInvariant m x → CanBeMadeWhole r.effects →
    StandsHere m (with_more (seen_log x) r) o
    → LogInvariant m (record { log = with_grouped x.log r begins; digested = x.digested; pending = o })
sound_more m x r begins o s h kept = grind (arith, length-append, whole_both)

-- the next record is digested
pub sound_counted : (m : InodeMap) (x : Received) (r : LogRecord) → LogInvariant m x → Some r ≡ record_at x.log x.digested
    → LogInvariant (all_applied m r.effects)
    (record { log = x.log; digested = x.digested + 1; pending = option_map (λ p. forgotten p x.digested r.effects) x.pending })
sound_counted m x r s is = record {
  begun = record {
    from_first = omega (arith, s.begun.from_first);
    to_end = let counted = count_ahead (seen_log x) s.begun in let more = ap length next in omega (arith, counted, more);
  };
  whole = s.whole;
  stands = stands_then x.pending s.stands;
}
  where
    next : ahead (seen_log x) ≡ r ∷ ahead (digested_further (seen_log x) 1)
    next = ahead_next (seen_log x) r s.begun is

    stands_then : (o : Option Pending) → StandsHere m (seen_log x) o
        → StandsHere (all_applied m r.effects) (digested_further (seen_log x) 1) (option_map (λ p. forgotten p x.digested r.effects) o)
    stands_then None h = tt
    stands_then (Some p) h = stands_for_the_rest p m x.digested r (ahead (digested_further (seen_log x) 1)) (subst (StandsFor p m x.digested) next h)

-- records go from the front that are digested
pub sound_prefix : (m : InodeMap) (x : Received) (to : ℕ) → LogInvariant m x → x.log.first ≤ to → to ≤ x.digested
    → LogInvariant m (record { log = without_prefix x.log to; digested = x.digested; pending = x.pending })
sound_prefix m x to s low high = grind
    (arith, length-drop (to - x.log.first) x.log.records, whole_drop (to - x.log.first) x.log.records s.whole, ahead_prefix (seen_log x) to low high)

-- records go from the end that aren't digested
pub sound_tail : (m : InodeMap) (x : Received) (from : ℕ) → LogInvariant m x → is_some x.pending ≡ false → x.digested ≤ from
    → LogInvariant m (record { log = without_tail x.log from; digested = x.digested; pending = x.pending })
sound_tail m x from s none low = grind (arith, length-take, whole_take)

there : (rs : List LogRecord) (k : ℕ) → k < length rs → slice_get rs k ≡ None → ⊥
there [] k h e = absurd (omega (arith, h))
there (r ∷ rs) zero h e = true≢false (ap is_some e)
there (r ∷ rs) (suc k) h e = there rs k (omega (arith, h)) e

-- there is a next record before the end
pub next_there : (l : ReceivedLog) → IsBegun l → l.digested < end l.log → (r : LogRecord) × (Some r ≡ record_at l.log l.digested)
next_there l b h = go (record_at l.log l.digested) refl
  where
    go : (o : Option LogRecord) → record_at l.log l.digested ≡ o → (r : LogRecord) × (Some r ≡ record_at l.log l.digested)
    go (Some r) is = (r, sym is)
    go None is = absurd (there l.log.records (l.digested - l.log.first) (omega (arith, b.from_first, h)) (sym (placed l b) ∙ is))

pub sound_counted_next : (m : InodeMap) (x : Received) → LogInvariant m x → x.digested < end x.log
    → LogInvariant (all_applied m (next_effects (seen_log x)))
    (record { log = x.log; digested = x.digested + 1; pending = option_map (λ p. forgotten p x.digested (next_effects (seen_log x))) x.pending })
sound_counted_next m x s more =
    let there = next_there (seen_log x) s.begun more in
    let next : next_effects (seen_log x) ≡ there.0.effects = ap first_effects (ahead_next (seen_log x) there.0 s.begun there.1) in
    subst (λ es. LogInvariant (all_applied m es)
    (record { log = x.log; digested = x.digested + 1; pending = option_map (λ p. forgotten p x.digested es) x.pending })) (sym next)
    (sound_counted m x there.0 s there.1)
