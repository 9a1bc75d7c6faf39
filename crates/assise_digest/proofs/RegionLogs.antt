-- The logs of a region, of which one changes.
use Rattle.assise_digest.proofs.Common.{◌≡◌, ◌≢◌, ◌<◌, ◌-◌, ℕ, zero, suc, List, [], ◌∷◌, length, drop, is_some, if◌then◌else◌, true≢false, slice_index_or}
use Rattle.assise_digest.proofs.Common.{slice_set, Option, Some, None, refl, sym, ap, subst, ◌∙◌, true, arith, ne_eqb, get_or-map, get_or-set_same}
use Rattle.assise_digest.proofs.Common.{get_or-set_other, length-map, length-set, map-set, all_effects, Content, InodeMap, LogRecord, contains, touched}
use Rattle.assise_digest.proofs.Common.{with_value, CanBeMadeWhole, get-with_value, NumberedLog, record_at, pending_seen, AreWhole, HasClient, IsBegun, IsQuiet}
use Rattle.assise_digest.proofs.Common.{ReceivedLog, RegionValue, ahead, log_at, log_of, no_log, read_by, with_log, LogsInvariant, LogInvariant, StandsHere}
use Rattle.assise_digest.proofs.Common.{seen_log, seen_logs, Pending, Received}
use Rattle.std.specs.FinMap as map
use Rattle.assise_digest.proofs.ReceivedLogs.{ahead_next, whole_drop}
use Rattle.assise_digest.proofs.Shared.KeptStands.{seen_after, stands_beside, stands_for_none}

abbrev pub region : InodeMap → ℕ → List Received → RegionValue
region m hot xs = record { inodes = m; logs = seen_logs xs; capacity = hot }

-- the place of a client
pub in_place : {hot : ℕ} (m : InodeMap) (xs : List Received) (r : RegionValue) (c : ℕ) → region m hot xs ≡ r → HasClient r c → c - 1 < length xs
in_place m xs r c view has = grind (arith, length-map)

-- what stands there
pub log_there : {hot : ℕ} (m : InodeMap) (xs : List Received) (r : RegionValue) (c : ℕ) (x : Received) → region m hot xs ≡ r → HasClient r c →
    x ≡ slice_index_or xs (c - 1) x → log_of r c ≡ seen_log x
log_there m xs r c x view has is =
    sym (ap (λ s. log_of s c) view) ∙ get_or-map seen_log xs (c - 1) x no_log (in_place m xs r c view has) ∙ ap seen_log (sym is)

pub sound_there : (m : InodeMap) (xs : List Received) (k : ℕ) (x : Received) → LogsInvariant m xs → k < length xs → x ≡ slice_index_or xs k x → LogInvariant m x
sound_there m xs k x sound h is = subst (LogInvariant m) (sym is) (sound k x h)

pub here_sound : {hot : ℕ} (m : InodeMap) (xs : List Received) (r : RegionValue) (c : ℕ) (x : Received) → LogsInvariant m xs → region m hot xs ≡ r
    → HasClient r c
    → x ≡ slice_index_or xs (c - 1) x → LogInvariant m x
here_sound m xs r c x sound view has = sound_there m xs (c - 1) x sound (in_place m xs r c view has)

-- another log stands in a place, and the others are as sound as before
pub sound_others : (m w : InodeMap) (xs : List Received) (k : ℕ) (y : Received) →
    ((j : ℕ) (none : Received) → j ≢ k → j < length xs → LogInvariant w (slice_index_or xs j none)) → LogInvariant w y → LogsInvariant w (slice_set xs k y)
sound_others m w xs k y others here j none h = grind (arith, get_or-set_same, get_or-set_other, length-set)

pub sound_set : (m : InodeMap) (xs : List Received) (k : ℕ) (y : Received) → LogsInvariant m xs → LogInvariant m y → LogsInvariant m (slice_set xs k y)
sound_set m xs k y sound here = sound_others m m xs k y (λ j none other h. sound j none h) here

-- a sound log changed in its place
pub changed_sound : {hot : ℕ} (m : InodeMap) (xs : List Received) (r : RegionValue) (c : ℕ) (x y : Received) → LogsInvariant m xs → region m hot xs ≡ r
    → HasClient r c
    → x ≡ slice_index_or xs (c - 1) x → (LogInvariant m x → LogInvariant m y) → LogsInvariant m (slice_set xs (c - 1) y)
changed_sound m xs r c x y sound view has is keeps = sound_set m xs (c - 1) y sound (keeps (here_sound m xs r c x sound view has is))

-- the region with another log
pub with_one : {hot : ℕ} (m w : InodeMap) (xs : List Received) (r : RegionValue) (c : ℕ) (y : Received) → region m hot xs ≡ r
    → region w hot (slice_set xs (c - 1) y) ≡ record { inodes = w; logs = slice_set r.logs (c - 1) (seen_log y); capacity = r.capacity }
with_one {hot = hot} m w xs r c y view = grind (arith, map-set)

pub read_there : {hot : ℕ} (m : InodeMap) (xs : List Received) (r : RegionValue) (c i : ℕ) (x : Received) (p : Pending) → region m hot xs ≡ r →
    LogsInvariant m xs → HasClient r c
    → x ≡ slice_index_or xs (c - 1) x → x.pending ≡ Some p → pending_seen p i (map.get m i) ≡ read_by r c i
read_there m xs r c i x p view sound has is kept = grind
    (arith, sound_there m xs (c - 1) x sound (in_place m xs r c view has) is, seen_after, log_there m xs r c x view has is)

-- a log changed in its place
pub changed_there : {hot : ℕ} (F : ReceivedLog → ReceivedLog) (m : InodeMap) (xs : List Received) (r : RegionValue) (c : ℕ) (x y : Received) →
    region m hot xs ≡ r → HasClient r c
    → x ≡ slice_index_or xs (c - 1) x → seen_log y ≡ F (seen_log x) → region m hot (slice_set xs (c - 1) y) ≡ with_log r c (F (log_of r c))
changed_there F m xs r c x y view has is step = grind (arith, with_one m m xs r c y view, log_there m xs r c x view has is)

-- ---- the next record is digested

pub next_whole : (x : Received) (next : LogRecord) → IsBegun (seen_log x) → AreWhole x.log.records → Some next ≡ record_at x.log x.digested →
    CanBeMadeWhole next.effects
next_whole x next b w is = grind (arith, ahead_next (seen_log x) next b is, whole_drop (x.digested - x.log.first) x.log.records w)

-- what is kept for other clients is untouched
pub sound_beside : (m w : InodeMap) (x : Received) → LogInvariant m x →
    ((i : ℕ) → contains (touched (all_effects (ahead (seen_log x)))) i ≡ true → map.get w i ≡ map.get m i) → LogInvariant w x
sound_beside m w x s same = grind (arith, stands_beside)

pub same_item : {X : Type 0} (xs : List X) (k : ℕ) (x y : X) → k < length xs → x ≡ slice_index_or xs k x → y ≡ slice_index_or xs k y → x ≡ y
same_item [] k x y h a b = absurd (omega (arith, h))
same_item (z ∷ xs) zero x y h a b = a ∙ sym b
same_item (z ∷ xs) (suc k) x y h a b = same_item xs k x y (omega (arith, h)) a b

-- ---- one inode changes that no client's records touch that lives here

pub sound_changed : {hot : ℕ} (m w : InodeMap) (xs : List Received) (r : RegionValue) (i : ℕ) (v : Option Content) → region m hot xs ≡ r → LogsInvariant m xs →
    IsQuiet r i → w ≡ with_value m i v → LogsInvariant w xs
sound_changed m w xs r i v view sound quiet is k none h = record { begun = here.begun; whole = here.whole; stands = go x.pending refl here.stands }
  where
    x : Received
    x = slice_index_or xs k none

    here : LogInvariant m x
    here = sound k none h

    there : log_at r k ≡ seen_log x
    there = sym (ap (λ s. log_at s k) view) ∙ get_or-map seen_log xs k none no_log h

    value : (j : ℕ) → (j ≡ i → ⊥) → map.get w j ≡ map.get m j
    value j other = ap (λ n. map.get n j) is ∙ get-with_value m i v j ∙ ap (λ b. if b then v else map.get m j) (ne_eqb i j (λ same. other (sym same)))

    go : (o : Option Pending) → x.pending ≡ o → StandsHere m (seen_log x) o → StandsHere w (seen_log x) o
    go None e s = tt
    go (Some p) e s = stands_beside p m w x.digested (ahead (seen_log x)) s (λ j among. value j (λ same.
        true≢false (sym among ∙ ap (contains (touched (all_effects (ahead (seen_log x))))) same
        ∙ sym (ap (λ l. contains (touched (all_effects (ahead l))) i) there) ∙ quiet k (ap (λ l. l.at_home) there ∙ ap is_some e))))

-- ---- a client without records

drop_nothing : {X : Type 0} (n : ℕ) → ◌≡◌ {A = List X} (drop n []) []
drop_nothing zero = refl
drop_nothing (suc n) = refl

pub sound_empty : (m : InodeMap) (l : NumberedLog) (d : ℕ) (p : Pending) → l.records ≡ [] → d ≡ l.first → p.inodes ≡ map.empty → p.last ≡ map.empty
    → LogInvariant m (record { log = l; digested = d; pending = Some p })
sound_empty m l d p empty is inodes last = grind (arith, stands_for_none)
