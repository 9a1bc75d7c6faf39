-- Records of one client are digested, and what is read stays.
use Rattle.assise_digest.proofs.Common.{◌≡◌, ◌≤◌, ◌<◌, ◌+◌, ◌-◌, ◌||◌, Option, ℕ, zero, suc, Bool, true, false, List, [], ◌∷◌, ◌++◌, length, take, drop}
use Rattle.assise_digest.proofs.Common.{slice_index_or, slice_set, refl, sym, ap, subst, ◌∙◌, drop-drop, take-add, arith, or_parts, get_or-set_same}
use Rattle.assise_digest.proofs.Common.{get_or-set_other, length-set, set-get_or, LogRecord, all_effects, all_effects-append, Content, all_applied, contains}
use Rattle.assise_digest.proofs.Common.{touched, value_after, append_applied, get-all_applied, untouched, value_after-append, contains-both, AreNotBelow}
use Rattle.assise_digest.proofs.Common.{HasClient, IsBegun, ReceivedLog, RegionValue, TouchDisjoint, ahead, ahead_below, all_ahead, alone, digested_by}
use Rattle.assise_digest.proofs.Common.{digested_further, log_of, no_log, read_by}
use Rattle.std.proofs.lemmas.List.{take-append-drop}
use Rattle.std.specs.FinMap as map
use Rattle.assise_digest.proofs.ReceivedLogs.{count_ahead}

-- ---- records of one log

pub ahead_further : (l : ReceivedLog) (n : ℕ) → IsBegun l → ahead (digested_further l n) ≡ drop n (ahead l)
ahead_further l n b = grind (arith, drop-drop)

-- what is replicated, in two parts
pub ahead_below_parts : (l : ReceivedLog) (n a : ℕ) → IsBegun l → l.digested + n ≤ a → ahead_below l a ≡ take n (ahead l) ++ ahead_below (digested_further l n)
    a
ahead_below_parts l n a b h = grind (arith, take-add n (a - (l.digested + n)) (ahead l), ahead_further l n b)

-- which inodes records touch, in two parts
touched_parts : (n : ℕ) (rs : List LogRecord) (i : ℕ) → contains (touched (all_effects rs)) i
    ≡ (contains (touched (all_effects (take n rs))) i || contains (touched (all_effects (drop n rs))) i)
touched_parts n rs i = grind
    (arith, take-append-drop n rs, all_effects-append (take n rs) (drop n rs), contains-both (all_effects (take n rs)) (all_effects (drop n rs)) i)

pub quiet_prefix : (n : ℕ) (rs : List LogRecord) (i : ℕ) → contains (touched (all_effects rs)) i ≡ false → contains (touched (all_effects (take n rs))) i
    ≡ false
quiet_prefix n rs i h = (or_parts (contains (touched (all_effects (take n rs))) i) _ (sym (touched_parts n rs i) ∙ h)).0

quiet_rest : (n : ℕ) (rs : List LogRecord) (i : ℕ) → contains (touched (all_effects rs)) i ≡ false → contains (touched (all_effects (drop n rs))) i ≡ false
quiet_rest n rs i h = (or_parts (contains (touched (all_effects (take n rs))) i) _ (sym (touched_parts n rs i) ∙ h)).1

some_of_prefix : (n : ℕ) (rs : List LogRecord) (i : ℕ) → contains (touched (all_effects (take n rs))) i ≡ true → contains (touched (all_effects rs)) i ≡ true
some_of_prefix n rs i h = touched_parts n rs i ∙ ap (λ b. b || contains (touched (all_effects (drop n rs))) i) h

some_of_rest : (n : ℕ) (rs : List LogRecord) (i : ℕ) → contains (touched (all_effects (drop n rs))) i ≡ true → contains (touched (all_effects rs)) i ≡ true
some_of_rest n rs i h = grind (arith, touched_parts n rs i)

-- ---- the region

pub log_digested : (r : RegionValue) (c n : ℕ) → HasClient r c → log_of (digested_by r c n) c ≡ digested_further (log_of r c) n
log_digested r c n has = get_or-set_same r.logs (c - 1) (digested_further (log_of r c) n) no_log (omega (arith, has.some, has.there))

pub has_digested : (r : RegionValue) (c n : ℕ) → HasClient r c → HasClient (digested_by r c n) c
has_digested r c n has = record { some = has.some; there = subst (λ k. c ≤ k) (sym (length-set r.logs (c - 1) (digested_further (log_of r c) n))) has.there }

pub digested_none : (r : RegionValue) (c : ℕ) → digested_by r c 0 ≡ r
digested_none r c = grind (arith, set-get_or r.logs (c - 1) no_log)

set_again : (ls : List ReceivedLog) (k : ℕ) (x y : ReceivedLog) → slice_set (slice_set ls k x) k y ≡ slice_set ls k y
set_again [] k x y = refl
set_again (l ∷ ls) zero x y = refl
set_again (l ∷ ls) (suc k) x y = ap (λ xs. l ∷ xs) (set_again ls k x y)

pub digested_more : (r : RegionValue) (c n k : ℕ) → HasClient r c → IsBegun (log_of r c) → digested_by (digested_by r c n) c k ≡ digested_by r c (n + k)
digested_more r c n k has b = grind (arith, log_digested, set_again, ahead_further, append_applied, all_effects-append, take-add)

-- two clients' records still touch no common inode
pub disjoint_digested : (r : RegionValue) (c n : ℕ) → HasClient r c → IsBegun (log_of r c) → TouchDisjoint r → TouchDisjoint (digested_by r c n)
disjoint_digested r c n has b disjoint j k other i among = grind (arith, log_digested, get_or-set_other, some_of_rest, ahead_further)

-- ---- what the region alone gives stays

-- the records that were digested don't touch the inode
same_without : (l : ReceivedLog) (n i : ℕ) → IsBegun l → contains (touched (all_effects (take n (ahead l)))) i ≡ false →
    (ls : List ReceivedLog) (k : ℕ) (numbers : List ℕ) (v : Option Content)
    → k < length ls → slice_index_or ls k no_log ≡ l → l.digested + n ≤ slice_index_or numbers k 0
    → value_after i v (all_ahead (slice_set ls k (digested_further l n)) numbers) ≡ value_after i v (all_ahead ls numbers)
same_without l n i b quiet [] k numbers v h is low = absurd (omega (arith, h))
same_without l n i b quiet (x ∷ ls) zero [] v h is low = refl
same_without l n i b quiet (x ∷ ls) zero (a ∷ numbers) v h is low =
    value_after-append i v (all_effects (ahead_below (digested_further l n) a)) (all_ahead ls numbers)
    ∙ ap (λ w. value_after i w (all_ahead ls numbers)) first ∙ sym (value_after-append i v (all_effects (ahead_below x a)) (all_ahead ls numbers))
  where
    first : value_after i v (all_effects (ahead_below (digested_further l n) a)) ≡ value_after i v (all_effects (ahead_below x a))
    first =
        ap (λ w. value_after i w (all_effects (ahead_below (digested_further l n) a))) (sym (untouched i v (all_effects (take n (ahead l))) quiet))
        ∙ sym (value_after-append i v (all_effects (take n (ahead l))) (all_effects (ahead_below (digested_further l n) a)))
        ∙ ap (value_after i v) (sym (all_effects-append (take n (ahead l)) (ahead_below (digested_further l n) a))
        ∙ ap all_effects (sym (ahead_below_parts l n a b low)))
        ∙ ap (λ y. value_after i v (all_effects (ahead_below y a))) (sym is)
same_without l n i b quiet (x ∷ ls) (suc k) [] v h is low = refl
same_without l n i b quiet (x ∷ ls) (suc k) (a ∷ numbers) v h is low = grind
    (arith, same_without l n i b quiet ls k numbers (value_after i v (all_effects (ahead_below x a))) (omega (arith, h)) is low, value_after-append)

-- the records of clients before don't touch it
same_moved : (l : ReceivedLog) (n i : ℕ) → IsBegun l → (ls : List ReceivedLog) (k : ℕ) (numbers : List ℕ) (v : Option Content)
    → k < length ls → slice_index_or ls k no_log ≡ l → l.digested + n ≤ slice_index_or numbers k 0
    → ((j : ℕ) → j < k → contains (touched (all_effects (ahead (slice_index_or ls j no_log)))) i ≡ false)
    → value_after i (value_after i v (all_effects (take n (ahead l)))) (all_ahead (slice_set ls k (digested_further l n)) numbers)
    ≡ value_after i v (all_ahead ls numbers)
same_moved l n i b [] k numbers v h is low before = absurd (omega (arith, h))
same_moved l n i b (x ∷ ls) zero [] v h is low before = grind arith
same_moved l n i b (x ∷ ls) zero (a ∷ numbers) v h is low before =
    value_after-append i (value_after i v (all_effects (take n (ahead l)))) (all_effects (ahead_below (digested_further l n) a)) (all_ahead ls numbers)
    ∙ ap (λ w. value_after i w (all_ahead ls numbers)) first ∙ sym (value_after-append i v (all_effects (ahead_below x a)) (all_ahead ls numbers))
  where
    first : value_after i (value_after i v (all_effects (take n (ahead l)))) (all_effects (ahead_below (digested_further l n) a))
        ≡ value_after i v (all_effects (ahead_below x a))
    first =
        sym (value_after-append i v (all_effects (take n (ahead l))) (all_effects (ahead_below (digested_further l n) a)))
        ∙ ap (value_after i v) (sym (all_effects-append (take n (ahead l)) (ahead_below (digested_further l n) a))
        ∙ ap all_effects (sym (ahead_below_parts l n a b low)))
        ∙ ap (λ y. value_after i v (all_effects (ahead_below y a))) (sym is)
same_moved l n i b (x ∷ ls) (suc k) [] v h is low before = grind arith
same_moved l n i b (x ∷ ls) (suc k) (a ∷ numbers) v h is low before =
    value_after-append i _ (all_effects (ahead_below x a)) (all_ahead (slice_set ls k (digested_further l n)) numbers)
    ∙ ap (λ w. value_after i w (all_ahead (slice_set ls k (digested_further l n)) numbers)) (untouched i _ (all_effects (ahead_below x a)) theirs)
    ∙ same_moved l n i b ls k numbers v (omega (arith, h)) is low (λ j below. before (suc j) (omega (arith, below)))
    ∙ ap (λ w. value_after i w (all_ahead ls numbers)) (sym (untouched i v (all_effects (ahead_below x a)) theirs))
    ∙ sym (value_after-append i v (all_effects (ahead_below x a)) (all_ahead ls numbers))
  where
    theirs : contains (touched (all_effects (ahead_below x a))) i ≡ false
    theirs = quiet_prefix (a - x.digested) (ahead x) i (before 0 (omega arith))

pub alone_kept : (r : RegionValue) (c n : ℕ) → HasClient r c → IsBegun (log_of r c) → TouchDisjoint r → (numbers : List ℕ) →
    AreNotBelow (digested_by r c n).logs numbers
    → (i : ℕ) → alone (digested_by r c n) numbers i ≡ alone r numbers i
alone_kept r c n has b disjoint numbers reached i =
    ap (λ v. value_after i v (all_ahead (digested_by r c n).logs numbers)) (get-all_applied r.inodes (all_effects (take n (ahead (log_of r c)))) i)
    ∙ go (contains (touched (all_effects (take n (ahead (log_of r c))))) i) refl
  where
    within : c - 1 < length r.logs
    within = omega (arith, has.some, has.there)

    low : (log_of r c).digested + n ≤ slice_index_or numbers (c - 1) 0
    low =
        subst (λ l. l.digested ≤ slice_index_or numbers (c - 1) 0) (log_digested r c n has)
        (reached (c - 1) (subst (λ k. c - 1 < k) (sym (length-set r.logs (c - 1) (digested_further (log_of r c) n))) within))

    go : (b' : Bool) → contains (touched (all_effects (take n (ahead (log_of r c))))) i ≡ b'
        → value_after i (value_after i (map.get r.inodes i) (all_effects (take n (ahead (log_of r c))))) (all_ahead (digested_by r c n).logs numbers)
        ≡ alone r numbers i
    go true e =
        same_moved (log_of r c) n i b r.logs (c - 1) numbers (map.get r.inodes i) within refl low
        (λ j below. disjoint (c - 1) j (λ same. absurd (omega (arith, same, below))) i (some_of_prefix n (ahead (log_of r c)) i e))
    go false e =
        ap (λ v. value_after i v (all_ahead (digested_by r c n).logs numbers)) (untouched i (map.get r.inodes i) (all_effects (take n (ahead (log_of r c)))) e)
        ∙ same_without (log_of r c) n i b e r.logs (c - 1) numbers (map.get r.inodes i) within refl low

-- ---- counts

pub begun_further : (l : ReceivedLog) (n : ℕ) → IsBegun l → n ≤ length (ahead l) → IsBegun (digested_further l n)
begun_further l n b h = grind (arith, count_ahead)

-- a region of which some records were digested gives alone what it gave
pub given_alone : (r s : RegionValue) (c n : ℕ) → s ≡ digested_by r c n → HasClient r c → IsBegun (log_of r c) → TouchDisjoint r → (numbers : List ℕ) →
    AreNotBelow s.logs numbers → (i : ℕ) → alone s numbers i ≡ alone r numbers i
given_alone r s c n is has b disjoint numbers reached i = grind (arith, alone_kept)

-- and its client reads what it read
pub given_read : (r s : RegionValue) (c n : ℕ) → s ≡ digested_by r c n → HasClient r c → IsBegun (log_of r c) → (i : ℕ) → read_by s c i ≡ read_by r c i
given_read r s c n is has b i =
    ap (λ t. read_by t c i) is
    ∙ ap (λ l. value_after i (map.get (all_applied r.inodes (all_effects (take n rs))) i) (all_effects (ahead l))) (log_digested r c n has)
    ∙ ap (λ xs. value_after i (map.get (all_applied r.inodes (all_effects (take n rs))) i) (all_effects xs)) (ahead_further (log_of r c) n b)
    ∙ ap (λ v. value_after i v (all_effects (drop n rs))) (get-all_applied r.inodes (all_effects (take n rs)) i)
    ∙ sym (value_after-append i (map.get r.inodes i) (all_effects (take n rs)) (all_effects (drop n rs)))
    ∙ ap (value_after i (map.get r.inodes i)) (sym (all_effects-append (take n rs) (drop n rs)) ∙ ap all_effects (take-append-drop n rs))
  where
    rs : List LogRecord
    rs = ahead (log_of r c)
