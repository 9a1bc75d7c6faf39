-- Records and logs come to a region one after another.
use Rattle.assise_machine_state.proofs.Common.{◌≡◌, ◌≢◌, ℕ, suc, ◌+◌, ◌<◌, Bool, List, [], ◌∷◌, ◌++◌, false, length, map, take, take-suc, get_or, inl, inr, ap}
use Rattle.assise_machine_state.proofs.Common.{sym, subst, ◌∙◌, arith, cases_eq, append_assoc, length_push, map-append, LogRecord, NumberedLog, end, is_border}
use Rattle.assise_machine_state.proofs.Common.{with_grouped, border_end, border_grouped, AreWhole, IsBegun, ReceivedLog, RegionValue, no_log, with_one}
use Rattle.assise_machine_state.proofs.Common.{AreTaken, HasGroupsOf, HasLog, away, copied, log_in, region_in, with_log_in, with_next, with_records}
use Rattle.assise_machine_state.proofs.Shared.LogChanges.{log_back, log_else, log_here, logs_count, none_more, region_here, region_with}
use Rattle.assise_machine_state.proofs.Shared.ItemSeen.{length-with, with-with}

-- ---- records

one_then_others : (border : ℕ → Bool) (l : ReceivedLog) (a : LogRecord) (rest : List LogRecord) → with_records border (with_one l a (border (end l.log))) rest
    ≡ with_records border l (a ∷ rest)
one_then_others border l a rest = grind (arith, length_push, append_assoc)

-- a later change of the log stands
put_again : (rs : List RegionValue) (n c : ℕ) (l m : ReceivedLog) → HasLog rs n c → with_log_in (with_log_in rs n c l) n c m ≡ with_log_in rs n c m
put_again rs n c l m has = grind (arith, region_here, region_with, with-with)

log_then : (border : ℕ → Bool) (rs : List RegionValue) (n c : ℕ) (a : LogRecord) → HasLog rs n c →
    log_in (with_next border rs n c a) n c ≡ with_one (log_in rs n c) a (border (end (log_in rs n c).log))
log_then border rs n c a has = grind (arith, log_here)

-- each node has the logs that it had
has_then : (border : ℕ → Bool) (rs : List RegionValue) (n m c : ℕ) (a : LogRecord) → HasLog rs m c → HasLog (with_next border rs n c a) m c
has_then border rs n m c a has = grind (arith, length-with, region_with, logs_count)

pub one_taken : (border : ℕ → Bool) (rs : List RegionValue) (n c : ℕ) (a : LogRecord) (rest : List LogRecord) → HasLog rs n c →
    with_log_in (with_next border rs n c a) n c (with_records border (log_in (with_next border rs n c a) n c) rest)
    ≡ with_log_in rs n c (with_records border (log_in rs n c) (a ∷ rest))
one_taken border rs n c a rest has = grind (arith, log_then, put_again, one_then_others)

-- the groups of the own log go on

groups_then : (own l : NumberedLog) (a : LogRecord) → HasGroupsOf own l → HasGroupsOf own (with_grouped l a (is_border own (end l)))
groups_then own l a g = record {
  marks = omega (arith, g.marks, length_push l.begins (is_border own (end l)), length_push l.records a);
  borders = λ k low is.
      elim (cases_eq k (end l)) [
        | inl last ↦ border_grouped l a (is_border own (end l)) k g.marks (λ here. ap (is_border own) (sym here) ∙ is)
            ∙ border_end l k g.marks (omega (arith, last))
        | inr other ↦
            let before : k < end l = omega (arith, low, other, length_push l.records a) in
            border_grouped l a (is_border own (end l)) k g.marks (λ here. absurd (other here)) ∙ g.borders k before is
      ];
}

-- the node's log with one record more, and the client's own log
pub record TakesOne (rs ss : List RegionValue) (n own c : ℕ) : Type 0 where
  pub there : HasLog ss n c
  pub own_there : HasLog ss own c
  pub own_log : log_in ss own c ≡ log_in rs own c
  pub groups : HasGroupsOf (log_in ss own c).log (log_in ss n c).log
  pub elsewhere : (log_in ss n c).at_home ≡ false
  pub limit : (log_in ss n c).log.limit ≡ (log_in rs n c).log.limit
  pub longer : length (log_in ss n c).log.records ≡ length (log_in rs n c).log.records + 1
  pub end : end (log_in ss n c).log ≡ end (log_in rs n c).log + 1

pub takes_one : (rs : List RegionValue) (n own c : ℕ) (a : LogRecord) → HasLog rs n c → HasLog rs own c → own ≢ n →
    HasGroupsOf (log_in rs own c).log (log_in rs n c).log → (log_in rs n c).at_home ≡ false →
    TakesOne rs (with_next (is_border (log_in rs own c).log) rs n c a) n own c
takes_one rs n own c a has own_has other groups elsewhere =
    let l : ReceivedLog = log_in rs n c in
    let border : ℕ → Bool = is_border (log_in rs own c).log in
    let now : log_in (with_next border rs n c a) n c ≡ with_one l a (border (end l.log)) = log_then border rs n c a has in
    let kept : log_in (with_next border rs n c a) own c ≡ log_in rs own c =
    log_else rs n c (region_in rs n).inodes (with_one l a (border (end l.log))) has own c (λ is same. other is) in
    record {
      there = has_then border rs n n c a has;
      own_there = has_then border rs n own c a own_has;
      own_log = kept;
      groups = subst (λ o. HasGroupsOf o.log (log_in (with_next border rs n c a) n c).log) (sym kept)
          (subst (λ m. HasGroupsOf (log_in rs own c).log m.log) (sym now) (groups_then (log_in rs own c).log l.log a groups));
      elsewhere = ap (λ m. m.at_home) now ∙ elsewhere;
      limit = ap (λ m. m.log.limit) now;
      longer = ap (λ m. length m.log.records) now ∙ omega (arith, length_push l.log.records a);
      end = ap (λ m. end m.log) now ∙ omega (arith, length_push l.log.records a);
    }

-- where none comes nothing changes
pub none_taken : (border : ℕ → Bool) (rs : List RegionValue) (n c : ℕ) → with_log_in rs n c (with_records border (log_in rs n c) []) ≡ rs
none_taken border rs n c = ap (with_log_in rs n c) (none_more border (log_in rs n c)) ∙ log_back rs n c

-- ---- copies

pub one_copied : (xs : List (NumberedLog × ℕ)) (ls : List ReceivedLog) (k : ℕ) (l : NumberedLog) (d : ℕ) → map copied xs ≡ map away (take k ls) →
    k < length ls → l ≡ (get_or ls k no_log).log → d ≡ (get_or ls k no_log).digested →
    map copied (xs ++ (l, d) ∷ []) ≡ map away (take (k + 1) ls)
one_copied xs ls k l d same low log digested =
    map-append copied xs ((l, d) ∷ [])
    ∙ ap (λ ys. ys ++ copied (l, d) ∷ []) same
    ∙ ap (λ y. map away (take k ls) ++ y ∷ []) here
    ∙ sym (ap (map away) one_more ∙ map-append away (take k ls) (get_or ls k no_log ∷ []))
  where
    here : copied (l, d) ≡ away (get_or ls k no_log)
    here = λ i. record { log = log i; digested = digested i; at_home = false }

    one_more : take (k + 1) ls ≡ take k ls ++ get_or ls k no_log ∷ []
    one_more = (let next : k + 1 ≡ suc k = omega arith in ap (λ n. take n ls) next ∙ take-suc ls k no_log low)

pub one_sound : (xs : List (NumberedLog × ℕ)) (l : NumberedLog) (d : ℕ) → AreTaken xs → IsBegun (copied (l, d)) → AreWhole l.records →
    AreTaken (xs ++ (l, d) ∷ [])
one_sound [] l d all begun whole = (begun, whole, tt)
one_sound (x ∷ xs) l d (b, w, all) begun whole = (b, w, one_sound xs l d all begun whole)
