-- Which changes of a client's log its cuts stay covering through.
use Rattle.assise_model_leases.proofs.Common.{◌≡◌, ℕ, ◌+◌, ◌-◌, ◌≤◌, false, List, [], ◌∷◌, ◌++◌, take, drop, length, refl, ap, ◌∙◌, arith, zero, suc, both_ways}
use Rattle.assise_model_leases.proofs.Common.{false_from_ne_true, LogRecord, all_effects, touched, contains, WorldInvariant, Drops, World, end_of_log}
use Rattle.assise_model_leases.proofs.Common.{digested_by_all, records_between, drop-of_drop, contains-drop, contains-take, length-both, end-else, least_of-end}
use Rattle.assise_model_leases.proofs.Common.{client_records_from, CoversFrom}
use Rattle.std.proofs.Math.ListN.{drop_of_length-le}
use Rattle.std.proofs.lemmas.List.{drop-take, length-drop, length-take-le}
use Rattle.assise_record.proofs.Shared.Records.{all_effects-append}
use Rattle.assise_inode_table.proofs.Shared.EffectValues.{contains-both}
use Rattle.assise_model_world.specs.Coalescing.{Coalesces}
use Rattle.assise_model_world.proofs.Shared.CoalescedTail.{touch_all}

-- records that don't touch the inode
abbrev pub Spare : List LogRecord → ℕ → Type 0
Spare rs i = contains (touched (all_effects rs)) i ≡ false

pub covers_same : (w u : World) (c i k : ℕ) → u.records c ≡ w.records c → u.first c ≡ w.first c → CoversFrom w c i k → CoversFrom u c i k
unfolding client_records_from
covers_same w u c i k records first v = search (end-else, arith) parts 3

pub covers_end : (w : World) (c i : ℕ) → CoversFrom w c i (end_of_log w c)
unfolding client_records_from end_of_log
covers_end w c i = search (drop_of_length-le, arith) parts 3

-- ---- parts of a log

spare_both : (rs zs : List LogRecord) (i : ℕ) → Spare rs i → Spare zs i → Spare (rs ++ zs) i
spare_both rs zs i h g = rw (all_effects-append rs zs) (contains-both (all_effects rs) (all_effects zs) i ∙ rw (h, g) refl)

spare_drop : (rs : List LogRecord) (k i : ℕ) → Spare rs i → Spare (drop k rs) i
spare_drop rs k i h = false_from_ne_true _ (λ t. both_ways _ h (contains-drop rs k i t))

spare_take : (rs : List LogRecord) (k i : ℕ) → Spare rs i → Spare (take k rs) i
spare_take rs k i h = false_from_ne_true _ (λ t. both_ways _ h (contains-take rs k i t))

-- what lies further on
spare_later : (rs : List LogRecord) (j k i : ℕ) → j ≤ k → Spare (drop j rs) i → Spare (drop k rs) i
spare_later rs j k i le h = grind (arith, drop-of_drop rs j (k - j), spare_drop (drop j rs) (k - j) i h)

drop_append : (rs zs : List LogRecord) (k : ℕ) → k ≤ length rs → drop k (rs ++ zs) ≡ drop k rs ++ zs
drop_append rs zs zero h = refl
drop_append [] zs (suc k) h = absurd (omega (arith, h))
drop_append (r ∷ rs) zs (suc k) h = drop_append rs zs k (omega (arith, h))

-- a part from a place on
drop_taken : (rs : List LogRecord) (k n : ℕ) → k ≤ n → drop k (take n rs) ≡ take (n - k) (drop k rs)
drop_taken rs k n le = ap (λ m. drop k (take m rs)) (omega (arith, le)) ∙ drop-take k (n - k) rs

-- ---- a call

-- the record of a call that doesn't change the inode
pub covers_call : (w u : World) (c i k : ℕ) (l : List LogRecord) → u.first c ≡ w.first c → u.records c ≡ w.records c ++ l → Spare l i → CoversFrom w c i k →
    CoversFrom u c i k
unfolding client_records_from end_of_log
covers_call w u c i k l first records none v = grind (arith, length-both, drop_append, spare_both)

-- ---- dropped prefixes

pub covers_drop : (w u : World) (f : ℕ → ℕ) (c i k : ℕ) → Drops w f u → CoversFrom w c i k → CoversFrom u c i k
unfolding client_records_from end_of_log digested_by_all
covers_drop w u f c i k e v = grind (arith, least_of-end, length-drop, drop-of_drop, spare_later)

-- ---- records that give way to others

pub covers_coalesced : (w u : World) (c s : ℕ) (new : List LogRecord) (was : ℕ → ℕ) → WorldInvariant w → (i k : ℕ) → Coalesces w c s new was u → k ≤ s →
    CoversFrom w c i k → CoversFrom u c i k
unfolding client_records_from end_of_log records_between
covers_coalesced w u c s new was so i k e below v = grind (
  arith,
  length-take-le,
  length-both (take (s - w.first c) (w.records c)) new,
  spare_take (drop (s - w.first c) (w.records c)) (end_of_log w c - s) i
      (spare_later (w.records c) (k - w.first c) (s - w.first c) i (omega (arith, below)) v.untouched),
  spare_take (drop (k - w.first c) (w.records c))
      (s - w.first c - (k - w.first c)) i v.untouched,
  drop_append,
  drop_taken (w.records c) (k - w.first c) (s - w.first c) (omega (arith, below)),
  spare_both,
  touch_all w u c s new was so.coherent e i,
)
