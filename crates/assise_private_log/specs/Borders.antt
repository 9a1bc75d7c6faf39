-- Where the groups of a log begin and end: what is replicated, digested or cut ends at a border.
-- Assise (OSDI 2020), section 3 (CC-NVM: what is coalesced is replicated and digested as a whole).
use Rattle.std.specs.Prelude.{◌≡◌, ℕ, zero, suc, ◌+◌, ◌-◌, ◌<◌, ◌≤◌, nat_le, true, false, not, if◌then◌else◌, drop}
use Rattle.std.specs.List.{prefix_len}
use Rattle.assise_private_log.specs.NumberedLog.{NumberedLog, is_border}

-- the least border from a number on
abbrev pub group_end : NumberedLog → ℕ → ℕ
group_end l number = if nat_le number l.first then number else number + prefix_len not (drop (number - l.first) l.begins)

-- how many records from a number on, at most `most`, end with a group
unfoldable pub whole_count : NumberedLog → (from most : ℕ) → ℕ
whole_count l from zero = 0
whole_count l from (suc n) = if is_border l (from + suc n) then suc n else whole_count l from n

-- it is a border, and none lies between a number and it
pub record IsNextBorder (l : NumberedLog) (number next : ℕ) : Type 0 where
  pub behind : number ≤ next
  pub border : is_border l next ≡ true
  pub least : (k : ℕ) → number ≤ k → k < next → is_border l k ≡ false

-- `count` records are at most as many as were asked for, no border lies behind them and within those, and unless there are none
-- they end at one
pub record IsWholeCount (l : NumberedLog) (from most count : ℕ) : Type 0 where
  pub within : count ≤ most
  pub border : 0 < count → is_border l (from + count) ≡ true
  pub greatest : (k : ℕ) → count < k → k ≤ most → is_border l (from + k) ≡ false
