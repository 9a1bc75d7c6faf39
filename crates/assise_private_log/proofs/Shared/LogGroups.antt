-- What is left of groups of records, and logs with groups behind the last.
use Rattle.assise_private_log.proofs.Common.{get_or, ◌≡◌, ℕ, zero, suc, ◌+◌, ◌-◌, ◌<◌, ◌≤◌, ◌^◌, ◌==◌, ◌||◌, inl, inr, subst, Bool, true, false, min, None}
use Rattle.assise_private_log.proofs.Common.{List, [], ◌∷◌, ◌++◌, length, take, drop, map, refl, ap, sym, ◌∙◌, arith, append_assoc, append-nil, list_any}
use Rattle.assise_private_log.proofs.Common.{slice_get, both_ways, cases_lt, eq-eqb, ne_eqb, get_or-append_right, get_or-take, get_or_append_left, get_or_at}
use Rattle.assise_private_log.proofs.Common.{length-append, map_push, take_min, drop_min, overridden, overrides, AllHaveEffects, all_coalesced, all_marks}
use Rattle.assise_private_log.proofs.Common.{all_records, are_whole, begun_by, coalesced_group, groups_of, left_in, marks_of, LogRecord, all_effects, record_of}
use Rattle.assise_private_log.proofs.Common.{group-shorter, groups_from, regrouped, with_group, with_groups, with_left, HasOpenGroup, IsNumberedLog}
use Rattle.assise_private_log.proofs.Common.{NumberedLog, end, is_border, records_from, with_grouped, without_tail}
use Rattle.std.proofs.lemmas.List.{length-drop, length-take}
use Rattle.std.proofs.lemmas.List.Folds.{list_any-append}
use Rattle.assise_record.specs.declared.effect.Effect.{Effect}
use Rattle.assise_record.proofs.Shared.GroupMarks.{all-coalesced, groups-are, groups-steps, marked}
use Rattle.assise_record.proofs.Shared.WholeGroups.{whole_none}
use Rattle.assise_private_log.proofs.Shared.Borders.{border_first, border_marked, by_place}

-- ---- effects

any_effects : (e : Effect) (rs : List LogRecord) → list_any (λ (r : LogRecord). overridden e r.effects) rs ≡ overridden e (all_effects rs)
any_effects e [] = refl
any_effects e (r ∷ rs) = ap (λ b. overridden e r.effects || b) (any_effects e rs) ∙ sym (list_any-append (λ f. overrides f e) r.effects (all_effects rs))

-- an effect is overridden by some or by those of some records
pub overridden_both : (e : Effect) (es : List Effect) (rs : List LogRecord) → (overridden e es || list_any (λ (r : LogRecord). overridden e r.effects) rs)
    ≡ overridden e (es ++ all_effects rs)
overridden_both e es rs = ap (λ b. overridden e es || b) (any_effects e rs) ∙ sym (list_any-append (λ f. overrides f e) es (all_effects rs))

-- ---- records

with_left-first : (call own : ℕ) (es : List Effect) (xs : List LogRecord) → begun_by call (record_of call es ++ xs) ≡ begun_by call (record_of own es ++ xs)
with_left-first call own es xs = grind arith

-- with one more of the records that are left
pub left_more : (call : ℕ) (qs : List LogRecord) (r : LogRecord) (rs : List LogRecord) → begun_by call (with_left call qs r (all_effects rs) ++ left_in rs)
    ≡ begun_by call (qs ++ left_in (r ∷ rs))
left_more call qs r rs = grind (arith, with_left-first, append_assoc)

-- once there are no more
pub left_all : (call : ℕ) (qs rest : List LogRecord) → length rest ≡ 0 → begun_by call qs ≡ qs → begun_by call (qs ++ left_in rest) ≡ qs
left_all call qs [] none begun = ap (begun_by call) (append-nil qs) ∙ begun
left_all call qs (r ∷ rest) none begun = absurd (omega arith)

pub none_left : (rs : List LogRecord) → None ≡ slice_get rs 0 → [] ≡ coalesced_group rs
none_left [] is = refl
none_left (q ∷ rs) is = absurd cc

-- ---- records are cut into groups

-- the first group, and those of the rest
first_group : (rs : List LogRecord) → 0 < length rs → groups_of (length rs) rs ≡ take 64 rs ∷ groups_of (length (drop 64 rs)) (drop 64 rs)
first_group [] some = absurd (omega arith)
first_group (r ∷ rs) some =
    ap (λ gs. take 64 (r ∷ rs) ∷ gs)
    (groups-steps (length rs) (length (drop 64 (r ∷ rs))) (drop 64 (r ∷ rs)) (omega (arith, length-drop 64 (r ∷ rs))) (omega arith))

-- a loop over the groups goes on
pub groups_more : (done : List (List LogRecord)) (rest prefix behind : List LogRecord) (g : List LogRecord) (n : ℕ) → 0 < length rest →
    n ≡ min (length rest) 64 → prefix ≡ take n rest → behind ≡ drop n rest → g ≡ coalesced_group prefix
    → (done ++ g ∷ []) ++ map coalesced_group (groups_of (length behind) behind) ≡ done ++ map coalesced_group (groups_of (length rest) rest)
groups_more done rest prefix behind g n some count is_prefix is_behind is = grind
    (arith, take_min 64 rest, drop_min 64 rest, append_assoc done (g ∷ []) (map coalesced_group (groups_of (length behind) behind)), first_group rest some)

-- ---- a log with groups behind the last

marks_more : (rs : List LogRecord) (r : LogRecord) → marks_of (rs ++ r ∷ []) ≡ marks_of rs ++ (length rs == 0) ∷ []
marks_more rs r = grind (arith, ne_eqb, map_push)

-- a group grows by a record
pub group_more : (l : NumberedLog) (rs : List LogRecord) (r : LogRecord) (begins : Bool) → begins ≡ (length rs == 0) → with_grouped (with_group l rs) r begins
    ≡ with_group l (rs ++ r ∷ [])
group_more l rs r begins is = grind (arith, append_assoc, marks_more)

begun_border : (l : NumberedLog) (r : LogRecord) (rs : List LogRecord) → length l.begins ≡ length l.records → is_border (with_group l (r ∷ rs)) (end l) ≡ true
begun_border l r rs marks = grind (arith, by_place, get_or_at)

-- and may grow while it has fewer than 64
-- a record is the first of its group where the log ends as before the group
pub first_begins : (l now : NumberedLog) (rs : List LogRecord) → now ≡ with_group l rs → (end now == end l) ≡ (length rs == 0)
first_begins l now rs h1 = grind (arith, eq-eqb, length-append, ne_eqb)

pub group_open : (l now : NumberedLog) (rs : List LogRecord) (begins : Bool) → length l.begins ≡ length l.records → now ≡ with_group l rs →
    begins ≡ (length rs == 0) → length rs < 64 → begins ≡ false → HasOpenGroup now
group_open l now [] begins marks is begun few not_first = absurd (both_ways begins not_first begun)
group_open l now (r ∷ rs) begins marks is begun few not_first =
    subst HasOpenGroup (sym is)
    (grind (arith, length-append l.records (r ∷ rs), begun_border l r rs marks))

-- ---- and with all groups in place of the last records

pub groups_one_more : (l : NumberedLog) (gs : List (List LogRecord)) (g : List LogRecord) → with_groups l (gs ++ g ∷ []) ≡ with_group (with_groups l gs) g
groups_one_more l [] g = refl
groups_one_more l (h ∷ gs) g = groups_one_more (with_group l h) gs g

-- how many records there are
abbrev pub total : List (List LogRecord) → ℕ
total [] = 0
total (g ∷ gs) = length g + total gs

total-append : (gs hs : List (List LogRecord)) → total (gs ++ hs) ≡ total gs + total hs
total-append [] hs = omega arith
total-append (g ∷ gs) hs = let rest : total (gs ++ hs) ≡ total gs + total hs = total-append gs hs in omega arith

record HasMore (l m : NumberedLog) (more : ℕ) : Type 0 where
  pub first : m.first ≡ l.first
  pub limit : m.limit ≡ l.limit
  pub count : length m.records ≡ length l.records + more

with_groups_more : (l : NumberedLog) (gs : List (List LogRecord)) → HasMore l (with_groups l gs) (total gs)
with_groups_more l [] = record { first = refl; limit = refl; count = omega arith }
with_groups_more l (g ∷ gs) = grind (arith, with_groups_more (with_group l g) gs, length-append)

total_less : (n : ℕ) (rs : List LogRecord) → total (map coalesced_group (groups_of n rs)) ≤ length rs
total_less zero rs = omega arith
total_less (suc n) [] = omega arith
total_less (suc n) (r ∷ rs) = grind (arith, total_less n (drop 64 (r ∷ rs)), group-shorter (take 64 (r ∷ rs)), length-take 64 (r ∷ rs), length-drop 64 (r ∷ rs))

-- there is room for the next
pub room_for_group : (l now : NumberedLog) (from : ℕ) (done rest : List (List LogRecord)) (g : List LogRecord) → IsNumberedLog l →
    now ≡ with_groups (without_tail l from) done → done ++ g ∷ rest ≡ groups_from l from
    → (end now + length g < 2 ^ 64) × (length now.records + length g ≤ now.limit)
room_for_group l now from done rest g law is all = grind (
  arith,
  with_groups_more (without_tail l from) done,
  total-append done (g ∷ rest),
  total_less (length (records_from l from)) (records_from l from),
  length-take (from - l.first) l.records,
  length-drop (from - l.first) l.records,
)

-- ---- loops that take groups in

-- what a log and the rest of a group have
pub record HasRest (l now : NumberedLog) (done group : List LogRecord) : Type 0 where
  pub fits : end now + 1 ≤ end l + length group
  pub room : length now.records < length l.records + length group
  pub limit : now.limit ≡ l.limit
  pub few : length done < length group

pub has_rest : (l now : NumberedLog) (done rest group : List LogRecord) (r : LogRecord) → now ≡ with_group l done → done ++ r ∷ rest ≡ group →
    HasRest l now done group
has_rest l now done rest group r is all = grind (arith, length-append)

-- one more of them, of what is left
pub one_passed : {X : Type 0} (done rest left all : List X) (x : X) → done ++ left ≡ all → left ≡ x ∷ rest → (done ++ x ∷ []) ++ rest ≡ all
one_passed done rest left all x is next = append_assoc done (x ∷ []) rest ∙ ap (λ xs. done ++ xs) (sym next) ∙ is

pub all_passed : {X : Type 0} (done left all : List X) → done ++ left ≡ all → length left ≡ 0 → done ≡ all
all_passed done [] all is none = sym (append-nil done) ∙ is
all_passed done (x ∷ left) all is none = absurd (omega arith)

-- ---- what is in place of the last records

-- with groups behind the last there are their records and their marks
abbrev pub with_all : NumberedLog → List (List LogRecord) → NumberedLog
with_all l gs = record { first = l.first; limit = l.limit; records = l.records ++ all_records gs; begins = l.begins ++ all_marks gs }

with_groups_all : (l : NumberedLog) (gs : List (List LogRecord)) → with_groups l gs ≡ with_all l gs
with_groups_all l [] = λ i. record { first = l.first; limit = l.limit; records = sym (append-nil l.records) i; begins = sym (append-nil l.begins) i }
with_groups_all l (g ∷ gs) = grind (arith, with_groups_all (with_group l g) gs, append_assoc)

pub regrouped_all : (l : NumberedLog) (from : ℕ) → regrouped l from ≡ with_all (without_tail l from) (groups_from l from)
regrouped_all l from = with_groups_all (without_tail l from) (groups_from l from)

-- the groups are the same, however many steps there may be
cut_same : (l : NumberedLog) (from n : ℕ) → length (records_from l from) ≤ n → groups_of (length (records_from l from)) (records_from l from)
    ≡ groups_of n (records_from l from)
cut_same l from n enough = groups-steps (length (records_from l from)) n (records_from l from) (omega arith) enough

pub regrouped_records : (l : NumberedLog) (from n : ℕ) → length (records_from l from) ≤ n
    → (regrouped l from).records ≡ take (from - l.first) l.records ++ all_coalesced (groups_of n (records_from l from))
regrouped_records l from n enough = grind (arith, regrouped_all, all-coalesced, cut_same)

-- no more than there were
pub regrouped_shorter : (l : NumberedLog) (from : ℕ) → length (regrouped l from).records ≤ length l.records
regrouped_shorter l from = grind (arith, with_groups_more, total_less, length-take, length-drop)

-- before them the marks are as they were
pub regrouped_before : (l : NumberedLog) (from number : ℕ) → IsNumberedLog l → from ≤ end l → number < from → is_border (regrouped l from) number
    ≡ is_border l number
regrouped_before l from number law last before =
    grind (arith, length-take, regrouped_all, by_place, border_first, get_or_append_left, get_or-take, border_marked)

-- a border among them is where one begins
border_among : (l : NumberedLog) (from k : ℕ) → IsNumberedLog l → l.first < from + k → l.first ≤ from → from ≤ end l → is_border (regrouped l from) (from + k)
    ≡ get_or (all_marks (groups_from l from)) k true
border_among l from k law high low last = grind (arith, length-take, regrouped_all, border_marked, get_or-append_right)

-- and that is where the records before are whole groups
pub regrouped_among : (l : NumberedLog) (from n k : ℕ) → IsNumberedLog l → l.first ≤ from → from ≤ end l → AllHaveEffects (records_from l from) →
    length (records_from l from) ≤ n
    → from + k ≤ end (regrouped l from) → is_border (regrouped l from) (from + k) ≡ are_whole (groups_of n (records_from l from)) k
regrouped_among l from n k law low last some enough within =
    let gs : List (List LogRecord) = groups_of n (records_from l from) in
    elim (cases_lt l.first (from + k)) [
      | inl high ↦
          grind (
            arith,
            regrouped_all l from,
            length-take,
            length-append,
            regrouped_records l from n enough,
            border_among l from k law high low last,
            cut_same l from n enough,
            marked,
            groups-are n (records_from l from) some,
          )
      | inr none ↦
          grind (arith, regrouped_all l from, whole_none gs)
    ]

-- ---- each record has effects

effects_both : (n : ℕ) (rs : List LogRecord) → AllHaveEffects (take n rs) → AllHaveEffects (drop n rs) → AllHaveEffects rs
effects_both zero rs prefix behind = behind
effects_both (suc n) [] prefix behind = tt
effects_both (suc n) (r ∷ rs) prefix behind = (prefix.0, effects_both n rs prefix.1 behind)

-- a group and what lies behind it
pub effects_more : (rest group behind : List LogRecord) (n : ℕ) → group ≡ take n rest → behind ≡ drop n rest → AllHaveEffects group → AllHaveEffects behind →
    AllHaveEffects rest
effects_more rest group behind n prefix back here there = effects_both n rest (subst AllHaveEffects prefix here) (subst AllHaveEffects back there)
