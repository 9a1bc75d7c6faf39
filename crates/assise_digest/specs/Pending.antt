-- The values of the inodes that records touch, kept beside the area until the records are digested.
-- Assise (OSDI 2020), section 3: a process reads its update log over the shared areas.
use Rattle.std.specs.Prelude.{◌≡◌, ℕ, ◌==◌, ◌+◌, Bool, true, false, if◌then◌else◌, List, [], ◌∷◌, Option, None, is_some, IsSome}
use Rattle.std.specs.Option.{option_map_or}
use Rattle.std.specs.FinMap as map
use Rattle.std.specs.Ordering.{nat_cmp}
use Rattle.assise_record.specs.declared.effect.Effect.{Effect}
use Rattle.assise_record.specs.LogRecord.{LogRecord}
use Rattle.assise_record.specs.Touched.{touched_by}
use Rattle.assise_record.specs.Records.{all_effects}
use Rattle.assise_inode_table.specs.Contents.{Content, InodeMap}
use Rattle.assise_inode_table.specs.Effects.{all_applied, contains, touched, value_after, with_value}
use Rattle.assise_digest.specs.Ahead.{last_touch}
use Rattle.assise_digest.specs.declared.pending.Pending.{Pending}

-- the value of an inode: what is kept of it, or what it was
abbrev pub pending_seen : Pending → ℕ → Option Content → Option Content
pending_seen p i old = if is_some (map.get p.last i) then map.get p.inodes i else old

-- the record of this number is the last that touches the inode
abbrev pub is_last : Pending → ℕ → ℕ → Bool
is_last p number i = option_map_or (λ k. k == number) (map.get p.last i) false

-- nothing is kept of an inode without a number
abbrev pub KeepsNoMore : Pending → Type 0
KeepsNoMore p = (i : ℕ) → map.get p.last i ≡ None → map.get p.inodes i ≡ None

-- no inode has this number
abbrev pub IsNew : Pending → ℕ → Type 0
IsNew p number = (i : ℕ) → is_last p number i ≡ false

-- an inode is kept as it is, unless it is kept already
abbrev pub held : Pending → InodeMap → ℕ → ℕ → Pending
held p m number i = if is_some (map.get p.last i) then p else record { inodes = with_value p.inodes i (map.get m i); last = map.insert p.last i number }

-- inodes one after another
abbrev pub loaded_in_turn : (Pending → ℕ → Pending) → Pending → List ℕ → Pending
loaded_in_turn step p [] = p
loaded_in_turn step p (i ∷ is) = loaded_in_turn step (step p i) is

-- each inode that effects touch is kept
abbrev pub all_held : Pending → InodeMap → ℕ → List Effect → Pending
all_held p m number es = loaded_in_turn (λ q i. held q m number i) p (touched es)

-- an inode of which the record of this number is the last goes
abbrev pub let_go : Pending → ℕ → ℕ → Pending
let_go p number i = if is_last p number i then record { inodes = map.remove p.inodes i; last = map.remove p.last i } else p

-- each such inode that effects touch goes
abbrev pub forgotten : Pending → ℕ → List Effect → Pending
forgotten p number es = loaded_in_turn (λ q i. let_go q number i) p (touched es)

-- the record of this number is the last that touches the inodes of its effects
abbrev pub last_noted : map.FinMap nat_cmp ℕ → ℕ → List Effect → map.FinMap nat_cmp ℕ
last_noted l number [] = l
last_noted l number (e ∷ es) = last_noted (map.insert l (touched_by e) number) number es

-- each record is the last that touches the inodes of its effects, one after another, from this number on
abbrev pub all_noted : map.FinMap nat_cmp ℕ → ℕ → List LogRecord → map.FinMap nat_cmp ℕ
all_noted l number [] = l
all_noted l number (r ∷ rs) = all_noted (last_noted l number r.effects) (number + 1) rs

-- with the numbers of those records
abbrev pub noted_from : Pending → ℕ → List LogRecord → Pending
noted_from p number rs = record { inodes = p.inodes; last = all_noted p.last number rs }

-- each inode that effects touch has a number
abbrev pub HasAllNumbers : map.FinMap nat_cmp ℕ → List Effect → Type 0
HasAllNumbers l es = (i : ℕ) → contains (touched es) i ≡ true → IsSome (map.get l i)

-- with the effects of one more record
abbrev pub taken_in : Pending → InodeMap → ℕ → List Effect → Pending
taken_in p m number es = record { inodes = all_applied (all_held p m number es).inodes es; last = last_noted (all_held p m number es).last number es }

-- what is kept is exactly what the records, numbered from n on, make of the map: the value of each inode that one of
-- them touches, and the number of the last that does
pub record StandsFor (p : Pending) (m : InodeMap) (n : ℕ) (rs : List LogRecord) : Type 0 where
  pub last : (i : ℕ) → map.get p.last i ≡ last_touch n rs i
  pub values : (i : ℕ) → map.get p.inodes i ≡ (if is_some (last_touch n rs i) then value_after i (map.get m i) (all_effects rs) else None)

-- what is kept is what the effects make of the map: the value of each inode that one of them touches
pub record Lays (p : Pending) (m : InodeMap) (es : List Effect) : Type 0 where
  pub kept : (i : ℕ) → is_some (map.get p.last i) ≡ contains (touched es) i
  pub values : (i : ℕ) → map.get p.inodes i ≡ (if contains (touched es) i then value_after i (map.get m i) es else None)

-- the map with what is kept in place of what it has
abbrev pub overlaid_with : InodeMap → InodeMap → List (ℕ × ℕ) → InodeMap
overlaid_with m kept [] = m
overlaid_with m kept (e ∷ es) = with_value (overlaid_with m kept es) e.0 (map.get kept e.0)

abbrev pub overlaid : InodeMap → Pending → InodeMap
overlaid m p = overlaid_with m p.inodes (map.entries p.last)
