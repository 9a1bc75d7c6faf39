-- Calls over inodes, one after another.
use Rattle.std.specs.Prelude.{◌≡◌, ℕ, ◌<◌, nat_lt, nat_le, ◌==◌, ◌&&◌, Bool, true, List, [], ◌∷◌, map, None}
use Rattle.std.specs.List.{list_any}
use Rattle.assise_names.specs.declared.call.Op.{Op}
use Rattle.assise_names.specs.declared.reply.Reply.{Reply}
use Rattle.assise_inode_table.specs.Contents.{Values}
use Rattle.assise_inode_table.specs.Effects.{after, makes}
use Rattle.assise_inode_table.specs.Interaction.{Step}
use Rattle.assise_inode_table.specs.Calls.{step}

-- an answered call: the client, how many of its calls were answered before, and the number of the inode that it makes, if it makes one
pub record NumberedCall : Type 0 where
  pub client : ℕ
  pub number : ℕ
  pub op : Op
  pub reply : Reply
  pub fresh : ℕ

abbrev pub step_of : Values → NumberedCall → Step
step_of v x = step v x.op x.fresh

-- each call with its step over the values that the calls before it leave
abbrev pub trace : Values → List NumberedCall → List (NumberedCall × Step)
trace v [] = []
trace v (x ∷ xs) = (x, step_of v x) ∷ trace (after v (step_of v x).effects) xs

-- the values that calls leave
abbrev pub values_after_calls : Values → List NumberedCall → Values
values_after_calls v [] = v
values_after_calls v (x ∷ xs) = values_after_calls (after v (step_of v x).effects) xs

-- the inode that a call makes, if it makes one, isn't there before
abbrev pub MakesNew : Values → NumberedCall → Type 0
MakesNew v x = list_any (makes x.fresh) (step_of v x).effects ≡ true → v x.fresh ≡ None

abbrev pub AllMakeNew : Values → List NumberedCall → Type 0
AllMakeNew v [] = Unit {0}
AllMakeNew v (x ∷ xs) = MakesNew v x × AllMakeNew (after v (step_of v x).effects) xs

-- what a call asked, and what it was answered
abbrev pub numbered_exchange : NumberedCall → Op × Reply
numbered_exchange x = (x.op, x.reply)

abbrev pub exchanges : List NumberedCall → List (Op × Reply)
exchanges xs = map numbered_exchange xs

abbrev pub ops : List NumberedCall → List Op
ops xs = map (λ x. x.op) xs

-- ---- what holds of each, and of each two

abbrev pub Each : {X : Type 0} → (X → Type 0) → List X → Type 0
Each P [] = Unit {0}
Each P (x ∷ xs) = P x × Each P xs

-- of each two, the earlier one first
abbrev pub Pairs : {X : Type 0} → (X → X → Type 0) → List X → Type 0
Pairs R [] = Unit {0}
Pairs R (x ∷ xs) = Each (R x) xs × Pairs R xs

-- each client's numbers ascend
abbrev pub NumbersAscend : List NumberedCall → Type 0
NumbersAscend xs = Pairs (λ x y. y.client ≡ x.client → x.number < y.number) xs

-- the calls numbered below their client's threshold
abbrev pub below : (ℕ → ℕ) → NumberedCall → Bool
below a x = nat_lt x.number (a x.client)

-- a client's calls numbered from a on, below b
abbrev pub window : ℕ → ℕ → ℕ → NumberedCall → Bool
window c a b x = (x.client == c) && (nat_le a x.number && nat_lt x.number b)
