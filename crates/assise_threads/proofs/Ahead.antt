-- The calls in front of commands, and the first line that only a run on one thread serves.
use Rattle.assise_threads.proofs.Common.{◌≡◌, ◌≤◌, ℕ, suc, List, [], ◌∷◌, length, take, get_or, refl, sym, ap, subst, arith, Command, Call, NumberedCommand}
use Rattle.assise_threads.proofs.Common.{calls_ahead, counts_call, AreCalls, IsClientCall}

data CallOrNot (command : Command) : Type 0 where
  is_call : IsClientCall command → ((k : ℕ) → counts_call command k ≡ suc k) → CallOrNot command
  is_none : (IsClientCall command → ⊥) → ((k : ℕ) → counts_call command k ≡ 0) → CallOrNot command

call_or_not : (command : Command) → CallOrNot command
call_or_not (Call c op) = is_call tt (λ k. refl)
call_or_not _ = is_none (λ is. is) (λ k. refl)

-- ---- what is counted are calls, and behind them is none

few_more : (l : NumberedCommand) (ls : List NumberedCommand) → CallOrNot l.command → calls_ahead ls ≤ length ls → calls_ahead (l ∷ ls) ≤ suc (length ls)
few_more l ls (is_call call counts) more = let n = counts (calls_ahead ls) in omega (arith, more, n)
few_more l ls (is_none other counts) more = let n = counts (calls_ahead ls) in omega (arith, n)

pub few_ahead : (ls : List NumberedCommand) → calls_ahead ls ≤ length ls
few_ahead [] = omega arith
few_ahead (l ∷ ls) = few_more l ls (call_or_not l.command) (few_ahead ls)

one_more : (l : NumberedCommand) (ls : List NumberedCommand) → CallOrNot l.command → AreCalls (take (calls_ahead ls) ls) →
    AreCalls (take (calls_ahead (l ∷ ls)) (l ∷ ls))
one_more l ls (is_call call counts) more = rw (counts (calls_ahead ls)) (call, more)
one_more l ls (is_none other counts) more = rw (counts (calls_ahead ls)) tt

pub calls_in_prefix : (ls : List NumberedCommand) → AreCalls (take (calls_ahead ls) ls)
calls_in_prefix [] = tt
calls_in_prefix (l ∷ ls) = one_more l ls (call_or_not l.command) (calls_in_prefix ls)

none_there : (l : NumberedCommand) (ls : List NumberedCommand) → CallOrNot l.command → calls_ahead (l ∷ ls) ≡ 0 → IsClientCall l.command → ⊥
none_there l ls (is_call is counts) none call = let n = counts (calls_ahead ls) in omega (arith, n, none)
none_there l ls (is_none other counts) none call = other call

-- where none is counted, the first is no call
pub first_is_none : (ls : List NumberedCommand) (l : NumberedCommand) → 1 ≤ length ls → l ≡ get_or ls 0 l → calls_ahead ls ≡ 0 → IsClientCall l.command → ⊥
first_is_none [] l some is none call = absurd (omega (arith, some))
first_is_none (k ∷ ls) l some is none call = none_there k ls (call_or_not k.command) none (subst (λ (x : NumberedCommand). IsClientCall x.command) is call)

pub first_taken : (ls : List NumberedCommand) (l : NumberedCommand) → 1 ≤ length ls → l ≡ get_or ls 0 l → take 1 ls ≡ l ∷ []
first_taken [] l some is = absurd (omega (arith, some))
first_taken (k ∷ ls) l some is = ap (λ (x : NumberedCommand). x ∷ []) (sym is)
