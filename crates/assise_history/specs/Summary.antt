-- What `check` keeps of a prefix of a history as it goes along it, and what this tells of the next entry. The definition
-- of a legal history (Legal.antt) doesn't speak of it: that both say the same is proved.
use Rattle.std.specs.Prelude.{ℕ, ◌+◌, Bool, true, false, not, ◌&&◌, ◌==◌, nat_lt, if◌then◌else◌, List, [], ◌∷◌, ◌++◌, map, filter, length, Option, Some, None}
use Rattle.std.specs.List.{list_any, list_all}
use Rattle.assise_names.specs.declared.durability.Durability.{Durability}
use Rattle.assise_history.specs.declared.call.Call.{Call}
use Rattle.assise_history.specs.declared.call.Loss.{Loss}
use Rattle.assise_history.specs.declared.prefix.ClientSummary.{ClientSummary}
use Rattle.assise_history.specs.Entries.{EntryValue, opens, calls, crashes, fails, returns}
use Rattle.assise_history.specs.Legal.{is_sync}

-- its clients in the order of their opening, and the nodes that failed and are not back
pub record Summary : Type 0 where
  pub clients : List ClientSummary
  pub down : List ℕ

abbrev pub nothing_yet : Summary
nothing_yet = record { clients = []; down = [] }

abbrev pub newly_opened : ℕ → ℕ → Durability → ClientSummary
newly_opened c n u = record { client = c; node = n; durability = u; last = None; synced = None; crashed = false; failed = false }

abbrev pub summary_with_call : Call → ClientSummary → ClientSummary
summary_with_call x k = if k.client == x.client then record k { last = Some x.number; synced = if is_sync x.op k.durability then Some x.number else k.synced } else k

abbrev pub with_crash : ℕ → ClientSummary → ClientSummary
with_crash c k = if k.client == c then record k { crashed = true } else k

abbrev pub with_failure : ℕ → ClientSummary → ClientSummary
with_failure n k = if k.node == n then record k { failed = true } else k

-- what is known after an entry more
abbrev pub summary_after : Summary → EntryValue → Summary
summary_after s (opens c n u) = record { clients = s.clients ++ newly_opened c n u ∷ []; down = s.down }
summary_after s (calls x) = record { clients = map (summary_with_call x) s.clients; down = s.down }
summary_after s (crashes c) = record { clients = map (with_crash c) s.clients; down = s.down }
summary_after s (fails n losses) = record { clients = map (with_failure n) s.clients; down = s.down ++ n ∷ [] }
summary_after s (returns n) = record { clients = s.clients; down = filter (λ m. not (m == n)) s.down }

abbrev pub summed_from : Summary → List EntryValue → Summary
summed_from s [] = s
summed_from s (e ∷ es) = summed_from (summary_after s e) es

-- what a prefix says
abbrev pub summary : List EntryValue → Summary
summary prefix = summed_from nothing_yet prefix

abbrev pub is_down : Summary → ℕ → Bool
is_down s n = list_any (λ m. m == n) s.down

-- numbers count up from 0
abbrev pub comes_next : Option ℕ → ℕ → Bool
comes_next None k = k == 0
comes_next (Some l) k = k == l + 1

-- greater than the number, if there is one
abbrev pub is_past : Option ℕ → ℕ → Bool
is_past None j = true
is_past (Some l) j = nat_lt l j

-- the client is neither crashed nor was on a node that failed since, and this call is its next
abbrev pub makes_next_call : Call → ClientSummary → Bool
makes_next_call x k = (k.client == x.client) && not k.crashed && not k.failed && comes_next k.last x.number

-- a failure of the node may take the client's calls from there on
abbrev pub may_lose : ℕ → Loss → ClientSummary → Bool
may_lose n l k = (k.client == l.client) && (k.node == n) && not k.failed && is_past k.synced l.first

-- the clients ascend
abbrev pub ascend_from : Option ℕ → List Loss → Bool
ascend_from before [] = true
ascend_from before (l ∷ ls) = is_past before l.client && ascend_from (Some l.client) ls

abbrev pub is_fair : Summary → ℕ → List Loss → Bool
is_fair s n losses = ascend_from None losses && list_all (λ l. list_any (may_lose n l) s.clients) losses

-- the entry may come after a prefix of which this is known
abbrev pub follows : Summary → EntryValue → Bool
follows s (opens c n u) = (c == length s.clients + 1) && not (is_down s n)
follows s (calls x) = list_any (makes_next_call x) s.clients
follows s (crashes c) = list_any (λ k. (k.client == c) && not k.crashed) s.clients
follows s (fails n losses) = is_fair s n losses
follows s (returns n) = is_down s n
