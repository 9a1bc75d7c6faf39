-- What clients answer when they are asked for their leases. Assise (OSDI 2020), section 3: a holder whose lease is revoked
-- says what has to be replicated before the lease goes to another.
use Rattle.std.specs.Prelude.{◌≡◌, ℕ, List, Bool, Option, Some, filter, map}
use Rattle.assise_private_log.specs.Borders.{group_end}
use Rattle.assise_private_log.specs.NumberedLog.{NumberedLog}
use Rattle.assise_private_log.specs.Touches.{Covers}
use Rattle.assise_lease_table.specs.declared.lease.Lease.{Lease}
use Rattle.assise_lease_table.specs.declared.lease.Asked.{Asked}
use Rattle.assise_lease_table.specs.Leases.{Among, is_to_ask, holders}

-- the clients that were asked
abbrev pub clients_of : List Asked → List ℕ
clients_of asked = map (λ a. a.client) asked

-- the answer of a revoker for the view of a log and an inode, raised to the end of its group
pub record IsRaisedAnswer {C : Type 0} (answers : C → NumberedLog → ℕ → ℕ → Type 0) (revoker : C) (view : NumberedLog) (inode cut : ℕ) : Type 0 where
  pub answer : ℕ
  pub answered : answers revoker view inode answer
  pub cut_is : cut ≡ group_end view answer

module _ {C : Type 0} (answers : C → NumberedLog → ℕ → ℕ → Type 0) (revoker_of : ℕ → Option C) (view_of : ℕ → Option NumberedLog) (inode : ℕ) where
  -- the cut is the raised answer of the client's own revoker for the view of its log, and covers
  pub record IsAnswer (a : Asked) : Type 0 where
    pub inode_is : a.inode ≡ inode
    pub revoker : C
    pub stored : revoker_of a.client ≡ Some revoker
    pub view : NumberedLog
    pub seen : view_of a.client ≡ Some view
    pub answered : IsRaisedAnswer answers revoker view inode a.cut
    pub covers : Covers view inode a.cut

  -- those whose leases are chosen and were not revoked were asked, each once and in their order, and each has its answer
  pub record AnswerAll (choice : Lease → Bool) (ls : List Lease) (asked : List Asked) : Type 0 where
    pub who : clients_of asked ≡ holders (filter (is_to_ask choice) ls)
    pub each : (a : Asked) → Among asked a → IsAnswer a
