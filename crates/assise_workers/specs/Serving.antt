-- What is seen of a client's list of calls, and of its end.
-- Assise (OSDI 2020), section 3 (a process's calls in order).
use Rattle.std.specs.Prelude.{List, map}
use Rattle.assise_names.specs.declared.call.Op.{Op}
use Rattle.assise_libfs.specs.Clients.{IsSameClient, client_of, limit_of, seen_by}
use Rattle.assise_workers.specs.declared.serving.ClientEnd.{ClientEnd}
use Rattle.assise_workers.specs.declared.serving.ClientList.{ClientList}
use Rattle.assise_history.specs.Entries.{EntryValue}
use Rattle.assise_model_events.specs.Events.{Answer, ClusterEvent}
use Rattle.assise_workers.specs.Told.{SeesAll, Turned}

module _ {S : Type 0} where
  -- the calls of a list, in order
  abbrev pub calls_of_list : ClientList S → List Op
  calls_of_list list = map (λ op. op.now) list.calls.items

  -- the list's client made all its calls, in order, and the end has what came of each
  pub record HasServed (history : S → List EntryValue) (acts : S → ClusterEvent → Answer → S → Type 0) (list : ClientList S) (end : ClientEnd S) : Type 0 where
    pub client : IsSameClient list.libfs end.libfs
    pub sees : SeesAll (Turned history acts (limit_of list.libfs)) (client_of list.libfs) (calls_of_list list) (seen_by list.libfs) end.replies.items (seen_by end.libfs)
