-- A call that gets a lease and goes on from there has got it first.
use Rattle.assise_machine_calls.proofs.Common.{◌≡◌, ℕ, ◌<◌, true, List, ◌∷◌, length, None, Some, refl, ap, sym, subst, ◌∙◌, Op, Mode, contains, inode_number}
use Rattle.assise_machine_calls.proofs.Common.{NumberedCall, World, Grants, Leases, OtherAreasStay, Calling, Gets, Granted, IsAnswered, IsAwaited, IsFull}
use Rattle.assise_machine_calls.proofs.Common.{IsMissing, IsSpent, IsTried, KeepsGranted, call_of_client, is_answered, is_awaited, is_full, is_refused}
use Rattle.assise_machine_calls.proofs.Common.{is_spent, lacks_memory, Answer, call_fault, Machine, next_call}
use Rattle.assise_names.specs.declared.reply.Reply.{Reply}

-- the machine with other leases, and all that is seen of them
abbrev pub with_leases : Machine → World → Leases → Machine
with_leases m w l = record m { world = w; leases = l }

module _ (m : Machine) (w : World) (l : Leases) (c : ℕ) (op : Op) (i : ℕ) (mode : Mode) (missing : IsMissing m.world m.leases (next_call m.world c op) i mode)
    (grants : Grants m.world m.leases c i mode w l) (others : OtherAreasStay m.world w) (fine : call_fault m c op ≡ None) where
  abbrev then : Machine
  then = with_leases m w l

  abbrev granted : Granted
  granted = record { inode = i; mode = mode; world = w; leases = l }

  abbrev before : Reply → NumberedCall
  before reply = call_of_client m.world c op reply

  -- the call is the same
  same_call : (reply : Reply) → call_of_client w c op reply ≡ before reply
  same_call reply = λ k. record { client = c; number = grants.holds.logs.next c k; op = op; reply = reply; fresh = inode_number c (grants.holds.logs.made c k) }

  got_first : (reply : Reply) (gs : List Granted) → Gets (before reply) w l gs → Gets (before reply) m.world m.leases (granted ∷ gs)
  got_first reply gs gets = (missing, grants, others, gets)

  tried_first : (reply : Reply) (gs : List Granted) → Gets (before reply) w l gs → IsTried m (before reply) (granted ∷ gs)
  tried_first reply gs gets = record { fine = fine; next = refl; fresh = refl; gets = got_first reply gs gets }

  others_stay : (u : World) → OtherAreasStay w u → OtherAreasStay m.world u
  others_stay u stay k j away = stay k j (λ full. away (subst (λ ns. contains ns k ≡ true) grants.holds.nodes.full full)) ∙ others k j away

  keeps_first : (m' : Machine) (gs : List Granted) → KeepsGranted then gs m' → KeepsGranted m (granted ∷ gs) m'
  keeps_first m' gs e = record
      { world = e.world; leases = e.leases; members = e.members; adds = record { history = e.adds.history; limit = e.adds.limit; hot = e.adds.hot } }

  answered_first : (m' : Machine) (reply : Reply) (gs : List Granted) → IsAnswered then (before reply) gs m' → IsAnswered m (before reply) (granted ∷ gs) m'
  answered_first m' reply gs e = record {
    tried = tried_first reply gs e.tried.gets;
    call = e.call;
    room = λ some. subst (λ rs. length rs < m.limit) (grants.holds.logs.records c) (e.room some);
    leases = e.leases;
    adds = record { history = e.adds.history; limit = e.adds.limit; hot = e.adds.hot };
    keeps = record { members = e.keeps.members; others = others_stay m'.world e.keeps.others };
  }

  awaited_first : (m' : Machine) (reply : Reply) (gs : List Granted) → IsAwaited then (before reply) gs m' → IsAwaited m (before reply) (granted ∷ gs) m'
  awaited_first m' reply gs e = record {
    tried = tried_first reply gs e.tried.gets;
    inode = e.inode;
    mode = e.mode;
    missing = e.missing;
    asks = e.asks;
    adds = record { history = e.adds.history; limit = e.adds.limit; hot = e.adds.hot };
    keeps = record { members = e.keeps.members; others = others_stay m'.world e.keeps.others };
  }

  spent_first : (reply : Reply) (gs : List Granted) → IsSpent then (before reply) gs → IsSpent m (before reply) (granted ∷ gs)
  spent_first reply gs e = record
      { tried = tried_first reply gs e.tried.gets; served = e.served; makes = e.makes; made = sym (grants.holds.logs.made c) ∙ e.made }

  full_first : (reply : Reply) (gs : List Granted) → IsFull then (before reply) gs → IsFull m (before reply) (granted ∷ gs)
  full_first reply gs e = record {
    tried = tried_first reply gs e.tried.gets;
    served = e.served;
    makes = λ some. subst (λ k. k < 1048576) (grants.holds.logs.made c) (e.makes some);
    effects = e.effects;
    at_limit = ap length (sym (grants.holds.logs.records c)) ∙ e.at_limit;
  }

  still_fine : call_fault then c op ≡ None
  still_fine = rw (grants.holds.clients.clients, grants.holds.clients.crashed c, grants.holds.clients.lives c) fine

  pub granted_first : (a : Answer) (m' : Machine) → Calling then c op a m' → Calling m c op a m'
  granted_first a m' (is_answered reply gs is e) =
      is_answered reply (granted ∷ gs) is (answered_first m' reply gs (subst (λ x. IsAnswered then x gs m') (same_call reply) e))
  granted_first a m' (is_awaited reply gs is e) =
      is_awaited reply (granted ∷ gs) is (awaited_first m' reply gs (subst (λ x. IsAwaited then x gs m') (same_call reply) e))
  granted_first a m' (is_spent reply gs is e keeps) =
      is_spent reply (granted ∷ gs) is (spent_first reply gs (subst (λ x. IsSpent then x gs) (same_call reply) e)) (keeps_first m' gs keeps)
  granted_first a m' (is_full reply gs is e keeps) =
      is_full reply (granted ∷ gs) is (full_first reply gs (subst (λ x. IsFull then x gs) (same_call reply) e)) (keeps_first m' gs keeps)
  granted_first a m' (lacks_memory reply gs is e keeps) =
      lacks_memory reply (granted ∷ gs) is (tried_first reply gs (subst (λ x. IsTried then x gs) (same_call reply) e).gets) (keeps_first m' gs keeps)
  granted_first a m' (is_refused r fault is same) = absurd (let none : None ≡ Some r = sym still_fine ∙ fault in cc)
