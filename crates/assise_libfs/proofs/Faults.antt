-- Why a cluster refuses what its clients ask, in the words of its history.
use Rattle.assise_libfs.proofs.Common.{◌≡◌, ◌≢◌, ℕ, ◌≤◌, arith, Bool, true, false, Option, Some, None, refl, sym, ◌∙◌, subst, not, nat_le, IfErr, ∥∥₁_elim}
use Rattle.assise_libfs.proofs.Common.{∥∥₁_map, Op, Durability, Reply, Refusal, BadClient, BadNode, ClientGone, InodesSpent, LogFull, NodeDown, OutOfMemory}
use Rattle.assise_libfs.proofs.Common.{TooLarge, opens, IsDown, IsOpenedOn, MayCall, clients_opened, durability_of, is_failure_of, next_opened, opened_within}
use Rattle.assise_libfs.proofs.Common.{fits_in, Answer, not_yet, opened, refused, replied, opening_answer, IsCutOff, MakesInode, MayRefuseTry, WritesTooMuch}
use Rattle.assise_libfs.proofs.Common.{HasCrashed, HasLostNode}
use Rattle.std.specs.Prelude.{Result, Ok, Err}
use Rattle.std.specs.List.{list_any}
use Rattle.std.specs.Coded.{Coded-set, coded_ℕ}
use Rattle.std.proofs.lemmas.Bool.{and_from, and_parts, le-leb, leb-true, not-false, not-true}
use Rattle.std.proofs.lemmas.Bool.Decides.{nat_tests}
use Rattle.assise_model_events.proofs.Shared.Faultless.{first_none}
use Rattle.assise_names.specs.declared.call.Op.TheVariants.{Create, Mkdir, Write, Fsync, Dsync}
use Rattle.assise_names.specs.declared.durability.Durability.TheVariants.{Pessimistic, Optimistic}
use Rattle.assise_names.specs.declared.limits.TheConstants.{MOST_CLIENTS}
use Rattle.assise_inode_table.specs.Numbers.{makes_inode}
use Rattle.assise_inode_table.proofs.Shared.CallEnds.{makes_own}
use Rattle.assise_manager.specs.Standings.{Standing, full, down, returning, standing_of}
use Rattle.assise_model_world.specs.World.{IsClient, view}
use Rattle.assise_model_history.specs.Numbered.{made_in}
use Rattle.assise_model_events.specs.ClientEvents.{Opening, Calling, Noting, Syncing, call_of_client, is_answered, is_awaited, is_full, is_noted, is_opened}
use Rattle.assise_model_events.specs.ClientEvents.{is_refused, is_replicating, is_spent, is_synced, lacks_memory, last_world}
use Rattle.assise_model_events.specs.Dsyncs.{Coalescing, is_coalesced, is_refused, is_synced, lacks_memory}
use Rattle.assise_model_events.specs.Faults.{client_fault, fault_if, is_client, is_too_large, or_else, unless_full}
use Rattle.assise_model_events.specs.Happenings.{Dsyncing, Fsyncing, Trying}
use Rattle.assise_model_events.specs.Machine.{Machine, MachineInvariant}
use Rattle.assise_model_events.proofs.Shared.Rejoined.{stands_is_node}
use Rattle.assise_libfs.specs.Opening.{MayRefuseOpen}

-- ---- the faults of a client

-- there is no such client, it crashed, or its node failed
data ClientFault (known crashed lives : Bool) (r : Refusal) : Type 0 where
  is_bad : known ≡ false → r ≡ BadClient → ClientFault known crashed lives r
  is_gone : known ≡ true → crashed ≡ true → r ≡ ClientGone → ClientFault known crashed lives r
  is_cut_off : known ≡ true → crashed ≡ false → lives ≡ false → r ≡ NodeDown → ClientFault known crashed lives r

which_fault : (b k l : Bool) (r : Refusal) → or_else (fault_if (not b) BadClient) (or_else (fault_if k ClientGone) (fault_if (not l) NodeDown)) ≡ Some r →
    ClientFault b k l r
which_fault false k l r e = is_bad refl (let x : Some BadClient ≡ Some r = e in cc)
which_fault true true l r e = is_gone refl refl (let x : Some ClientGone ≡ Some r = e in cc)
which_fault true false false r e = is_cut_off refl refl refl (let x : Some NodeDown ≡ Some r = e in cc)
which_fault true false true r e = absurd (cc)

-- the client is known, hasn't crashed, and its node hasn't failed
no_client_fault : (b k l : Bool) → or_else (fault_if (not b) BadClient) (or_else (fault_if k ClientGone) (fault_if (not l) NodeDown)) ≡ None →
    (b ≡ true) × ((k ≡ false) × (l ≡ true))
no_client_fault false k l e = absurd (let x : Some BadClient ≡ None = e in cc)
no_client_fault true true l e = absurd (let x : Some ClientGone ≡ None = e in cc)
no_client_fault true false false e = absurd (let x : Some NodeDown ≡ None = e in cc)
no_client_fault true false true e = (refl, (refl, refl))

module _ (m : Machine) (h : MachineInvariant m) (c : ℕ) where
  client_of : is_client m.world c ≡ true → IsClient m.world c
  client_of e = (let parts = and_parts (nat_le 1 c) (nat_le c m.world.clients) e in (leb-true 1 c parts.0, leb-true c m.world.clients parts.1))

  never_opened : is_client m.world c ≡ false → (n : ℕ) → IsOpenedOn m.history c n → ⊥
  never_opened none n o =
      let first = next_opened o.before c n o.durability (fits_in m.history o.before o.since (opens c n o.durability) h.recorded.legal o.split) in
      let within = opened_within m.history o.before o.since c n o.durability h.recorded.legal o.split in
      let count = h.recorded.count in
      let some : is_client m.world c ≡ true =
      and_from (nat_le 1 c) (nat_le c m.world.clients) (le-leb 1 c (omega arith)) (le-leb c m.world.clients (omega arith)) in
      cc

  lost_node : is_client m.world c ≡ true → m.world.lives c ≡ false → HasLostNode c m.history
  lost_node known over = let o = h.recorded.opened c (client_of known) in record {
    node = m.world.home c;
    opened = o.opened;
    failure = not-false (list_any (is_failure_of (m.world.home c)) o.opened.since) (sym o.lives ∙ over);
  }

  cut_off : is_client m.world c ≡ true → m.world.crashed c ≡ false → m.world.lives c ≡ false → IsCutOff c m.history
  cut_off known sound over = let o = h.recorded.opened c (client_of known) in
      (lost_node known over, record { node = m.world.home c; opened = o.opened; no_crash = sym o.crashed ∙ sound })

  may_call : client_fault m c ≡ None → MayCall m.history c
  may_call fine =
      let sound = no_client_fault (is_client m.world c) (m.world.crashed c) (m.world.lives c) fine in
      let o = h.recorded.opened c (client_of sound.0) in
      record {
        node = m.world.home c;
        opened = o.opened;
        no_crash = sym o.crashed ∙ sound.1.0;
        no_failure = not-true (list_any (is_failure_of (m.world.home c)) o.opened.since) (sym o.lives ∙ sound.1.1);
      }

  has_crashed : is_client m.world c ≡ true → m.world.crashed c ≡ true → HasCrashed c m.history
  has_crashed known over = let o = h.recorded.opened c (client_of known) in record {
    node = m.world.home c;
    opened = o.opened;
    crash = sym o.crashed ∙ over;
  }

-- ---- the faults of a call

writes_too_much : (op : Op) → is_too_large op ≡ true → WritesTooMuch op
writes_too_much (Write p offset bytes) e = grind (arith, nat_tests)
writes_too_much _ e = cc

makes_by : (op : Op) (reply : Reply) → makes_inode op reply ≡ true → MakesInode op
makes_by (Create p) reply e = tt
makes_by (Mkdir p) reply e = tt
makes_by _ reply e = cc

data CallFault (fault : Option Refusal) (op : Op) (r : Refusal) : Type 0 where
  of_client : fault ≡ Some r → CallFault fault op r
  of_size : fault ≡ None → is_too_large op ≡ true → r ≡ TooLarge → CallFault fault op r

which_call_fault : (x : Option Refusal) (b : Bool) (op : Op) (r : Refusal) → is_too_large op ≡ b → or_else x (fault_if b TooLarge) ≡ Some r → CallFault x op r
which_call_fault (Some q) b op r size e = of_client e
which_call_fault None true op r size e = of_size refl size (let x : Some TooLarge ≡ Some r = e in cc)
which_call_fault None false op r size e = absurd (cc)

same_refusal : (q r : Refusal) (a : Answer) → a ≡ refused q → a ≡ refused r → r ≡ q
same_refusal q r a e is = let x : refused q ≡ refused r = sym e ∙ is in cc

module _ (m : Machine) (holds : ∥ MachineInvariant m ∥₁) where
  client_refused : (c : ℕ) (op : Op) (r : Refusal) → ClientFault (is_client m.world c) (m.world.crashed c) (m.world.lives c) r → MayRefuseTry c op m.history r
  client_refused c op r (is_bad none is) =
      subst (MayRefuseTry c op m.history) (sym is) (λ n o. ∥∥₁_elim holds (λ x y. absurd x) (λ h. never_opened m h c none n o))
  client_refused c op r (is_gone known over is) = subst (MayRefuseTry c op m.history) (sym is) (∥∥₁_map holds (λ h. has_crashed m h c known over))
  client_refused c op r (is_cut_off known sound over is) = subst (MayRefuseTry c op m.history) (sym is) (∥∥₁_map holds (λ h. cut_off m h c known sound over))

  faulty_client : (c : ℕ) (op : Op) (r : Refusal) → client_fault m c ≡ Some r → MayRefuseTry c op m.history r
  faulty_client c op r fault = client_refused c op r (which_fault (is_client m.world c) (m.world.crashed c) (m.world.lives c) r fault)

  faulty_call : (c : ℕ) (op : Op) (r : Refusal) → CallFault (client_fault m c) op r → MayRefuseTry c op m.history r
  faulty_call c op r (of_client fault) = faulty_client c op r fault
  faulty_call c op r (of_size fine size is) = subst (MayRefuseTry c op m.history) (sym is) (writes_too_much op size, ∥∥₁_map holds (λ h. may_call m h c fine))

  calling_refused : (m' : Machine) (c : ℕ) (op : Op) (a : Answer) (r : Refusal) → Calling m c op a m' → a ≡ refused r → MayRefuseTry c op m.history r
  calling_refused m' c op a r (is_answered reply granted e h) is = absurd (let x : replied reply ≡ refused r = sym e ∙ is in cc)
  calling_refused m' c op a r (is_awaited reply granted e h) is = absurd (let x : not_yet ≡ refused r = sym e ∙ is in cc)
  calling_refused m' c op a r (is_spent reply granted e s k) is =
      let w = last_world m.world granted in
      let x = call_of_client m.world c op reply in
      let own = makes_own (view w (w.home c) c) op x.fresh x.fresh s.makes in
      let fine = first_none (client_fault m c) _ s.tried.fine in
      let made : made_in c m.history ≡ 1048576 = ∥∥₁_elim holds (Coded-set coded_ℕ _ _) (λ h. sym (h.recorded.made c) ∙ s.made) in
      subst (MayRefuseTry c op m.history) (sym (same_refusal InodesSpent r a e is)) (makes_by op _ own.1, (∥∥₁_map holds (λ h. may_call m h c fine), made))
  calling_refused m' c op a r (is_full reply granted e s k) is =
      subst (MayRefuseTry c op m.history) (sym (same_refusal LogFull r a e is))
      (∥∥₁_map holds (λ h. may_call m h c (first_none (client_fault m c) _ s.tried.fine)))
  calling_refused m' c op a r (lacks_memory reply granted e s k) is = subst (MayRefuseTry c op m.history) (sym (same_refusal OutOfMemory r a e is)) tt
  calling_refused m' c op a r (is_refused q fault e same) is =
      subst (MayRefuseTry c op m.history) (sym (same_refusal q r a e is))
      (faulty_call c op q (which_call_fault (client_fault m c) (is_too_large op) op q refl fault))

  syncing_refused : (m' : Machine) (c : ℕ) (op : Op) (a : Answer) (r : Refusal) → Syncing m c op a m' → a ≡ refused r → MayRefuseTry c op m.history r
  syncing_refused m' c op a r (is_synced reply fine e h) is = absurd (let x : replied reply ≡ refused r = sym e ∙ is in cc)
  syncing_refused m' c op a r (is_replicating fine e h) is = absurd (let x : not_yet ≡ refused r = sym e ∙ is in cc)
  syncing_refused m' c op a r (lacks_memory fine all e same) is = subst (MayRefuseTry c op m.history) (sym (same_refusal OutOfMemory r a e is)) tt
  syncing_refused m' c op a r (is_refused q fault e same) is = subst (MayRefuseTry c op m.history) (sym (same_refusal q r a e is)) (faulty_client c op q fault)

  noting_refused : (m' : Machine) (c : ℕ) (a : Answer) (r : Refusal) → Noting m c a m' → a ≡ refused r → MayRefuseTry c Fsync m.history r
  noting_refused m' c a r (is_noted reply fine e h) is = absurd (let x : replied reply ≡ refused r = sym e ∙ is in cc)
  noting_refused m' c a r (lacks_memory fine e same) is = subst (MayRefuseTry c Fsync m.history) (sym (same_refusal OutOfMemory r a e is)) tt
  noting_refused m' c a r (is_refused q fault e same) is =
      subst (MayRefuseTry c Fsync m.history) (sym (same_refusal q r a e is)) (faulty_client c Fsync q fault)

  fsyncing_refused : (m' : Machine) (u : Durability) (c : ℕ) (a : Answer) (r : Refusal) → Fsyncing u m c a m' → a ≡ refused r → MayRefuseTry c Fsync m.history r
  fsyncing_refused m' Pessimistic c a r h is = syncing_refused m' c Fsync a r h is
  fsyncing_refused m' Optimistic c a r h is = noting_refused m' c a r h is

  coalescing_refused : (m' : Machine) (c : ℕ) (a : Answer) (r : Refusal) → Coalescing m c a m' → a ≡ refused r → MayRefuseTry c Dsync m.history r
  coalescing_refused m' c a r (is_synced reply fine e h) is = absurd (let x : replied reply ≡ refused r = sym e ∙ is in cc)
  coalescing_refused m' c a r (is_coalesced fine e h) is = absurd (let x : not_yet ≡ refused r = sym e ∙ is in cc)
  coalescing_refused m' c a r (lacks_memory fine e same) is = subst (MayRefuseTry c Dsync m.history) (sym (same_refusal OutOfMemory r a e is)) tt
  coalescing_refused m' c a r (is_refused q fault e same) is =
      subst (MayRefuseTry c Dsync m.history) (sym (same_refusal q r a e is)) (faulty_client c Dsync q fault)

  dsyncing_refused : (m' : Machine) (u : Durability) (c : ℕ) (a : Answer) (r : Refusal) → Dsyncing u m c a m' → a ≡ refused r → MayRefuseTry c Dsync m.history r
  dsyncing_refused m' Pessimistic c a r h is = syncing_refused m' c Dsync a r h is
  dsyncing_refused m' Optimistic c a r h is = coalescing_refused m' c a r h is

  pub trying_refused : (m' : Machine) (c : ℕ) (op : Op) (a : Answer) (r : Refusal) → Trying m c op a m' → a ≡ refused r → MayRefuseTry c op m.history r
  trying_refused m' c Fsync a r h is = fsyncing_refused m' (durability_of c m.history) c a r h is
  trying_refused m' c Dsync a r h is = dsyncing_refused m' (durability_of c m.history) c a r h is
  trying_refused m' c op a r h is = calling_refused m' c op a r h is

-- ---- the faults of an open

-- there is no such node, it isn't full, or all clients were opened
data OpenFault (s : Option Standing) (b : Bool) (r : Refusal) : Type 0 where
  no_node : r ≡ BadNode → OpenFault s b r
  no_client_left : s ≡ Some full → b ≡ true → r ≡ BadClient → OpenFault s b r
  not_up : (t : Standing) → s ≡ Some t → t ≢ full → r ≡ NodeDown → OpenFault s b r

which_open_fault : (s : Option Standing) (b : Bool) (r : Refusal) → or_else (unless_full NodeDown s) (fault_if b BadClient) ≡ Some r → OpenFault s b r
which_open_fault None b r e = no_node (let x : Some BadNode ≡ Some r = e in cc)
which_open_fault (Some full) true r e = no_client_left refl refl (let x : Some BadClient ≡ Some r = e in cc)
which_open_fault (Some full) false r e = absurd (cc)
which_open_fault (Some (down since)) b r e = not_up (down since) refl (λ is. cc) (let x : Some NodeDown ≡ Some r = e in cc)
which_open_fault (Some (returning since donor stale)) b r e = not_up (returning since donor stale) refl (λ is. cc) (let x : Some NodeDown ≡ Some r = e in cc)

is_down : (m : Machine) (n : ℕ) (t : Standing) → MachineInvariant m → standing_of m.members.nodes n ≡ Some t → t ≢ full → IsDown m.history n
is_down m n t h at other = h.recorded.down n (stands_is_node m n t at) (λ f. other (let x : Some full ≡ Some t = sym (h.members.full_nodes n f) ∙ at in cc))

module _ (m : Machine) (holds : ∥ MachineInvariant m ∥₁) (n : ℕ) (u : Durability) where
  faulty_open : (r : Refusal) → OpenFault (standing_of m.members.nodes n) (nat_le MOST_CLIENTS m.world.clients) r → MayRefuseOpen n m.history r
  faulty_open r (no_node is) = subst (MayRefuseOpen n m.history) (sym is) tt
  faulty_open r (no_client_left up many is) =
      let enough : MOST_CLIENTS ≤ m.world.clients = leb-true MOST_CLIENTS m.world.clients many in
      let count : clients_opened m.history ≡ MOST_CLIENTS =
      ∥∥₁_elim holds (Coded-set coded_ℕ _ _) (λ h. let few = h.clients in let opened = h.recorded.count in omega (arith, enough, few, opened)) in
      subst (MayRefuseOpen n m.history) (sym is) ((λ fell. ∥∥₁_elim holds (λ x y. absurd x) (λ h. h.recorded.up n (h.members.nodes_full n up) fell)), count)
  faulty_open r (not_up t at other is) = subst (MayRefuseOpen n m.history) (sym is) (∥∥₁_map holds (λ h. is_down m n t h at other))

  pub opening_refused : (m' : Machine) (a : Answer) (r : Refusal) → Opening m n u a m' → a ≡ refused r → MayRefuseOpen n m.history r
  opening_refused m' a r (is_opened fine e o) is = absurd (let x : opened _ ≡ refused r = sym e ∙ is in cc)
  opening_refused m' a r (is_refused q fault e same) is =
      subst (MayRefuseOpen n m.history) (sym (same_refusal q r a e is))
      (faulty_open q (which_open_fault (standing_of m.members.nodes n) (nat_le MOST_CLIENTS m.world.clients) q fault))
  opening_refused m' a r (lacks_memory fine e same) is = subst (MayRefuseOpen n m.history) (sym (same_refusal OutOfMemory r a e is)) tt

  pub opened_or_refused : {C : Type 0} (m' : Machine) (result : Result ℕ (Refusal × C)) → Opening m n u (opening_answer result) m' →
      IfErr result (λ back. MayRefuseOpen n m.history back.0)
  opened_or_refused m' (Ok client) h = tt
  opened_or_refused m' (Err back) h = opening_refused m' (refused back.0) back.0 h refl
