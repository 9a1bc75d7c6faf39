-- What nodes do keeps the invariant: leases that may go do.
use Rattle.assise_model_events.proofs.Common.{◌≡◌, ℕ, List, [], ◌∷◌, false, refl, ap, sym, subst, ◌∙◌, arith, contains, cases_Bool, cases_eq, lease_of}
use Rattle.assise_model_events.proofs.Common.{without_other, AreDropped, World, still_dropped, IsTrace, last_of, releases, State, ReleasesReady, Leases}
use Rattle.assise_model_events.proofs.Common.{AreLeases, client_lease, AreMembers, OtherAreasStay, Membership, Answer, Leads, Machine, MachineInvariant}
use Rattle.assise_model_events.proofs.Common.{is_ready, Gone, LetsGo, world_after, leases_after, Freed, Frees, leases_freed, IsReleased, Releasing}
use Rattle.assise_model_leases.proofs.Shared.LeasesGo.{goes, release_keeps, free_keeps}
use Rattle.assise_model_events.specs.NodeEvents.Releasing.{is_released}
use Rattle.assise_model_events.proofs.Shared.EventTraces.{with_world, quietly, ends_as}
use Rattle.assise_model_events.proofs.DeliveryKeeps.{quiet_holds, areas_stay}

-- ---- leases go

-- what holds while they go, from a world on
record Stand (o : Membership) (w₀ w : World) (l : Leases) : Type 0 where
  dropped : AreDropped w
  leases : AreLeases w l
  members : AreMembers w o
  records : (c : ℕ) → w.records c ≡ w₀.records c
  clients : w.clients ≡ w₀.clients
  full : w.full ≡ w₀.full

still_stand : (o : Membership) (w₀ w u : World) (l k : Leases) (c i : ℕ) → Stand o w₀ w l → ReleasesReady w l c i u k → OtherAreasStay w u → Stand o w₀ u k
still_stand o w₀ w u l k c i s e others = record {
  dropped = still_dropped w u e.holds.logs e.holds.nodes s.dropped;
  leases = release_keeps w u l k c i s.leases e;
  members = areas_stay w u o e.holds.nodes.full (λ n j f. (e.holds.nodes.same n f).area j) others s.members;
  records = λ d. e.holds.logs.records d ∙ s.records d;
  clients = e.holds.clients.clients ∙ s.clients;
  full = e.holds.nodes.full ∙ s.full;
}

stand_after : (o : Membership) (w₀ w : World) (l : Leases) (gone : List Gone) → Stand o w₀ w l → LetsGo w l gone →
    Stand o w₀ (world_after w gone) (leases_after l gone)
stand_after o w₀ w l [] s t = s
stand_after o w₀ w l (g ∷ gs) s (e, others, t) =
    stand_after o w₀ g.world g.leases gs (still_stand o w₀ w g.world l g.leases g.client g.inode s e others) t

-- one state for each
abbrev states_of : Machine → List Gone → List State
states_of m [] = []
states_of m (g ∷ gs) = with_world m g.world ∷ states_of m gs

trace_of : (m : Machine) (o : Membership) (w₀ w : World) (l : Leases) (gone : List Gone) → Stand o w₀ w l → LetsGo w l gone →
    IsTrace (with_world m w) (states_of m gone)
trace_of m o w₀ w l [] s t = tt
trace_of m o w₀ w l (g ∷ gs) s (e, others, t) = (
  quietly m w g.world (releases g.client g.inode (goes w g.world l g.leases g.client g.inode s.leases e s.dropped)),
  trace_of m o w₀ g.world g.leases gs (still_stand o w₀ w g.world l g.leases g.client g.inode s e others) t,
)

last_gone : (m : Machine) (w : World) (gone : List Gone) → last_of (with_world m w) (states_of m gone) ≡ with_world m (world_after w gone)
last_gone m w [] = refl
last_gone m w (g ∷ gs) = last_gone m g.world gs

-- ---- what isn't ready stays

one_stays : (w : World) (l : Leases) (c i : ℕ) (u : World) (k : Leases) → ReleasesReady w l c i u k → (d j : ℕ) → is_ready w l d j ≡ false →
    client_lease k d j ≡ client_lease l d j
one_stays w l c i u k e d j unready = grind (arith, cases_eq, without_other)

still_ready : (w : World) (l : Leases) (c i : ℕ) (u : World) (k : Leases) → AreDropped w → AreDropped u → ReleasesReady w l c i u k → (d j : ℕ) →
    client_lease k d j ≡ client_lease l d j →
    is_ready u k d j ≡ is_ready w l d j
unfolding AreDropped
still_ready w l c i u k before after e d j same = grind (arith, cases_Bool)

unready_stays : (o : Membership) (w₀ w : World) (l : Leases) (gone : List Gone) → Stand o w₀ w l → LetsGo w l gone → (d j : ℕ) → is_ready w l d j ≡ false →
    client_lease (leases_after l gone) d j ≡ client_lease l d j
unready_stays o w₀ w l [] s t d j unready = refl
unready_stays o w₀ w l (g ∷ gs) s (e, others, t) d j unready =
    let next : Stand o w₀ g.world g.leases = still_stand o w₀ w g.world l g.leases g.client g.inode s e others in
    let same : client_lease g.leases d j ≡ client_lease l d j = one_stays w l g.client g.inode g.world g.leases e d j unready in
    unready_stays o w₀ g.world g.leases gs next t d j (still_ready w l g.client g.inode g.world g.leases s.dropped next.dropped e d j same ∙ unready) ∙ same

-- ---- nodes give up theirs

pub freed_same : (w : World) (l : Leases) (fs : List Freed) (c i : ℕ) → Frees w l fs → client_lease (leases_freed l fs) c i ≡ client_lease l c i
freed_same w l [] c i frees = refl
freed_same w l (f ∷ fs) c i frees = freed_same w f.leases fs c i frees.1 ∙ ap (λ ls. lease_of ls c) (frees.0.freed.clients i)

freed_keeps : (w u : World) (l : Leases) (freed : List Freed) → u.full ≡ w.full → AreLeases u l → Frees w l freed → AreLeases u (leases_freed l freed)
freed_keeps w u l [] full a t = a
freed_keeps w u l (f ∷ fs) full a (e, t) =
    freed_keeps w u f.leases fs full
    (free_keeps u l f.leases f.node a (grind (arith, contains))) t

-- ---- all of it

module _ (m m' : Machine) (gone : List Gone) (freed : List Freed) (h : MachineInvariant m) (e : IsReleased m gone freed m') where
  begins : Stand m.members m.world m.world m.leases
  begins = record { dropped = h.dropped; leases = h.leases; members = h.members; records = λ c. refl; clients = refl; full = refl }

  ends : Stand m.members m.world (world_after m.world gone) (leases_after m.leases gone)
  ends = stand_after m.members m.world m.world m.leases gone begins e.releases

  released_leads : Leads m m'
  released_leads = grind
      (arith, trace_of m m.members m.world m.world m.leases gone begins e.releases, last_gone m m.world gone, ends_as, world_after m.world gone)

  released_holds : MachineInvariant m'
  released_holds =
      quiet_holds m m' h released_leads e.adds
      (subst AreDropped (sym e.world) ends.dropped)
      (rw (e.world, e.leases) (freed_keeps m.world (world_after m.world gone) (leases_after m.leases gone) freed ends.full ends.leases e.frees))
      (rw (e.world, e.members) ends.members)
      (ap (λ o. o.epoch) e.members)
      (λ c. rw (e.world, ends.records c) (omega arith))
      (ap (λ w. w.clients) e.world ∙ ends.clients)

pub release_leads : (m m' : Machine) (a : Answer) → MachineInvariant m → Releasing m a m' → Leads m m'
release_leads m m' a h (is_released gone freed is e) = released_leads m m' gone freed h e

pub release_holds : (m m' : Machine) (a : Answer) → MachineInvariant m → Releasing m a m' → MachineInvariant m'
release_holds m m' a h (is_released gone freed is e) = released_holds m m' gone freed h e

pub unready_kept : (m m' : Machine) (a : Answer) → MachineInvariant m → Releasing m a m' → (c i : ℕ) → is_ready m.world m.leases c i ≡ false →
    client_lease m'.leases c i ≡ client_lease m.leases c i
unready_kept m m' a h s c i unready = grind (arith, freed_same, unready_stays, begins)
