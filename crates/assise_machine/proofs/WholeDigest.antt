-- A digest as a whole, as the laws have it, and the invariant after it.
use Rattle.assise_machine.proofs.Common.{◌≡◌, ℕ, ◌<◌, Bool, true, length, None, append-nil, refl, ap, sym, subst, ◌∙◌, arith, ∥∥₁_elim, ∥∥₁_map, props}
use Rattle.assise_machine.proofs.Common.{OutOfMemory, WorldInvariant, digest, digested, refused, node_fault, MachineInvariant, DigestsTo, Digesting}
use Rattle.assise_machine.proofs.Common.{undigested_to, is_digested, event_keeps, drops_to, client_in, cut_of, is_full_in, observed, world_of, CutsInvariant}
use Rattle.assise_machine.proofs.Common.{ShapeInvariant, StateValue, leases_of, standings, machine_of, value_of, SoundOf, still_noted, sound_so, NoneListed}
use Rattle.assise_machine.proofs.Common.{digests_to}
use Rattle.assise_lease_table.specs.Leases.{lease_of}
use Rattle.assise_lease_tree.specs.Levels.{is_revoked}
use Rattle.assise_model_events.specs.NodeEvents.Digesting.{lacks_memory}
use Rattle.assise_machine.proofs.DigestedTo.{GoesTo, StillSame, none_to, same_as, trace_to}
use Rattle.assise_machine_state.proofs.Shared.Dropped.{StillDropping, all_dropped, same_dropping}
use Rattle.assise_machine.proofs.Frames.{fine_node}

pub lists_of : (s : StateValue) → ∥ MachineInvariant (observed s) ∥₁ → NoneListed s.members
unfolding observed
lists_of s holds all = ∥∥₁_elim holds (search props) (λ h. h.members.lawful.none_listed all)

-- a digest with its answer, and the invariant after it
pub record Gives (s : StateValue) (n count : ℕ) (u : StateValue) : Type 0 where
  pub happens : Digesting (observed s) n (digested count) (observed u)
  pub holds : ∥ MachineInvariant (observed u) ∥₁
  pub shape : ShapeInvariant u
  pub noted : CutsInvariant u

-- a node that is full digests, in a state where all invariants hold
pub record Begins (s : StateValue) (n : ℕ) : Type 0 where
  pub shape : ShapeInvariant s
  pub holds : ∥ MachineInvariant (observed s) ∥₁
  pub noted : CutsInvariant s
  pub fine : node_fault (observed s) n ≡ None

pub begins : {C : Type 0} (sound : SoundOf C) (n : ℕ) → node_fault (machine_of sound.state) n ≡ None → Begins (value_of sound.state) n
begins sound n fine = record { shape = sound.invariant.shape; holds = sound.invariant.holds; noted = sound.invariant.noted; fine = fine }

module _ {s : StateValue} {n : ℕ} (begun : Begins s n) where
  here : is_full_in (standings s) n ≡ true
  here = fine_node s n begun.fine

  sound : ∥ WorldInvariant (world_of s) ∥₁
  sound = sound_so s begun.holds

  -- `a` records of all clients are digested
  module _ {t : StateValue} {a : ℕ} {is_refused is_ended : Bool} (go : GoesTo s n (length s.clients) t a is_refused is_ended) where
    -- memory ran out before the first
    pub nothing_digested : a ≡ 0 → t ≡ s
    nothing_digested none =
        go.digests ∙ ap (λ k. digests_to s n k (length s.clients)) none ∙ none_to s n begun.shape sound here (length s.clients) (omega arith)

    pub lacks : is_refused ≡ true → a ≡ 0 → Digesting (observed s) n (refused OutOfMemory) (observed t)
    unfolding observed world_of
    lacks stops none =
        let short = go.ended (go.refused stops) in
        lacks_memory begun.fine (omega (arith, short, none)) refl (ap observed (nothing_digested none))

    pub same : StillSame s t n (length s.clients)
    same = same_as s n begun.shape sound here (length s.clients) (omega arith) go

    -- then prefixes go
    abbrev u : StateValue
    u = drops_to t (length t.clients)

    then_same : StillDropping t u
    then_same = same_dropping t same.shape same.sound (length t.clients) (omega arith)

    same_leases : leases_of u ≡ leases_of s
    unfolding leases_of
    same_leases =
        let levels = then_same.levels ∙ same.levels in
        let cuts = then_same.cuts ∙ same.cuts in
        let clients = then_same.clients ∙ same.clients in
        (λ i. record { levels = levels i; cut = λ c j. cut_of (cuts i) c (client_in (clients i) c) j })

    trace : DigestsTo n a (world_of s) (world_of s) s.members (length s.clients) (world_of t) u.members
    trace =
        subst (DigestsTo n a (world_of s) (world_of s) s.members (length s.clients) (world_of t)) (sym then_same.members)
        (subst (λ v. DigestsTo n a (world_of s) (world_of s) s.members (length s.clients) (world_of v) v.members) (sym go.digests)
        (trace_to s n begun.shape sound here a (length s.clients) (omega arith) go.groups))

    digested_now : (0 < undigested_to (world_of s) n (length s.clients) → 0 < a) → Digesting (observed s) n (digested a) (observed u)
    unfolding observed world_of
    digested_now some = is_digested a begun.fine refl (record {
      few = go.few;
      some = some;
      between = world_of t;
      digests = trace;
      drops = all_dropped t same.shape same.sound;
      others = λ k i away. then_same.area k i;
      leases = same_leases;
      adds = record {
        history = then_same.history ∙ same.history ∙ sym (append-nil s.history);
        limit = then_same.limit ∙ same.limit;
        hot = then_same.hot ∙ same.hot;
      };
    })

    gives : (0 < undigested_to (world_of s) n (length s.clients) → 0 < a) → Gives s n a u
    gives some = record {
      happens = digested_now some;
      holds = ∥∥₁_map begun.holds (λ h. event_keeps (observed s) (observed u) (digest n) (digested a) h (digested_now some));
      shape = then_same.shape;
      noted =
          still_noted s u (then_same.cuts ∙ same.cuts) (omega (arith, ap length (then_same.clients ∙ same.clients)))
          (λ c i. ap (λ levels. is_revoked (lease_of (levels.clients i) c)) (then_same.levels ∙ same.levels)) begun.noted;
    }

    -- as the code finds it
    pub gives_as : {x : StateValue} → (0 < undigested_to (world_of s) n (length s.clients) → 0 < a) → x ≡ drops_to t (length s.clients) → Gives s n a x
    gives_as some last = subst (Gives s n a) (sym (last ∙ ap (drops_to t) (sym (ap length same.clients)))) (gives some)
