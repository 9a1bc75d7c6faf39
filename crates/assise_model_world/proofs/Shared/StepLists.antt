-- Steps, one after another.
use Rattle.assise_model_world.proofs.Common.{◌≡◌, ℕ, ◌-◌, List, [], ◌∷◌, refl, ap, sym, arith, filter, below, Moves, opens, makes_call, raises_goals, crashes}
use Rattle.assise_model_world.proofs.Common.{acquires, releases, delivers, digests, drops, coalesces, fails, joins, rests, Runs, last, begun, NoneFalls}
use Rattle.assise_model_world.proofs.Common.{StayReplicated, Stands, Counted, Numbered, AreMade, Guarded, Compatible, WritesAreHeld, Areas, CallsInvariant}
use Rattle.assise_model_world.proofs.Common.{WorldInvariant, AreDropped, World, least_of, end_of_log, digested_by_all, received_by_all, records_between}
use Rattle.assise_model_world.proofs.Common.{call_at, first_undigested_at, first_undigested, first_unreplicated, steps, now, tree, value_below}
use Rattle.assise_model_world.proofs.Common.{calls_replicated, opening_spells, root_alone}
use Rattle.assise_model_world.proofs.Shared.ClientsStaying.{open_sound, open_falls, raise_sound, raise_falls}
use Rattle.assise_model_world.proofs.Shared.ClientsStaying.{crash_sound, crash_falls, acquire_sound, acquire_falls}
use Rattle.assise_model_world.proofs.Shared.ClientsStaying.{release_sound, release_falls, rest_sound, rest_falls}
use Rattle.assise_model_world.proofs.Shared.CoalescedTail.{coalesce_sound, coalesce_falls}
use Rattle.assise_model_world.proofs.Shared.CallKeeps.{call_sound, call_falls, call_stays}
use Rattle.assise_model_world.proofs.Shared.DeliveryKeeps.{deliver_sound, deliver_falls}
use Rattle.assise_model_world.proofs.Shared.DigestKeeps.{digest_sound, digest_falls}
use Rattle.assise_model_world.proofs.Shared.DropKeeps.{drop_sound, drop_falls}
use Rattle.assise_model_world.proofs.Shared.FailureKeeps.{fail_sound, fail_falls, fail_stays, filter-lower}
use Rattle.assise_model_world.proofs.JoinKeeps.{join_sound, join_falls}

-- ---- one step

step_keeps : (w w' : World) → WorldInvariant w → Moves w w' → WorldInvariant w' × NoneFalls w w'
step_keeps w w' s (opens n e) = (open_sound w w' n s e, open_falls w w' n s e)
step_keeps w w' s (makes_call x e) = (call_sound w w' x s e, call_falls w w' x s e)
step_keeps w w' s (raises_goals k e) = (raise_sound w w' k s e, raise_falls w w' k s e)
step_keeps w w' s (crashes c e) = (crash_sound w w' c s e, crash_falls w w' c s e)
step_keeps w w' s (acquires c i mode e) = (acquire_sound w w' c i mode s e, acquire_falls w w' c i mode s e)
step_keeps w w' s (releases c i e) = (release_sound w w' c i s e, release_falls w w' c i s e)
step_keeps w w' s (delivers n c k e) = (deliver_sound w w' n c k e s, deliver_falls w w' n c k e s)
step_keeps w w' s (digests n c k e) = (digest_sound w w' n c k s e, digest_falls w w' n c k s e)
step_keeps w w' s (drops f e) = (drop_sound w w' f s e, drop_falls w w' f s e)
step_keeps w w' s (coalesces c k new was e) = (coalesce_sound w w' c k new was s e, coalesce_falls w w' c k new was s e)
step_keeps w w' s (fails n e) = (fail_sound w w' n s e, fail_falls w w' n s e)
step_keeps w w' s (joins n donor e) = (join_sound w w' n donor e s, join_falls w w' n donor e s)
step_keeps w w' s (rests e) = (rest_sound w w' s e, rest_falls w w' s e)

pub step_sound : (w w' : World) → WorldInvariant w → Moves w w' → WorldInvariant w'
step_sound w w' s e = (step_keeps w w' s e).0

pub step_falls : (w w' : World) → WorldInvariant w → Moves w w' → NoneFalls w w'
step_falls w w' s e = (step_keeps w w' s e).1

-- ---- the replicated calls stay

stay-same : (w w' : World) → w'.calls ≡ w.calls → StayReplicated w w'
unfolding StayReplicated calls_replicated
stay-same w w' e = ap (λ xs. filter (below (first_unreplicated w)) xs) e

pub step_stays : (w w' : World) → WorldInvariant w → Moves w w' → StayReplicated w w'
step_stays w w' s h = grind (arith, stay-same, call_stays, fail_stays)

-- ---- runs

pub run_sound : (w : World) (us : List World) → WorldInvariant w → Runs w us → WorldInvariant (last w us)
run_sound w [] s r = s
run_sound w (u ∷ us) s r = run_sound u us (step_sound w u s r.0) r.1

pub run_falls : (w : World) (us : List World) → WorldInvariant w → Runs w us → NoneFalls w (last w us)
run_falls w [] s r = record { unreplicated = λ c. omega arith; undigested = λ c. omega arith }
run_falls w (u ∷ us) s r = grind (arith, run_falls u us (step_sound w u s r.0) r.1, step_falls w u s r.0)

stays-on : (w u v : World) → NoneFalls w u → StayReplicated w u → StayReplicated u v → StayReplicated w v
unfolding StayReplicated calls_replicated
stays-on w u v up one rest = grind (arith, filter-lower)

pub run_stays : (w : World) (us : List World) → WorldInvariant w → Runs w us → StayReplicated w (last w us)
run_stays w [] s r = stay-same w w refl
run_stays w (u ∷ us) s r = stays-on w u (last u us) (step_falls w u s r.0) (step_stays w u s r.0) (run_stays u us (step_sound w u s r.0) r.1)

-- ---- the start

begun_coherent : (nodes : List ℕ) → CallsInvariant (begun nodes)
unfolding now tree AreMade Numbered Counted Stands Guarded Compatible Areas value_below first_undigested_at first_undigested steps records_between call_at
    end_of_log received_by_all digested_by_all
begun_coherent nodes = grind (arith, opening_spells, root_alone)

begun_sound : (nodes : List ℕ) → WorldInvariant (begun nodes)
unfolding end_of_log WritesAreHeld
begun_sound nodes = record {
  coherent = begun_coherent nodes;
  few_records = λ c. omega arith;
  goals = λ c. omega arith;
  single = λ c k t low from to. refl;
  unused = λ c h. refl;
  held = λ c i h. h;
  prefixes = λ n c f. refl;
  opened = λ c h. cc;
  homes = λ c h. cc;
  whole = λ c h. refl;
  left = λ n c h f. refl;
}

none_digested : (ns : List ℕ) → least_of ns (λ n. 0) 0 ≡ 0
none_digested [] = refl
none_digested (n ∷ ns) = (let t : least_of ns (λ n. 0) 0 ≡ 0 = none_digested ns in omega (arith, t))

pub begun_dropped : (nodes : List ℕ) → AreDropped (begun nodes)
unfolding AreDropped digested_by_all end_of_log
begun_dropped nodes c = sym (none_digested nodes)

pub every_run : (nodes : List ℕ) (us : List World) → Runs (begun nodes) us → WorldInvariant (last (begun nodes) us)
every_run nodes us r = run_sound (begun nodes) us (begun_sound nodes) r
