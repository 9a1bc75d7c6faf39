-- Each thing that an entry tells of can happen.
use Rattle.assise_model_history.proofs.Common.{◌≡◌, ℕ, suc, true, false, [], ◌∷◌, ◌++◌, refl, Fsync, Durability, Done, EntryValue, opens, calls, crashes, fails}
use Rattle.assise_model_history.proofs.Common.{returns, syncs, inode_number, NumberedCall, MayMakeCall, MayFail, WorldInvariant, World, Full, end_of_log}
use Rattle.assise_model_history.proofs.Common.{received_by_all, may_open, may_call, may_crash, may_fail, may_join, may_rest, AddsEntry, IsOpening, IsCall}
use Rattle.assise_model_history.proofs.Common.{IsCrash, IsFailure, IsFailureAgain, IsReturn, losses_of, plain_call, State, IsNode, arith}

-- the entry is written down
abbrev told : State → EntryValue → World → State
told s e u = record { nodes = s.nodes; history = s.history ++ e ∷ []; world = u }

adds_it : (s : State) (e : EntryValue) (u : World) → AddsEntry s e (told s e u)
adds_it s e u = record { nodes = refl; entry = refl }

pub can_open : (s : State) (n : ℕ) (u : Durability) → Full s.world n → (t : State) × IsOpening s n u t
can_open s n u full =
    let v = may_open s.world n full in
    let e : EntryValue = opens (suc s.world.clients) n u in
    (told s e v.0, record { adds = adds_it s e v.0; world = v.1 })

pub can_call : (s : State) (x : NumberedCall) → WorldInvariant s.world → MayMakeCall s.world x →
    (syncs s.history (plain_call x) ≡ true → received_by_all s.world x.client ≡ end_of_log s.world x.client) → (t : State) × IsCall s x t
can_call s x sound may replicated =
    let u = may_call s.world x sound may in
    (told s (calls (plain_call x)) u.0, record { adds = adds_it s (calls (plain_call x)) u.0; world = u.1; replicated = replicated })

-- an fsync of client c
abbrev fsync_of : World → ℕ → NumberedCall
fsync_of w c = record { client = c; number = w.next c; op = Fsync; reply = Done; fresh = inode_number c (w.made c) }

pub can_fsync : (s : State) (c : ℕ) → WorldInvariant s.world → s.world.lives c ≡ true → s.world.crashed c ≡ false → received_by_all s.world c
    ≡ end_of_log s.world c → (x : NumberedCall) × ((x.client ≡ c) × (x.op ≡ Fsync) × ((t : State) × IsCall s x t))
can_fsync s c sound lives running all = (
  fsync_of s.world c,
  (
      grind (arith, can_call)
      ),
)

pub can_crash : (s : State) (c : ℕ) → s.world.lives c ≡ true → s.world.crashed c ≡ false → (t : State) × IsCrash s c t
can_crash s c lives running =
    let u = may_crash s.world c lives running in
    (told s (crashes c) u.0, record { adds = adds_it s (crashes c) u.0; world = u.1 })

pub can_fail : (s : State) (n : ℕ) → MayFail s.world n → (t : State) × IsFailure s n t
can_fail s n may =
    let u = may_fail s.world n may in
    let e : EntryValue = fails n (losses_of s.world n) in
    (told s e u.0, record { adds = adds_it s e u.0; world = u.1 })

pub can_fail_again : (s : State) (n : ℕ) → IsNode s n → (Full s.world n → ⊥) → (t : State) × IsFailureAgain s n t
can_fail_again s n node absent =
    let u = may_rest s.world in
    (told s (fails n []) u.0, record { adds = adds_it s (fails n []) u.0; node = node; absent = absent; world = u.1 })

pub can_return : (s : State) (n donor : ℕ) → IsNode s n → (Full s.world n → ⊥) → Full s.world donor → (t : State) × IsReturn s n donor t
can_return s n donor node absent full =
    let u = may_join s.world n donor record { donor_full = full; absent = absent } in
    (told s (returns n) u.0, record { adds = adds_it s (returns n) u.0; node = node; world = u.1 })
