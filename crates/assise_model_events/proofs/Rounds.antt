-- What client 1 of two nodes does again and again: it creates a file in an empty root, and unlinks it.
use Rattle.assise_model_events.proofs.Common.{◌≡◌, ◌≢◌, ℕ, Bool, true, false, List, [], ◌∷◌, Option, Some, None, Result, cond, refl, ap, sym, ◌∙◌, eq-eqb, suc}
use Rattle.assise_model_events.proofs.Common.{◌+◌, ◌<◌, ◌≤◌, inl, inr, if◌then◌else◌, ◌++◌, length, subst, arith, length-append, ne_eqb, and_parts, or_cases}
use Rattle.assise_model_events.proofs.Common.{Op, UnlinkCall, Done, Mode, Read, Write, LogRecord, same_name, all_effects, has_some, record_of, Content, regular}
use Rattle.assise_model_events.proofs.Common.{directory, Links, Values, value_after, contains, touched, inode_number, NumberedCall, Lease, serves, MakesCall}
use Rattle.assise_model_events.proofs.Common.{is_for_writing, World, Full, undigested_records, call_makes_inode, step_at_home, view, MayCallUnder, CallsUnder}
use Rattle.assise_model_events.proofs.Common.{Leases, client_lease, is_held, is_written, may_call_under, create_step, no_links, Calling, Granted, Gets}
use Rattle.assise_model_events.proofs.Common.{IsAnswered, HasServingLeases, call_of_client, is_answered, last_leases, last_world, call_entry, replied, try_call}
use Rattle.assise_model_events.proofs.Common.{call_fault, is_too_large, Happens, MachineInvariant, Machine, IsReached}
use Rattle.std.specs.Prelude.{ok_or}
use Rattle.std.specs.Cmp.Lexicographic.{nat_list_cmp_total}
use Rattle.std.specs.FinMap as map
use Rattle.assise_names.specs.declared.reply.TreeError.{TreeError}
use Rattle.assise_names.specs.declared.reply.TreeError.TheVariants.{NoEnt}
use Rattle.assise_record.specs.declared.effect.Effect.TheVariants.{Unlink, Free}
use Rattle.assise_record.specs.declared.effect.Effect.{Effect}
use Rattle.assise_seq_tree.proofs.Shared.Sets.{same_itself}
use Rattle.assise_inode_table.specs.Calls.{as_regular, step, then_or_error, walk_from}
use Rattle.assise_inode_table.specs.Interaction.{Interaction, finish, visits_of, reply_of, effects_of, Step}
use Rattle.assise_inode_table.specs.Reach.{link_of}
use Rattle.assise_inode_table.proofs.Shared.EffectValues.{contains-append}
use Rattle.assise_digest.proofs.Shared.KeptStands.{value_after_one_more}
use Rattle.assise_lease_table.specs.Modes.{strong}
use Rattle.assise_model_events.proofs.Trace.{reaches}
use Rattle.assise_model_events.proofs.Shared.EachEvent.{event_keeps}
use Rattle.assise_model_events.proofs.Shared.LeaseSteps.{Reached, comes_to, full_after}
use Rattle.assise_model_events.proofs.Steady.{old_call, with_old_areas}

-- ---- a file is created in an empty root

abbrev name : List ℕ
name = 97 ∷ []

abbrev pub one_link : ℕ → Links
one_link i = map.insert no_links name i

pub root_after_create : (fresh : ℕ) → fresh ≢ 0 → value_after 0 (Some (directory no_links)) (create_step fresh).effects ≡ Some (directory (one_link fresh))
root_after_create fresh other = rw (ne_eqb fresh 0 other) refl

pub file_after_create : (fresh : ℕ) (old : Option Content) → fresh ≢ 0 → value_after fresh old (create_step fresh).effects ≡ Some (regular [])
file_after_create fresh old other = rw (eq-eqb fresh fresh refl, ne_eqb 0 fresh (λ same. other (sym same))) refl

-- ---- and unlinked

abbrev pub unlink_op : Op
unlink_op = UnlinkCall (name ∷ [])

abbrev pub unlink_step : ℕ → Step
unlink_step i = record { visits = 0 ∷ i ∷ []; reply = Done; effects = Unlink 0 name ∷ Free i ∷ [] }

-- what follows once the file was visited, once its entry was looked for, and once the root was visited
abbrev with_file : ℕ → Option Content → Interaction
with_file i o = then_or_error (ok_or o NoEnt) (λ content. then_or_error (as_regular content) (λ _. finish Done (unlink_step i).effects))

abbrev to_file : Result ℕ TreeError → Interaction
to_file r = then_or_error r (λ i. walk_from i [] (λ j content. then_or_error (as_regular content) (λ _. finish Done (unlink_step j).effects)))

abbrev with_entry : Option Content → Interaction
with_entry o = then_or_error (ok_or o NoEnt) (λ content. to_file (link_of (Some content) name))

finds : (i : ℕ) → map.get (one_link i) name ≡ Some i
finds i = map.get-insert nat_list_cmp_total no_links name i name ∙ ap (λ b. cond b (Some i) (map.get no_links name)) (same_itself name)

pub unlinks : (v : Values) (i fresh : ℕ) → v 0 ≡ Some (directory (one_link i)) → v i ≡ Some (regular []) → step v unlink_op fresh ≡ unlink_step i
unlinks v i fresh root file = grind (arith, ok_or, finds, finish, visits_of, reply_of, effects_of)

none_left : (i : ℕ) → map.remove (one_link i) name ≡ no_links
none_left i =
    map.same_map nat_list_cmp_total (map.slice_cmp-IsAntisymmetric map.nat_cmp-IsAntisymmetric) _ _
    (grind (arith, map.get-remove, nat_list_cmp_total, same_name, map.get-insert, no_links, map.get-empty))
  where
    no_entry : (b : Bool) (o : Option ℕ) → o ≡ None → cond b None (cond b (Some i) o) ≡ o
    no_entry true o none = sym none
    no_entry false o none = refl

pub root_after_unlink : (i : ℕ) → i ≢ 0 → value_after 0 (Some (directory (one_link i))) (unlink_step i).effects ≡ Some (directory no_links)
root_after_unlink i other = rw (ne_eqb i 0 other) (ap (λ links. Some (directory links)) (none_left i))

-- ---- the client that does both

-- it was opened on node 1 and runs, and nothing of its log was digested there
pub record Runs (w : World) : Type 0 where
  pub clients : w.clients ≡ 1
  pub home : w.home 1 ≡ 1
  pub lives : w.lives 1 ≡ true
  pub running : w.crashed 1 ≡ false
  pub full : Full w 1
  pub first : w.first 1 ≡ 0
  pub digested : w.digested 1 1 ≡ 0

-- and two nodes come to this state
pub record Stands (limit : ℕ) (m : Machine) : Type 0 where
  pub reached : IsReached limit m
  pub holds : MachineInvariant m
  pub limit_is : m.limit ≡ limit
  pub runs : Runs m.world

-- still so once it got leases
pub runs_still : (m : Machine) (w : World) (l : Leases) → Runs m.world → Reached m w l → Runs w
runs_still m w l s r = grind (arith, full_after)

-- and once it made a call
runs_on : (w : World) (x : NumberedCall) (u : World) → Runs w → MakesCall w x u → Runs u
runs_on w x u s e = grind (arith, full_after)

-- ---- what it reads

-- its whole log over the area
reads_log : (w : World) (i : ℕ) → Runs w → view w 1 1 i ≡ value_after i (w.area 1 i) (all_effects (w.log 1 1))
unfolding view undigested_records
reads_log w i s = rw (s.first, s.digested) refl

-- and the same once it got leases
pub reads_same : (m : Machine) (w : World) (l : Leases) (i : ℕ) → Runs m.world → Reached m w l → view w 1 1 i ≡ view m.world 1 1 i
reads_same m w l i s r = grind (arith, reads_log, runs_still)

log_longer : (i n : ℕ) (old : Option Content) (rs : List LogRecord) (es : List Effect) → has_some es ≡ true →
    value_after i old (all_effects (rs ++ record_of n es)) ≡ value_after i (value_after i old (all_effects rs)) es
log_longer i n old rs es some = rw some (value_after_one_more i old rs (record { call = n; effects = es }))

one_at_most : (n : ℕ) (es : List Effect) → length (record_of n es) ≤ 1
one_at_most n [] = omega arith
one_at_most n (e ∷ es) = omega arith

-- ---- a call that is answered

served_held : (o : Option Lease) (mode : Mode) → serves o mode ≡ true → is_held o ≡ true
served_held None mode h = cc
served_held (Some a) mode h = refl

served_written : (o : Option Lease) → serves o Write ≡ true → is_written o ≡ true
served_written None h = cc
served_written (Some a) h = grind (arith, and_parts, strong, is_for_writing)

abbrev pub next_call : Machine → Op → NumberedCall
next_call m op = call_of_client m.world 1 op Done

-- the client's call makes effects once it got these leases: all that it needs serve, and its record has room
pub record MayDo (limit : ℕ) (m : Machine) (op : Op) (gs : List Granted) : Type 0 where
  pub fits : is_too_large op ≡ false
  pub gets : Gets (next_call m op) m.world m.leases gs
  pub reply : (step_at_home (last_world m.world gs) (next_call m op)).reply ≡ Done
  pub effects : has_some (step_at_home (last_world m.world gs) (next_call m op)).effects ≡ true
  pub served : HasServingLeases (last_world m.world gs) (last_leases m.leases gs) (next_call m op)
  pub room : length (m.world.records 1) < limit
  pub makes : call_makes_inode (last_world m.world gs) (next_call m op) ≡ true → m.world.made 1 < 1048576

-- and it made them
pub record IsDone (limit : ℕ) (m : Machine) (op : Op) (gs : List Granted) (m' : Machine) : Type 0 where
  pub stands : Stands limit m'
  pub leases : m'.leases ≡ last_leases m.leases gs
  pub made : m'.world.made 1 ≡ (if call_makes_inode (last_world m.world gs) (next_call m op) then suc (m.world.made 1) else m.world.made 1)
  pub records : length (m'.world.records 1) ≤ suc (length (m.world.records 1))
  pub reads : (i : ℕ) → view m'.world 1 1 i ≡ value_after i (view m.world 1 1 i) (step_at_home (last_world m.world gs) (next_call m op)).effects

pub no_fault : (m : Machine) (op : Op) → Runs m.world → is_too_large op ≡ false → call_fault m 1 op ≡ None
no_fault m op s fits = rw (s.clients, s.lives, s.running, fits) refl

module _ (limit : ℕ) (m : Machine) (op : Op) (gs : List Granted) (s : Stands limit m) (d : MayDo limit m op gs) where
  abbrev x : NumberedCall
  x = next_call m op

  abbrev w : World
  w = last_world m.world gs

  abbrev l : Leases
  l = last_leases m.leases gs

  abbrev es : List Effect
  es = (step_at_home w x).effects

  got : Reached m w l
  got = comes_to m x gs s.holds d.gets

  runs_then : Runs w
  runs_then = runs_still m w l s.runs got

  held : (i : ℕ) → contains ((step_at_home w x).visits ++ touched es) i ≡ true → w.holds 1 i ≡ true
  held i there =
      let visits : List ℕ = (step_at_home w x).visits in
      got.leases.held.holds 1 i ∙ elim (or_cases (contains visits i) (contains (touched es) i) (sym (contains-append visits (touched es) i) ∙ there)) [
        | inl visited ↦ served_held (client_lease l 1 i) Read (d.served.visited i visited)
        | inr changed ↦ served_held (client_lease l 1 i) Write (d.served.changed i changed)
      ]

  may : MayCallUnder w l x
  may = record {
    may = record {
      lives = runs_then.lives;
      running = runs_then.running;
      number = sym (got.logs.next 1);
      fresh = ap (λ k. inode_number 1 k) (sym (got.logs.made 1));
      reply = sym d.reply;
      held = held;
      written = λ i there. got.leases.held.writes 1 i ∙ served_written (client_lease l 1 i) (d.served.changed i there);
      room = λ makes. subst (λ k. k < 1048576) (sym (got.logs.made 1)) (d.makes makes);
    };
    visited = d.served.visited;
    changed = d.served.changed;
  }

  called : (u : World) × CallsUnder w l x u
  called = may_call_under w l x got.sound may

  abbrev after : Machine
  after = record m { history = m.history ++ call_entry m.history 1 op Done; world = with_old_areas w called.0; leases = l }

  made_call : MakesCall w x after.world
  made_call = old_call w called.0 x called.1.call

  answered : IsAnswered m x gs after
  answered = record {
    tried = record { fine = no_fault m op s.runs d.fits; next = refl; fresh = refl; gets = d.gets };
    call = record { call = made_call; visited = called.1.visited; changed = called.1.changed };
    room = λ effects. subst (λ k. length (m.world.records 1) < k) (sym s.limit_is) d.room;
    leases = refl;
    adds = record { history = refl; limit = refl; hot = refl };
    keeps = record { members = refl; others = got.others };
  }

  calls_it : Calling m 1 op (replied Done) after
  calls_it = is_answered Done gs refl answered

  runs_after : Runs after.world
  runs_after = runs_on w x after.world runs_then made_call

  stands_after : Happens m (try_call 1 op) (replied Done) after → Stands limit after
  stands_after happens = grind (
    arith,
    reaches limit m after (try_call 1 op) (replied Done) s.reached happens,
    event_keeps m after (try_call 1 op) (replied Done) s.holds happens,
    runs_after,
  )

  log_after : after.world.log 1 1 ≡ w.log 1 1 ++ record_of x.number es
  log_after = subst (λ n. after.world.log n 1 ≡ w.log n 1 ++ record_of x.number es) runs_then.home made_call.log_home

  records_after : length (after.world.records 1) ≤ suc (length (m.world.records 1))
  records_after =
      let own : length (after.world.records 1) ≡ length (w.records 1) + length (record_of x.number es) =
      grind (arith, length-append, record_of) in
      let before : length (w.records 1) ≡ length (m.world.records 1) = ap length (got.logs.records 1) in
      let one : length (record_of x.number es) ≤ 1 = one_at_most x.number es in
      omega (arith, own, before, one)

  reads_after : (i : ℕ) → view after.world 1 1 i ≡ value_after i (view m.world 1 1 i) es
  reads_after i = grind (arith, reads_log, runs_after, log_after, log_longer, runs_then, reads_same, got)

  is_done : Happens m (try_call 1 op) (replied Done) after → IsDone limit m op gs after
  is_done happens = record {
    stands = stands_after happens;
    leases = refl;
    made = made_call.made_own ∙ ap (λ k. if call_makes_inode w x then suc k else k) (got.logs.made 1);
    records = records_after;
    reads = reads_after;
  }

-- it does; of any call but an fsync its outcome is what happens
pub done : (limit : ℕ) (m : Machine) (op : Op) (gs : List Granted) → Stands limit m → MayDo limit m op gs →
    ((m' : Machine) → Calling m 1 op (replied Done) m' → Happens m (try_call 1 op) (replied Done) m') → (m' : Machine) × IsDone limit m op gs m'
done limit m op gs s d happens = (after limit m op gs s d, is_done limit m op gs s d (happens (after limit m op gs s d) (calls_it limit m op gs s d)))
