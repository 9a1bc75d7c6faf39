-- What a call that has its leases changes of the state is what the laws mean by it.
use Rattle.assise_machine_calls.proofs.Common.{◌≡◌, ◌≢◌, ◌⊎◌, ℕ, ◌+◌, ◌<◌, ◌≤◌, ◌==◌, ◌&&◌, not, Bool, true, false, List, [], ◌∷◌, ◌++◌, length, Option, None}
use Rattle.assise_machine_calls.proofs.Common.{Some, Result, Err, inl, inr, refl, ap, sym, subst, ◌∙◌, arith, eq-eqb, list_any, ∥∥₁_elim, props, and_cases}
use Rattle.assise_machine_calls.proofs.Common.{and_parts, both_ways, eqb-true, or_cases, Op, Mode, Read, Write, Refusal, InodesSpent, LogFull, OutOfMemory}
use Rattle.assise_machine_calls.proofs.Common.{TooLarge, Done, EntryValue, calls, Effect, has_some, contains, makes, touched, Step, inode_number, NumberedCall}
use Rattle.assise_machine_calls.proofs.Common.{Lease, serves, strong, log_end, LogHasRoom, ReceivedLog, RegionValue, MakesCall, is_for_writing, World}
use Rattle.assise_machine_calls.proofs.Common.{call_makes_inode, end_of_log, step_at_home, client_lease, is_held, is_written, records_below, Calling}
use Rattle.assise_machine_calls.proofs.Common.{HasServingLeases, call_of_client, is_answered, Answer, refused, replied, call_fault, client_fault, fault_if}
use Rattle.assise_machine_calls.proofs.Common.{is_too_large, or_else, MachineInvariant, state_of, client_runs, first_none, after_call, ClientValue, client_in}
use Rattle.assise_machine_calls.proofs.Common.{with_call, with_client, HasLog, log_in, with_call_in, observed, own_seen, world_of, IsNumber, CutsInvariant}
use Rattle.assise_machine_calls.proofs.Common.{ShapeInvariant, StateValue, leases_of, standings, call_areas, call_seen, call_shaped, lives_unfailed, call_keeps}
use Rattle.assise_machine_calls.proofs.Common.{call_noted, home_log, own_of_unfailed, turn_answer, IsReady, next_call, room_fault}
use Rattle.assise_inode_table.proofs.Shared.EffectValues.{contains-append}
use Rattle.assise_model_world.specs.Chances.{MayMakeCall}
use Rattle.assise_model_events.proofs.Shared.Answerable.{is_tried}
use Rattle.assise_model_events.proofs.Shared.LackAnswerable.{full_can, memory_can, spent_can}
use Rattle.assise_machine_calls.specs.declared.turn.Turn.{Turn}
use Rattle.assise_machine_calls.proofs.SyncChanges.{call_leases, few_made, fine_number, made_counted, next_counted, next_low}

-- ---- leases that serve

served_held : (o : Option Lease) (mode : Mode) → serves o mode ≡ true → is_held o ≡ true
served_held None mode h = cc
served_held (Some a) mode h = refl

for_writing : (mode : Mode) → strong mode Write ≡ true → is_for_writing mode ≡ true
for_writing Read h = cc
for_writing Write h = refl

served_written : (o : Option Lease) → serves o Write ≡ true → is_written o ≡ true
served_written None h = cc
served_written (Some a) h = for_writing a.mode (and_parts (not a.revoked) (strong a.mode Write) h).1

-- ---- which of two faults stands

either_fault : (spent full : Bool) (r : Refusal) → or_else (fault_if spent InodesSpent) (fault_if full LogFull) ≡ Some r →
    ((r ≡ InodesSpent) × (spent ≡ true)) ⊎ ((r ≡ LogFull) × (spent ≡ false) × (full ≡ true))
either_fault true full r fault = inl (cc, refl)
either_fault false true r fault = inr (cc, refl, refl)
either_fault false false r fault = absurd (let none : None ≡ Some r = fault in cc)

no_fault : (spent full : Bool) → or_else (fault_if spent InodesSpent) (fault_if full LogFull) ≡ None → (spent ≡ false) × (full ≡ false)
no_fault true full none = absurd (let some : Some InodesSpent ≡ None = none in cc)
no_fault false true none = absurd (let some : Some LogFull ≡ None = none in cc)
no_fault false false none = (refl, refl)

-- what is at most a number and isn't it where something holds is below it there
below_where : (b : Bool) (k most : ℕ) → (b && (k == most)) ≡ false → k ≤ most → b ≡ true → k < most
below_where b k most not_both low holds =
    elim (and_cases b (k == most) not_both) [
      | inl no_b ↦ absurd (both_ways b no_b holds)
      | inr other ↦ (let differs : k ≢ most = λ same. both_ways (k == most) other (eq-eqb k most same) in omega (arith, low, differs))
    ]

-- ---- what the code has

-- why a call with these effects is refused whatever memory there is
abbrev pub room_fault_of : StateValue → ℕ → List Effect → Option Refusal
room_fault_of s c es = room_fault (client_in s.clients c) c (log_in s.nodes (client_in s.clients c).home c) es

pub fault_is : (s : StateValue) (c : ℕ) (es fs : List Effect) (told fault : Option Refusal) → fs ≡ es → told ≡ room_fault_of s c fs → told ≡ fault →
    room_fault_of s c es ≡ fault
fault_is s c es fs told fault same is_told is = ap (room_fault_of s c) (sym same) ∙ sym is_told ∙ is

-- an event with its answer, and the state after it
pub record Commits (s : StateValue) (c : ℕ) (op : Op) (a : Answer) (s' : StateValue) : Type 0 where
  pub happens : Calling (observed s) c op a (observed s')
  pub shape : ShapeInvariant s'
  pub noted : CutsInvariant s'

-- there was no memory, and all stayed
pub lacking_given : (s : StateValue) (c : ℕ) (op : Op) (result : Result Turn Refusal) (r : Refusal) (rs : List RegionValue) (h : List EntryValue) →
    call_fault (observed s) c op ≡ None →
    result ≡ Err r → r ≡ OutOfMemory → rs ≡ s.nodes → h ≡ s.history →
    Calling (observed s) c op (turn_answer result) (observed (record s { nodes = rs; history = h }))
lacking_given s c op result r rs h fine is memory nodes history =
    let answer : refused OutOfMemory ≡ turn_answer result = sym (ap turn_answer is ∙ ap refused memory) in
    subst (λ v. Calling (observed s) c op (turn_answer result) (observed v)) (λ i. record s { nodes = sym nodes i; history = sym history i })
    (subst (λ a. Calling (observed s) c op a (observed s)) answer (memory_can (observed s) c op Done fine))

-- ---- the client and its log

-- a client that may make a call
pub call_client : (s : StateValue) (c : ℕ) (op : Op) → call_fault (observed s) c op ≡ None → client_fault (observed s) c ≡ None
call_client s c op fine = first_none (client_fault (observed s) c) (fault_if (is_too_large op) TooLarge) fine

pub call_number : (s : StateValue) (c : ℕ) (op : Op) → call_fault (observed s) c op ≡ None → IsNumber s.clients c
call_number s c op fine = fine_number s c (call_client s c op fine)

module _ (s : StateValue) (c : ℕ) (op : Op) (shape : ShapeInvariant s) (fine : call_fault (observed s) c op ≡ None) where
  abbrev home : ℕ
  home = (client_in s.clients c).home

  there : IsNumber s.clients c
  there = call_number s c op fine

  pub call_unfailed : (client_in s.clients c).failed ≡ false
  unfolding observed
  call_unfailed = lives_unfailed s c (client_runs (observed s) c (call_client s c op fine)).0

  pub call_log : HasLog s.nodes home c
  call_log = home_log s c shape there call_unfailed

  own_is : own_seen s c ≡ log_in s.nodes home c
  unfolding own_seen
  own_is =
      ap (λ n. log_in s.nodes n c) (own_of_unfailed (standings s) (client_in s.clients c) call_unfailed)

  records_are : (world_of s).records c ≡ (log_in s.nodes home c).log.records
  unfolding world_of
  records_are = ap (λ l. l.log.records) own_is

  end_is : end_of_log (world_of s) c ≡ log_end (log_in s.nodes home c).log
  unfolding world_of end_of_log
  end_is = ap (λ l. log_end l.log) own_is

  limit_is : (log_in s.nodes home c).log.limit ≡ s.limit
  limit_is = shape.limits home c call_log

  made_is : (world_of s).made c ≡ (client_in s.clients c).made
  unfolding world_of
  made_is = refl

  next_is : (world_of s).next c ≡ (client_in s.clients c).next
  unfolding world_of
  next_is = refl

  module _ (holds : ∥ MachineInvariant (observed s) ∥₁) where
    abbrev client_fine : client_fault (observed s) c ≡ None
    client_fine = call_client s c op fine

    pub call_made : (client_in s.clients c).made ≤ 1048576
    call_made = subst (λ k. k ≤ 1048576) made_is (few_made s c holds)

    end_low : end_of_log (world_of s) c ≤ length s.history
    unfolding observed
    end_low = ∥∥₁_elim holds (search props) (λ h. records_below (state_of (observed s)) c h.sound h.recorded)

    pub end_fits : length s.history < 9223372036854775808 → log_end (log_in s.nodes home c).log + 1 < 18446744073709551616
    end_fits few = omega (arith, few, end_low, end_is)

    pub next_fits : length s.history < 9223372036854775808 → (client_in s.clients c).next + 1 < 18446744073709551616
    next_fits few = omega (arith, few, next_low s c holds, next_is)

    log_within : length (log_in s.nodes home c).log.records ≤ (log_in s.nodes home c).log.limit
    unfolding observed
    log_within =
        let within : length ((world_of s).records c) ≤ s.limit = ∥∥₁_elim holds (search props) (λ h. h.logs c) in
        omega (arith, within, ap length records_are, limit_is)

    held_is : (i : ℕ) → (world_of s).holds c i ≡ is_held (client_lease (leases_of s) c i)
    unfolding world_of
    held_is i = refl

    written_is : (i : ℕ) → (world_of s).writes c i ≡ is_written (client_lease (leases_of s) c i)
    unfolding world_of
    written_is i = refl

    -- ---- a call that has its leases

    module _ (t : Step) (ready : IsReady (observed s) c op t) where
      abbrev old : World
      old = world_of s

      abbrev next : NumberedCall
      next = next_call old c op

      abbrev log : ReceivedLog
      log = log_in s.nodes home c

      is_step : t ≡ step_at_home old next
      unfolding observed
      is_step = ready.step

      served : HasServingLeases old (leases_of s) next
      unfolding observed
      served = ready.served

      effects_are : t.effects ≡ (step_at_home old next).effects
      effects_are = ap (λ u. u.effects) is_step

      makes_is : list_any (makes (inode_number c (client_in s.clients c).made)) t.effects ≡ call_makes_inode old next
      makes_is =
          ap (λ k. list_any (makes (inode_number c k)) t.effects) (sym made_is)
          ∙ ap (λ es. list_any (makes (inode_number c (old.made c))) es) effects_are

      abbrev spent : Bool
      spent = list_any (makes (inode_number c (client_in s.clients c).made)) t.effects && ((client_in s.clients c).made == 1048576)

      abbrev full : Bool
      full = has_some t.effects && (length log.log.records == log.log.limit)

      made_below : spent ≡ false → call_makes_inode old next ≡ true → old.made c < 1048576
      made_below unspent makes_one =
          let low : (client_in s.clients c).made < 1048576 =
          below_where (list_any (makes (inode_number c (client_in s.clients c).made)) t.effects) (client_in s.clients c).made 1048576 unspent call_made
          (makes_is ∙ makes_one) in
          subst (λ k. k < 1048576) (sym made_is) low

      -- it is refused

      spent_given : spent ≡ true → Calling (observed s) c op (refused InodesSpent) (observed s)
      unfolding observed
      spent_given both =
          let parts = and_parts (list_any (makes (inode_number c (client_in s.clients c).made)) t.effects) ((client_in s.clients c).made == 1048576) both in
          spent_can (observed s) c op Done fine served (sym makes_is ∙ parts.0) (made_is ∙ eqb-true (client_in s.clients c).made 1048576 parts.1)

      full_given : spent ≡ false → full ≡ true → Calling (observed s) c op (refused LogFull) (observed s)
      unfolding observed
      full_given unspent both =
          let parts = and_parts (has_some t.effects) (length log.log.records == log.log.limit) both in
          full_can (observed s) c op Done fine served (made_below unspent) (ap has_some (sym effects_are) ∙ parts.0)
          (ap length records_are ∙ eqb-true (length log.log.records) log.log.limit parts.1 ∙ limit_is)

      pub refused_given : (r : Refusal) → room_fault_of s c t.effects ≡ Some r → Calling (observed s) c op (refused r) (observed s)
      refused_given r fault =
          elim (either_fault spent full r fault) [
            | inl is ↦ subst (λ q. Calling (observed s) c op (refused q) (observed s)) (sym is.0) (spent_given is.1)
            | inr is ↦ subst (λ q. Calling (observed s) c op (refused q) (observed s)) (sym is.0) (full_given is.1 is.2)
          ]

      -- it is answered

      pub has_room : room_fault_of s c t.effects ≡ None → has_some t.effects ≡ true → LogHasRoom log
      has_room none some = below_where (has_some t.effects) (length log.log.records) log.log.limit (no_fault spent full none).1 log_within some

      module _ (none : room_fault_of s c t.effects ≡ None) where
        abbrev made_call : NumberedCall
        made_call = call_of_client old c op t.reply

        abbrev then : StateValue
        then = after_call s made_call

        held : (i : ℕ) → contains ((step_at_home old next).visits ++ touched (step_at_home old next).effects) i ≡ true → old.holds c i ≡ true
        held i needed =
            let visits : List ℕ = (step_at_home old next).visits in
            let changes : List ℕ = touched (step_at_home old next).effects in
            held_is i ∙ elim (or_cases (contains visits i) (contains changes i) (sym (contains-append visits changes i) ∙ needed)) [
              | inl visited ↦ served_held (client_lease (leases_of s) c i) Read (served.visited i visited)
              | inr changed ↦ served_held (client_lease (leases_of s) c i) Write (served.changed i changed)
            ]

        may : MayMakeCall old made_call
        unfolding observed
        may =
            let runs = client_runs (observed s) c client_fine in
            record {
              lives = runs.0;
              running = runs.1;
              number = refl;
              fresh = refl;
              reply = ap (λ u. u.reply) is_step;
              held = held;
              written = λ i needed. written_is i ∙ served_written (client_lease (leases_of s) c i) (served.changed i needed);
              room = made_below (no_fault spent full none).0;
            }

        called : MakesCall old made_call (world_of then)
        called = call_seen s made_call shape (made_counted s c holds) (few_made s c holds) may

        room : has_some (step_at_home old next).effects ≡ true → length (old.records c) < s.limit
        room some =
            let low : LogHasRoom log = has_room none (ap has_some effects_are ∙ some) in
            omega (arith, low, ap length records_are, limit_is)

        answered : Calling (observed s) c op (replied t.reply) (observed then)
        unfolding observed
        answered = is_answered t.reply [] refl (record {
          tried = is_tried (observed s) c op t.reply fine;
          call = record { call = called; visited = served.visited; changed = served.changed };
          room = room;
          leases = call_leases s made_call;
          adds = record {
            history = ap (λ k. s.history ++ calls (record { client = c; number = k; op = op; reply = t.reply }) ∷ []) (next_counted s c holds);
            limit = refl;
            hot = call_keeps s.nodes (client_in s.clients c).home c (old.next c) _;
          };
          keeps = record { members = refl; others = call_areas s made_call };
        })

        then_shaped : ShapeInvariant then
        then_shaped = call_shaped s made_call shape may.lives

        pub answered_given : CutsInvariant s → (n number : ℕ) (makes_one : Bool) (e : EntryValue) (rs : List RegionValue) (ds : List ClientValue)
            (g h : List EntryValue) → n ≡ home → number ≡ (client_in s.clients c).next →
            makes_one ≡ list_any (makes (inode_number c (client_in s.clients c).made)) t.effects →
            e ≡ calls (record { client = c; number = number; op = op; reply = t.reply }) →
            rs ≡ with_call_in s.nodes n c number t.effects → ds ≡ with_client s.clients c (with_call makes_one (client_in s.clients c)) → g ≡ s.history →
            h ≡ g ++ e ∷ [] →
            Commits s c op (replied t.reply) (record s { nodes = rs; clients = ds; history = h })
        answered_given noted n number makes_one e rs ds g h home_is number_is makes_one_is entry nodes_are clients_are history_was history_is =
            let numbered : number ≡ old.next c = number_is ∙ sym next_is in
            let nodes_now : rs ≡ then.nodes =
            nodes_are
            ∙ ap (λ m. with_call_in s.nodes m c number t.effects) home_is
            ∙ ap (λ k. with_call_in s.nodes (client_in s.clients c).home c k t.effects) numbered
            ∙ ap (λ es. with_call_in s.nodes (client_in s.clients c).home c (old.next c) es) effects_are in
            let clients_now : ds ≡ then.clients = clients_are ∙ ap (λ b. with_client s.clients c (with_call b (client_in s.clients c)))
            (makes_one_is ∙ makes_is) in
            let told : h ≡ then.history =
            history_is ∙ ap (λ es. es ++ e ∷ []) history_was
            ∙ ap (λ f. s.history ++ f ∷ []) (entry ∙ ap (λ k. calls (record { client = c; number = k; op = op; reply = t.reply })) numbered) in
            let now : then ≡ record s { nodes = rs; clients = ds; history = h } =
            λ i. record s { nodes = sym nodes_now i; clients = sym clients_now i; history = sym told i } in
            record {
              happens = subst (λ v. Calling (observed s) c op (replied t.reply) (observed v)) now answered;
              shape = subst ShapeInvariant now then_shaped;
              noted = subst CutsInvariant now (call_noted s made_call noted);
            }
