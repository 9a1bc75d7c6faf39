-- What the main thread does in one take leads on.
use Rattle.assise_threads.proofs.Common.{◌≡◌, ◌∙◌, ap, Option, None, Some, List, [], ◌∷◌, refl, sym, subst, is_some, true, false, ∥∥₁_map, IsLegal, Pass, Opens}
use Rattle.assise_threads.proofs.Common.{Alone, Never, Extends, last, seen, IsPassTurn, Happened, InOneTake, Command, Cluster, NumberedCommand, led_from, IsLed}
use Rattle.assise_threads.proofs.Common.{machine, IsLedTo, IsWorkedTo, led_by, led_to_itself, ClusterOf, Answer, ClusterEvent, back, crash, digest, fail, join}
use Rattle.assise_threads.proofs.Common.{raise, refill, release_ready, set_hot, Machine, Response, is_made, is_out, Told, machine_begun, machine_made}
use Rattle.assise_threads.proofs.Common.{machine_seen, DoesTake}
use Rattle.assise_keeper.specs.Passes.{opens}
use Rattle.assise_model_events.specs.Happenings.{Happens}
use Rattle.assise_threads.specs.declared.takes.Take.{Take}
use Rattle.assise_threads.specs.declared.takes.Take.TheVariants.{Digest, Release, SetHot, Crash, Fail, BeginReturn, Refill, Join, Raise, Tree, Check}

stays_led : (m m' : Machine) → m' ≡ m → IsLedTo m m'
stays_led m m' same = subst (IsLedTo m) (sym same) (led_to_itself m)

pub take_leads : (take : Take) (a : Response) (m : Machine) (es : Told) (m' : Machine) → DoesTake take a m es m' → IsLedTo m m'
take_leads (Digest n) a m es m' h = led_by m (digest n) h.answer m' h.event.happens
take_leads Release a m es m' h = led_by m release_ready h.answer m' h.event.happens
take_leads (SetHot n capacity) a m es m' (is_made least most h) = led_by m (set_hot n capacity) h.answer m' h.event.happens
take_leads (SetHot n capacity) a m es m' (is_out out is h) = stays_led m m' h.stays
take_leads (Crash c) a m es m' h = led_by m (crash c) h.answer m' h.event.happens
take_leads (Fail n) a m es m' h = led_by m (fail n) h.answer m' h.event.happens
take_leads (BeginReturn n) a m es m' h = led_by m (back n) h.answer m' h.event.happens
take_leads (Refill n) a m es m' h = led_by m (refill n) h.answer m' h.event.happens
take_leads (Join n) a m es m' h = led_by m (join n) h.answer m' h.event.happens
take_leads (Raise n) a m es m' h = led_by m (raise n) h.answer m' h.event.happens
take_leads (Tree n) a m es m' h = stays_led m m' h.stays
take_leads Check a m es m' h = stays_led m m' h.stays

-- ---- from what the pass has seen last

-- a fact of two values is one of two that are the same
pub between : {X : Type 0} (P : X → X → Type 0) (a b : X) {c d : X} → a ≡ c → b ≡ d → P a b → P c d
between P a b {c} {d} left right h = subst (λ z. P z d) left (subst (P a) right h)

abbrev pub cluster_leads : {C : Type 0} → ClusterOf C → ClusterOf C → Type 0
cluster_leads s t = IsLedTo (machine s) (machine t)

abbrev pub cluster_works : {C : Type 0} → ClusterOf C → ClusterOf C → Type 0
cluster_works s t = IsWorkedTo (machine s) (machine t)

-- a state that is given back as it was taken
pub leads_itself : {C : Type 0} (held : Option (ClusterOf C)) (took given : ClusterOf C) → held ≡ Some took → given ≡ took →
    IsLed cluster_leads held (Some given)
leads_itself held took given is same =
    led_from cluster_leads held took given is (subst (λ z. IsLedTo (machine took) (machine z)) (sym same) (led_to_itself (machine took)))

pub not_never : (o : Opens) → o ≡ Alone → o ≡ Never → ⊥
not_never o alone never = let x : Alone ≡ Never = sym alone ∙ never in cc

module _ {C : Type 0} where
  pub seen_works : (last : Option (ClusterOf C)) (cluster : ClusterOf C) → is_some last ≡ true → IsLed cluster_works last (Some cluster) →
      IsWorkedTo (machine_seen last) (machine cluster)
  seen_works None cluster met led = absurd (let x : false ≡ true = met in cc)
  seen_works (Some before) cluster met led = led

  pub works_seen : (last now : Option (ClusterOf C)) (cluster : ClusterOf C) → is_some last ≡ true → now ≡ Some cluster →
      IsLed cluster_works last (Some cluster) → IsWorkedTo (machine_seen last) (machine_seen now)
  works_seen last now cluster met is led = subst (λ z. IsWorkedTo (machine_seen last) (machine_seen z)) (sym is) (seen_works last cluster met led)

  -- the turn of a pass that alone may open clients is a take
  pub turn_taken : (e : ClusterEvent) (a : Answer) (old split mid new : Pass (ClusterOf C)) → is_some (last old) ≡ true →
      seen old ≡ (machine_seen (last old)).history → opens split ≡ Alone → last split ≡ last old → seen split ≡ seen old → last new ≡ last mid
      → Extends (seen mid) (seen split) → IsPassTurn (λ s. (machine s).history) cluster_leads cluster_works (λ s e a t. Happens (machine s) e a (machine t)) e a
      split mid → InOneTake (Happened e a) (machine_seen (last old)) (machine_seen (last new))
  turn_taken e a old split mid new met known alone same_last same_seen is_last more t =
      let now : last new ≡ Some t.after = is_last ∙ t.is_last in
      let after : machine_seen (last new) ≡ machine t.after = ap machine_seen now in
      record {
        before = machine t.before;
        told = [];
        lawful = t.before.sound.invariant.holds;
        worked = seen_works (last old) t.before met (subst (λ z. IsLed cluster_works z (Some t.before)) same_last (t.worked alone));
        does = subst (Happens (machine t.before) e a) (sym after) t.does;
        legal = subst (λ z. ∥ IsLegal z.history ∥₁) (sym after) (∥∥₁_map t.after.sound.invariant.holds (λ holds. holds.recorded.legal));
        grows = subst (λ z. Extends z.history (machine_seen (last old)).history) (sym after)
            (between (λ x y. Extends y x) (seen split) (seen mid) (same_seen ∙ known) t.is_seen more);
      }

-- ---- the first machine

first_history : (command : Command) → (machine_made command).history ≡ []
first_history (Cluster nodes log hot) = refl
first_history _ = refl

pub begun_history : (ls : List NumberedCommand) → (machine_begun ls).history ≡ []
begun_history [] = refl
begun_history (l ∷ ls) = first_history l.command
