-- Each step keeps the rule of the table.
use Rattle.assise_keeper.proofs.Common.{◌≡◌, ◌≢◌, ℕ, ◌+◌, ◌<◌, eqb, ◌⊎◌, Bool, true, false, List, [], ◌∷◌, ◌++◌, length, set, sym, refl, ◌∙◌, subst, ⊎_elim}
use Rattle.assise_keeper.proofs.Common.{Option, Some, None, arith, get_or, none, some, some-ne-none, get_elem?, State, step, Act, takes, stepped, carried_after}
use Rattle.assise_keeper.proofs.Common.{Valid, Allows, Splits, Joins, opening, EntryValue, Half, Opens, Never, Alone, Stage, Fresh, Idle, Holding, OpensOnce}
use Rattle.assise_keeper.proofs.Common.{openings, client_after, MayAddAll, MayGive, half, clientless, newcomer, beginning, spent, together, with_right}
use Rattle.assise_keeper.proofs.Common.{with_no_client, own_of, guest_of, holding, given, Boxed, StatePlace, not_in, home, out, AreLed, IsAt, IsHalfLed}
use Rattle.assise_keeper.proofs.Common.{IsStage, CoversHalf, HalfFits, HasRight, Opener, Owner, anyone, alone, IsPassAt, IsKept}
use mathlib.Core.Option as maybe
use prog.Atomic.{either}
use Rattle.atomic_table.proofs.Lists.{at_set, set_again, set_else, at_longer}
use Rattle.assise_keeper.specs.declared.view.View.{View}
use Rattle.assise_keeper.specs.Steps.{Sitting, taking, releasing, setting_up}
use Rattle.assise_keeper.proofs.Shared.PassAdds.{was_or_opened, openings-append, opened-in, extends-same, drop-prefix}
use Rattle.assise_keeper.proofs.ClientOwners.{half_of, owns, owns_mine, fits_still, fits_on, at_snoc_place, no_side, no_side', same_seat}
use Rattle.assise_keeper.proofs.Rights.{CanPart, opens_none, passes_on}
use Rattle.assise_keeper.proofs.Shared.LedStates.{led_from}

-- the fact holds of each seat after one view was set
seats : {S : Type 0} (K : ℕ → View S → Type 0) (vs : List (View S)) (me : ℕ) (w : View S) → K me w →
    ((j : ℕ) (d : View S) → j ≢ me → get_elem? vs j ≡ some d → K j d)
    → (j : ℕ) (d : View S) → get_elem? (set vs me w) j ≡ some d → K j d
seats {S} K vs me w mine others j d e = grind (arith, at_set)

-- a stage that tells nothing of the place stays so
others_stage : {S : Type 0} (p q : StatePlace) (h h' : List EntryValue) (now now' : Option S) (j : ℕ) (st : Stage S) → (p ≡ not_in → ⊥) → (p ≡ out j → ⊥) →
    IsStage p h now j st → IsStage q h' now' j st
others_stage p q h h' now now' j Fresh nf nout ok = absurd (nf ok)
others_stage p q h h' now now' j Idle nf nout ok = tt
others_stage p q h h' now now' j (Holding g s) nf nout ok = absurd (nout ok.0)

-- what is written to a place that there is stands there
set_at : {S : Type 0} (vs : List (View S)) (id : ℕ) (w v : View S) → get_elem? vs id ≡ some v → get_elem? (set vs id w) id ≡ some w
set_at [] id w v e = absurd (some-ne-none v (sym e))
set_at (u ∷ vs) Rattle.std.proofs.Common.zero w v e = refl
set_at (u ∷ vs) (Rattle.std.proofs.Common.suc id) w v e = set_at vs id w v e

-- of one view there is the first place alone
only : {S : Type 0} (vs : List (View S)) → vs ≡ newcomer ∷ [] → (j : ℕ) (d : View S) → get_elem? vs j ≡ some d → (j ≡ 0) × (newcomer ≡ d)
only {S} vs one j d e = grind arith

module _ {S : Type 0} (history : S → List EntryValue) (leads works : S → S → Type 0) (itself : (s : S) → leads s s)
    (onward : (s t u : S) → leads s t → leads t u → leads s u) (rests : (s : S) → works s s) (works_on : (s t u : S) → works s t → works t u → works s u) where
  -- what one half noted leads on, by work alone where the half alone may open
  half_led : (d : Half S) (s x : S) → leads s x → (d.opens ≡ Alone → works s x) → IsHalfLed leads works d (Some s) → IsHalfLed leads works d (Some x)
  half_led d s x step work led = grind arith

  all_led : (d : View S) (s x : S) → leads s x → (d.own.opens ≡ Alone → works s x) → (d.guest.opens ≡ Alone → works s x) → AreLed leads works d (Some s) →
      AreLed leads works d (Some x)
  all_led d s x step own guest led = record { own = half_led d.own s x step own led.own; guest = half_led d.guest s x step guest led.guest }

  -- a half that has just seen the state
  half_there : (d : Half S) (x : S) → d.last ≡ Some x → IsHalfLed leads works d (Some x)
  half_there d x is = record { led = led_from leads d.last x x is (itself x); worked = λ right. led_from works d.last x x is (rests x) }

  -- a half that has seen none
  half_unseen : (now : Option S) → IsHalfLed leads works clientless now
  half_unseen now = record { led = tt; worked = λ right. tt }

  -- a half that noted the same, and may open alone only if the other may
  half_as : (d e : Half S) (now : Option S) → e.last ≡ d.last → (e.opens ≡ Alone → d.opens ≡ Alone) → IsHalfLed leads works d now → IsHalfLed leads works e now
  half_as d e now same right led = grind arith

  -- a pass that holds nothing may be followed by a new one
  at_one_more : (words : List ℕ) (homes : List (maybe.Option (Option (Boxed S)))) (vs : List (View S)) (h : List EntryValue) (now : Option S) (id : ℕ)
      (v w : View S) → get_elem? vs id ≡ some v → v.stage ≡ Idle
      → (p : StatePlace) → IsAt history words homes vs h now p → IsAt history words homes (vs ++ w ∷ []) h now p
  at_one_more words homes vs h now id v w at idle not_in is = grind arith
  at_one_more words homes vs h now id v w at idle home is = is
  at_one_more words homes vs h now id v w at idle (out j) is = (is.0, is.1, (is.2.0, at_longer vs (w ∷ []) j is.2.0 is.2.1, is.2.2))

  -- a pass that holds nothing may know something else
  at_another : (words : List ℕ) (homes : List (maybe.Option (Option (Boxed S)))) (vs : List (View S)) (h : List EntryValue) (now : Option S) (id : ℕ)
      (v w : View S) → get_elem? vs id ≡ some v → v.stage ≡ Idle
      → (p : StatePlace) → IsAt history words homes vs h now p → IsAt history words homes (set vs id w) h now p
  at_another words homes vs h now id v w at idle not_in is = grind arith
  at_another words homes vs h now id v w at idle home is = is
  at_another words homes vs h now id v w at idle (out j) is = grind (arith, set_else)

  abbrev St : Type 0
  St = State (Option (Boxed S)) (View S)

  abbrev Rule : St → Type 0
  Rule = IsKept history leads works

  abbrev Homes : Type 0
  Homes = List (maybe.Option (Option (Boxed S)))

  -- nothing changes
  stays : (s : St) → Rule s → (id : ℕ) (v : View S) → get_elem? s.views id ≡ some v → Rule record { words = s.words; homes = s.homes; views = set s.views id v }
  stays s r id v at = subst (λ (vs : List (View S)). Rule record { words = s.words; homes = s.homes; views = vs }) (sym (set_again s.views id v at)) r

  abbrev TakesAt : (id : ℕ) (v : View S) (views : List (View S)) → List ℕ → Homes → Type 0
  TakesAt id v views ws hs = (w : View S) × (a : Act (Option (Boxed S))) × Valid hs [] a
      × Rule (stepped (record { words = ws; homes = hs; views = views }) 0 (either (eqb (get_or ws 0 0) 0) 1 (get_or ws 0 0)) id [] w a)
      × taking history leads works (step 1 0 0 1 none) (v, []) (get_or ws 0 0) (w, carried_after [] a)

  takes_in : (s : St) (r : Rule s) (id : ℕ) (v : View S) → get_elem? s.views id ≡ some v → (p : StatePlace) → r.place ≡ p →
      IsAt history s.words s.homes s.views r.h r.now p → TakesAt id v s.views s.words s.homes
  takes_in s r id v at not_in is ph = subst (λ (z : List ℕ × Homes). TakesAt id v s.views z.0 z.1) (λ k. (sym ph.0 k, s.homes)) (
      grind (arith, stays s r id v at)
      )
  takes_in s r id v at (out i) is ph = subst (λ (z : List ℕ × Homes). TakesAt id v s.views z.0 z.1) (λ k. (sym ph.0 k, s.homes)) (
      grind (arith, stays s r id v at)
      )
  takes_in s r id v at home is ph = let b = ph.1.0 in let x = b.value in let mine = r.each id v at in let led = subst (AreLed leads works v) ph.1.3 mine.3 in
      let not_fresh : r.place ≡ not_in → ⊥ = λ e. let e' = sym is ∙ e in (cc) in
      let not_out : (j : ℕ) → r.place ≡ out j → ⊥ = λ j e. let e' = sym is ∙ e in (cc) in
      subst (λ (z : List ℕ × Homes). TakesAt id v s.views z.0 z.1) (λ k. (sym ph.0 k, sym ph.1.1 k)) (
        holding v (history x) x,
        takes 0 (Some b),
        refl,
        record {
          h = r.h;
          now = Some x;
          place = out id;
          owner = r.owner;
          who = r.who;
          is_at = grind (arith, set_at s.views id (holding v (history x) x) v at);
          each = seats (IsPassAt leads works (out id) r.h (Some x) r.owner r.who) s.views id (holding v (history x) x)
              (mine.0, mine.1, (refl, ph.1.2, refl), record { own = led.own; guest = led.guest })
              (λ j d other e. let ok = r.each j d e in (
              grind arith
              ));
        },
        (
          (λ _. (
            b,
            refl,
            subst (λ (h : List EntryValue). CoversHalf h v.own) (sym ph.1.2) mine.0.0,
            subst (λ (h : List EntryValue). CoversHalf h v.guest)
                (sym ph.1.2) mine.1.0,
            led,
          )),
          λ n. absurd (n refl),
        ),
      )

  pub takes_move : (id : ℕ) (v : View S) → Allows Rule 1 id (v, []) 0 (λ n. either (eqb n 0) 1 n) (taking history leads works (step 1 0 0 1 none) (v, []))
  takes_move id v s r _ at _ = takes_in s r id v at r.place refl r.is_at

  -- the same at a seat that carries nothing
  pub takes_for : (slots id : ℕ) (me : Sitting S) → slots ≡ 1 → me.1 ≡ [] → Allows Rule slots id me 0 (λ n. either (eqb n 0) 1 n)
      (taking history leads works (step slots 0 0 1 none) me)
  takes_for slots id me one bare =
      subst (λ (z : ℕ × List (ℕ × Option (Boxed S))). Allows Rule z.0 id (me.0, z.1) 0 (λ n. either (eqb n 0) 1 n)
      (taking history leads works (step z.0 0 0 1 none) (me.0, z.1))) (λ k. (sym one k, sym bare k)) (takes_move id me.0)

  abbrev StoresAt : (slots id : ℕ) (v : View S) (c : List (ℕ × Option (Boxed S))) (views : List (View S)) → List ℕ → Homes → Type 0
  StoresAt slots id v c views ws hs = (w : View S) × (a : Act (Option (Boxed S))) × Valid hs c a
      × Rule (stepped (record { words = ws; homes = hs; views = views }) 0 0 id c w a)
      × releasing history (step slots 0 0 0 none) (v, c) 0 (w, carried_after c a)

  fits_nobody : (h : List EntryValue) (owner : ℕ → ℕ × Bool) (who : Opener) (j : ℕ) (side : Bool) → HalfFits {S = S} h owner who j side clientless
  fits_nobody h owner who j side = (((h, refl), (λ c e. absurd (cc)), (λ e. absurd (cc))), (λ c e. absurd (cc)), tt)

  abbrev first_of : Option (Boxed S) → List (ℕ × Option (Boxed S)) → Option (Boxed S)
  first_of d [] = d
  first_of d (z ∷ zs) = z.1

  gives_rule : (views : List (View S)) (h xs : List EntryValue) (was : S) (owner : ℕ → ℕ × Bool) (who : Opener) (id : ℕ) (v : View S) (b : Boxed S) →
      ((j : ℕ) (d : View S) → get_elem? views j ≡ some d → IsPassAt leads works (out id) h (Some was) owner who j d)
      → get_elem? views id ≡ some v → MayAddAll v.own.client v.own.opens xs → OpensOnce (h ++ xs) → history b.value ≡ h ++ xs → leads was b.value →
      (v.own.opens ≡ Never → works was b.value)
      → Rule record {
        words = 0 ∷ [];
        homes = some (Some b) ∷ [];
        views =
            set views id (record {
              own = half (h ++ xs) (Some b.value) (client_after v.own.client xs) v.own.opens;
              guest =
                  half (h ++ xs) (Some b.value) v.guest.client v.guest.opens;
              stage = Idle;
            });
      }
  gives_rule views h xs was owner who id v b each at own once is step work =
      let x = b.value in
      let mine = each id v at in
      let c : Option ℕ = client_after v.own.client xs in
      let still : (j : ℕ) (side : Bool) (u : Half S) → (half_of j side ≡ half_of id true → ⊥) → HalfFits h owner who j side u →
      HalfFits (h ++ xs) (owns owner (id, true) c) who j side u
      = λ j side u. fits_on h xs owner who id j side v.own.client v.own.opens u (λ k i. (mine.0.1 k i).1) mine.0.2 own once in
      let guest_stays = still id false v.guest (no_side id id) mine.1 in
      record {
        h = h ++ xs;
        now = Some x;
        place = home;
        owner = owns owner (id, true) c;
        who = who;
        is_at = (refl, (b, refl, is, refl));
        each = seats (IsPassAt leads works home (h ++ xs) (Some x) (owns owner (id, true) c) who) views id
            (record { own = half (h ++ xs) (Some x) c v.own.opens; guest = half (h ++ xs) (Some x) v.guest.client v.guest.opens; stage = Idle }) (
              (
                (extends-same (h ++ xs), (λ d e. refl), (λ e. refl)),
                (λ d e. (
                  ⊎_elim (λ (a : v.own.client ≡ Some d). let had = opened-in d h v.own.seen mine.0.0.0 (mine.0.1 d a).0 in
                      omega (arith, openings-append d h xs))
                      (λ (b : 0 < openings d xs). omega (arith, openings-append d h xs)) (was_or_opened v.own.opens d v.own.client xs own e),
                  owns_mine owner (id, true) c d e,
                )),
                mine.0.2,
              ),
              (
                (extends-same (h ++ xs), (λ d e. refl), (λ e. refl)),
                (λ d e. let t = guest_stays.1 d e in (opened-in d (h ++ xs) v.guest.seen guest_stays.0.0 t.0, t.1)),
                guest_stays.2,
              ),
              tt,
              record {
                own = half_there (half (h ++ xs) (Some x) c v.own.opens) x refl;
                guest = grind arith;
              },
            )
            (λ j d other e. let ok = each j d e in let not_mine : half_of j true ≡ half_of id true → ⊥ = λ i. other (same_seat j id true true i) in (
              still j true d.own not_mine ok.0,
              still j false d.guest (no_side j id) ok.1,
              others_stage (out id) home h (h ++ xs) (Some was) (Some x) j d.stage (λ i. cc) (λ i. other (cc)) ok.2,
              all_led d was x step
                  (λ right. work (opens_none who (id, true) (j, true) v.own.opens mine.0.2 not_mine (subst (HasRight who (j, true)) right ok.0.2)))
                  (λ right. work (opens_none who (id, true) (j, false) v.own.opens mine.0.2 (no_side j id) (subst (HasRight who (j, false)) right ok.1.2)))
                  ok.3,
            ));
      }

  pub gives_for : (slots id : ℕ) (me : Sitting S) (b : Boxed S) (h : List EntryValue) (was : S) → me.1 ≡ (0, Some b) ∷ [] → me.0.stage ≡ Holding h was →
      leads was b.value → (me.0.own.opens ≡ Never → works was b.value) → MayGive me.0.own.client me.0.own.opens h (history b.value) →
      OpensOnce (history b.value)
      → Allows Rule slots id me 0 (λ _. 0) (λ _. releasing history (step slots 0 0 0 none) me 0)
  gives_for slots id me b h was carried holds step work grows once s r _ at _ =
      let x = b.value in
      let v = me.0 in
      let mine = r.each id v at in
      let ok : IsStage r.place r.h r.now id (Holding h was) = subst (IsStage r.place r.h r.now id) holds mine.2 in
      let ph : IsAt history s.words s.homes s.views r.h r.now (out id) = subst (IsAt history s.words s.homes s.views r.h r.now) ok.0 r.is_at in
      let each : (j : ℕ) (d : View S) → get_elem? s.views j ≡ some d → IsPassAt leads works (out id) h (Some was) r.owner r.who j d =
      subst (λ (z : StatePlace × List EntryValue × Option S). (j : ℕ) (d : View S) → get_elem? s.views j ≡ some d →
      IsPassAt leads works z.0 z.1 z.2 r.owner r.who j d) (λ i. (ok.0 i, sym ok.1 i, ok.2 i)) r.each in
      let once' : OpensOnce (h ++ grows.0) = subst OpensOnce grows.1 once in
      let w : View S = record {
        own = half (h ++ grows.0) (Some x) (client_after v.own.client grows.0) v.own.opens;
        guest = half (h ++ grows.0) (Some x) v.guest.client v.guest.opens;
        stage = Idle;
      } in
      let is : w ≡ given v h (history x) x = grind (arith, drop-prefix) in
      let Goal : List (ℕ × Option (Boxed S)) × (List ℕ × Homes) → Type 0 = λ z. StoresAt slots id v z.0 s.views z.1.0 z.1.1 in
      let done : StoresAt slots id v ((0, Some b) ∷ []) s.views (1 ∷ []) (none ∷ []) = grind
      (arith, gives_rule s.views h grows.0 was r.owner r.who id v b each at grows.2 once' grows.1 step work) in
      subst Goal (λ i. (sym carried i, (sym ph.0 i, sym ph.1 i))) done

  -- the first pass puts the state in
  sets_rule : (s : St) (r : Rule s) (id : ℕ) (v : View S) (x : S) → get_elem? s.views id ≡ some v → s.views ≡ newcomer ∷ [] →
      Rule record { words = 1 ∷ []; homes = none ∷ []; views = set s.views id (beginning (history x) x) }
  sets_rule s r id v x at one = record {
    h = history x;
    now = Some x;
    place = out id;
    owner = r.owner;
    who = alone (id, true);
    is_at = (refl, refl, (beginning (history x) x, set_at s.views id (beginning (history x) x) v at, (x, refl, refl)));
    each = grind (arith, extends-same (history x), fits_nobody (history x) r.owner (alone (id, true)) id false);
  }

  abbrev SetsAt : (slots id : ℕ) (v : View S) (b : Boxed S) (c : List (ℕ × Option (Boxed S))) (views : List (View S)) → List ℕ → Homes → Type 0
  SetsAt slots id v b c views ws hs = (w : View S) × (a : Act (Option (Boxed S))) × Valid hs c a
      × Rule (stepped (record { words = ws; homes = hs; views = views }) 0 (either (eqb (get_or ws 0 0) 2) 1 (get_or ws 0 0)) id c w a)
      × setting_up history (step slots 0 2 1 (some (Some b))) (v, c) (get_or ws 0 0) (w, carried_after c a)

  pub sets_for : (slots id : ℕ) (me : Sitting S) (b : Boxed S) → me.0.stage ≡ Fresh → Allows Rule slots id me 0 (λ n. either (eqb n 2) 1 n)
      (setting_up history (step slots 0 2 1 (some (Some b))) me)
  sets_for slots id me b is_fresh s r _ at _ =
      let x = b.value in
      let v = me.0 in
      let mine = r.each id v at in
      let ok : r.place ≡ not_in = subst (IsStage r.place r.h r.now id) is_fresh mine.2 in
      let ph : IsAt history s.words s.homes s.views r.h r.now not_in = subst (IsAt history s.words s.homes s.views r.h r.now) ok r.is_at in
      let done : SetsAt slots id v b me.1 s.views (2 ∷ []) (some None ∷ []) = (
        beginning (history x) x,
        takes 0 None,
        refl,
        sets_rule s r id v x at ph.2,
        λ y said st. let same : b ≡ y = cc in (refl, λ i. (beginning (history (same i).value) (same i).value, (0, None) ∷ me.1)),
      ) in
      subst (λ (z : List ℕ × Homes). SetsAt slots id v b me.1 s.views z.0 z.1) (λ i. (sym ph.0 i, sym ph.1 i)) done

  seats_one : (j : ℕ) (d : View S) → get_elem? (newcomer ∷ []) j ≡ some d → IsPassAt leads works not_in [] None (λ _. (0, true)) anyone j d
  seats_one Rattle.std.proofs.Common.zero d e = grind arith
  seats_one (Rattle.std.proofs.Common.suc j) d e = absurd (some-ne-none d (sym e))

  pub starts : Rule (opening (2 ∷ []) (None ∷ []) newcomer)
  starts = record {
    h = [];
    now = None;
    place = not_in;
    owner = λ _. (0, true);
    who = anyone;
    is_at = (refl, refl, refl, refl, refl);
    each = seats_one;
  }

  -- owners and rights are others, and nothing else of what is known
  other_rights : (s t : St) (r : Rule s) (owner : ℕ → ℕ × Bool) (who : Opener) → IsAt history t.words t.homes t.views r.h r.now r.place →
      ((j : ℕ) (d : View S) → get_elem? t.views j ≡ some d → IsPassAt leads works r.place r.h r.now owner who j d) → Rule t
  other_rights s t r owner who at each = record { h = r.h; now = r.now; place = r.place; owner = owner; who = who; is_at = at; each = each }

  -- a pass is cut in two, and its right is parted
  pub cuts_for : (o p : Opens) (id : ℕ) (v : View S) → CanPart v.own.opens o p → (o ≡ Alone → v.own.opens ≡ Alone) → (p ≡ Alone → v.own.opens ≡ Alone) →
      v.stage ≡ Idle → Splits Rule id v (with_right o v) (with_no_client p v)
  cuts_for o p id v part left right idle s r at =
      let mine = r.each id v at in
      let vs = set s.views id (with_right o v) in
      let n : ℕ = length vs in
      let moved = part r.who (id, true) (n, true) mine.0.2 in
      let still : (j : ℕ) (side : Bool) (u : Half S) → (half_of j side ≡ half_of id true → ⊥) → HalfFits r.h r.owner r.who j side u →
      HalfFits r.h r.owner moved.who j side u = λ j side u other f. (f.0, f.1, moved.others (j, side) u.opens other f.2) in
      other_rights s _ r r.owner moved.who
      (at_one_more s.words s.homes vs r.h r.now id (with_right o v) (with_no_client p v) (set_at s.views id (with_right o v) v at) idle r.place
      (at_another s.words s.homes s.views r.h r.now id v (with_right o v) at idle r.place r.is_at))
      (λ j d e. ⊎_elim
      (λ (a : get_elem? vs j ≡ some d). seats (IsPassAt leads works r.place r.h r.now r.owner moved.who) s.views id (with_right o v) (
      grind arith
      )
      (λ k u other b. let ok = r.each k u b in
      (still k true u.own (λ i. other (same_seat k id true true i)) ok.0, still k false u.guest (no_side k id) ok.1, ok.2, ok.3)) j d a)
      (grind arith)
      (at_snoc_place vs (with_no_client p v) d j e))

  -- a half that is another than the one that moves keeps its owner and its right
  keeps_half : (h : List EntryValue) (owner : ℕ → ℕ × Bool) (was who : Opener) (at : ℕ × Bool) (c : Option ℕ) (from : ℕ × Bool) →
      ((d : ℕ) → c ≡ Some d → owner d ≡ from) → ((at : Owner) (p : Opens) → (at ≡ from → ⊥) → HasRight was at p → HasRight who at p)
      → (j : ℕ) (side : Bool) (v : Half S) → (half_of j side ≡ from → ⊥) → HalfFits h owner was j side v → HalfFits h (owns owner at c) who j side v
  keeps_half h owner was who at c from had others j side v disjoint' f =
      let t = fits_still h owner was j side v at c (λ d is e. disjoint' (sym (f.1 d is).1 ∙ had d e)) f in (t.0, t.1, others (j, side) v.opens disjoint' f.2)

  -- a half moves to another pass, or to its other side, and every other half keeps its owner and its right
  moves_half : (h : List EntryValue) (owner : ℕ → ℕ × Bool) (was : Opener) (j k : ℕ) (side to : Bool) (v : Half S) → HalfFits h owner was j side v →
      (who : Opener) × HalfFits h (owns owner (k, to) v.client) who k to v
      × ((i : ℕ) (at : Bool) (u : Half S) → (half_of i at ≡ (j, side) → ⊥) → HalfFits h owner was i at u → HalfFits h (owns owner (k, to) v.client) who i at u)
  moves_half h owner was j k side to v f =
      let moved = passes_on v.opens was (j, side) (k, to) f.2 in (
        moved.who,
        (f.0, (λ d is. ((f.1 d is).0, owns_mine owner (k, to) v.client d is)), moved.second),
        keeps_half h owner was moved.who (k, to) v.client (j, side) (λ d is. (f.1 d is).1) moved.others,
      )

  -- two passes that met part
  pub parts_for : (id : ℕ) (v : View S) → v.stage ≡ Idle → Splits Rule id v (own_of v) (guest_of v)
  parts_for id v idle s r at =
      let mine = r.each id v at in
      let vs = set s.views id (own_of v) in
      let n : ℕ = length vs in
      let to : ℕ → ℕ × Bool = owns r.owner (n, true) v.guest.client in
      let (who, fits, still) = moves_half r.h r.owner r.who id n false true v.guest mine.1 in
      other_rights s _ r to who
      (at_one_more s.words s.homes vs r.h r.now id (own_of v) (guest_of v) (set_at s.views id (own_of v) v at) idle r.place
      (at_another s.words s.homes s.views r.h r.now id v (own_of v) at idle r.place r.is_at))
      (λ j d e. ⊎_elim
      (λ (a : get_elem? vs j ≡ some d). seats (IsPassAt leads works r.place r.h r.now to who) s.views id (own_of v) (
      search (no_side', fits_nobody, arith) parts 3
      )
      (λ k u other b. let ok = r.each k u b in
      (still k true u.own (no_side' k id) ok.0, still k false u.guest (λ i. other (same_seat k id false false i)) ok.1, ok.2, ok.3)) j d a)
      (λ (a : (j ≡ n) × (guest_of v ≡ d)). subst (λ (z : ℕ × View S). IsPassAt leads works r.place r.h r.now to who z.0 z.1)
      (λ i. (sym a.0 i, a.1 i)) (
      search (fits, fits_nobody, arith) parts 3
      ))
      (at_snoc_place vs (guest_of v) d j e))

  -- one pass takes another in
  pub meets_for : (id : ℕ) (v : View S) (other : ℕ) (w : View S) → v.stage ≡ Idle → w.stage ≡ Idle → Joins Rule id v other w (together v w) spent
  meets_for id v other w idle other_idle s r at disjoint_seats there =
      let at_other : get_elem? s.views other ≡ some w = sym (set_else s.views id other (together v w) disjoint_seats) ∙ there in
      let mine = r.each id v at in
      let theirs = r.each other w at_other in
      let to : ℕ → ℕ × Bool = owns r.owner (id, false) w.own.client in
      let (who, fits, still) = moves_half r.h r.owner r.who other id true false w.own theirs.0 in
      other_rights s _ r to who
      (grind (arith, at_another))
      (seats (IsPassAt leads works r.place r.h r.now to who) (set s.views id (together v w)) other spent (
      grind arith
      )
      (λ j d not_other e. seats (λ (k : ℕ) (u : View S). ¬ (k ≡ other) → IsPassAt leads works r.place r.h r.now to who k u) s.views id
      (together v w)
      (search (same_seat, fits, arith) parts 3)
      (λ k u not_id b no_o. let ok = r.each k u b in
      (still k true u.own (λ i. no_o (same_seat k other true true i)) ok.0, still k false u.guest (no_side k other) ok.1, ok.2, ok.3)) j d e
      not_other))
