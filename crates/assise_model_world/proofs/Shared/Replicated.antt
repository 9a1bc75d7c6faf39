-- What all full nodes have, and what others have seen.
use Rattle.assise_model_world.proofs.Common.{◌≡◌, ◌≢◌, ℕ, List, [], ◌∷◌, ◌-◌, ◌<◌, true, false, refl, ap, ◌∙◌, ◌==◌, arith, filter, take_all}
use Rattle.assise_model_world.proofs.Common.{false_from_ne_true, all_effects, contains, touched, NumberedCall, Each, below, Unseen, each-map, Counted, Guarded}
use Rattle.assise_model_world.proofs.Common.{WritesAreHeld, WorldInvariant, World, Full, end_of_log, received_by_all, records_between, call_at}
use Rattle.assise_model_world.proofs.Common.{first_undigested, first_unreplicated, steps, calls_replicated}
use Rattle.assise_model_world.proofs.Lists.{unseen-raise}
use Rattle.assise_model_world.proofs.Shared.Logs.{contains-drop, contains-take}
use Rattle.assise_model_world.proofs.Shared.WorldObserved.{call_at-end, IsCounted, guarded_steps, disjoint}
use Rattle.assise_model_world.proofs.Shared.RegionAlone.{first_undigested-below}

-- ---- own logs

-- a full node that received all of a log has it
had_whole : (w : World) (n c : ℕ) → WorldInvariant w → Full w n → w.received n c ≡ end_of_log w c → w.records c ≡ w.log n c
unfolding end_of_log
had_whole w n c s f h = grind (arith, take_all)

pub log_of_home : (w : World) (c : ℕ) → WorldInvariant w → w.lives c ≡ true → w.records c ≡ w.log (w.home c) c
log_of_home w c s t = had_whole w (w.home c) c s (s.homes c t) (s.whole c t)

pub log_of_left : (w : World) (n c : ℕ) → WorldInvariant w → w.lives c ≡ false → Full w n → w.records c ≡ w.log n c
log_of_left w n c s t f = had_whole w n c s f (s.left n c t f)

-- ---- what all full nodes have

pub next_unreplicated : (w : World) (c : ℕ) → received_by_all w c ≡ end_of_log w c → first_unreplicated w c ≡ w.next c
unfolding first_unreplicated
next_unreplicated w c e = ap (call_at w c) e ∙ call_at-end w c (end_of_log w c) (omega arith)

-- of a client whose calls all lie below its threshold none is left out
own_below : (b : ℕ → ℕ) (w : World) (c : ℕ) (xs : List NumberedCall) → b c ≡ w.next c → Each (IsCounted w) xs →
    filter (λ x. x.client == c) (filter (below b) xs) ≡ filter (λ x. x.client == c) xs
own_below b w c [] e h = refl
own_below b w c (x ∷ xs) e h = grind (arith, own_below b w c xs e h.1)

pub end_replicated : (w : World) (c : ℕ) → WorldInvariant w → received_by_all w c ≡ end_of_log w c → filter (λ x. x.client == c) (calls_replicated w)
    ≡ filter (λ x. x.client == c) w.calls
unfolding calls_replicated Counted
end_replicated w c s e = own_below (first_unreplicated w) w c w.calls (next_unreplicated w c e) s.coherent.counted

-- what changed an inode that the client doesn't hold for writing, all full nodes have digested
pub handed_over : (w : World) (c i : ℕ) → WorldInvariant w → w.writes c i ≡ false →
    Each (λ x. x.0.client ≡ c → contains (touched x.1.effects) i ≡ true → x.0.number < first_undigested w c) (steps w)
handed_over w c i s none = grind (arith, each-map, guarded_steps w i s.coherent)

-- ---- what others have seen

pub guarded_between : (w : World) (c j k i : ℕ) → WorldInvariant w → contains (touched (all_effects (records_between w c j k))) i ≡ true → w.writes c i ≡ true
unfolding Guarded records_between
guarded_between w c j k i s h = grind (arith, contains-drop, contains-take)

pub touch_disjoint : (w : World) (c d i : ℕ) → WorldInvariant w → c ≢ d →
    contains (touched (all_effects (w.records c))) i ≡ true → contains (touched (all_effects (w.records d))) i ≡ false
unfolding Guarded WritesAreHeld
touch_disjoint w c d i s other h = grind (arith, false_from_ne_true, disjoint)

pub unseen_unreplicated : (w : World) → WorldInvariant w → Unseen (first_unreplicated w) (steps w)
unseen_unreplicated w s = unseen-raise (first_undigested w) (first_unreplicated w) (steps w) (first_undigested-below w s.coherent) s.coherent.unseen
