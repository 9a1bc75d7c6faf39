-- Where areas agree.
use Rattle.assise_model_world.proofs.Common.{◌≡◌, ℕ, ◌<◌, ◌≤◌, true, false, sym, ◌∙◌, arith, all_effects, touched, contains, NumberedCall, Each, below, window}
use Rattle.assise_model_world.proofs.Common.{CallsInvariant, World, Full, opening_values, received_by_all, records_between, call_at, first_undigested_at}
use Rattle.assise_model_world.proofs.Common.{first_unreplicated, steps, each-map}
use Rattle.assise_model_world.proofs.Lists.{each-client, same_value}
use Rattle.assise_model_world.proofs.Shared.Logs.{in_window_from}
use Rattle.assise_model_world.proofs.Shared.WorldObserved.{part_of, received_by_all-end}
use Rattle.assise_model_world.proofs.Shared.WorldObserved.{first-received_by_all, first_undigested-low, first_undigested-received_by_all}
use Rattle.assise_model_world.proofs.Shared.WorldObserved.{oldest, received_by_all-border, area_at}

between_both : (w : World) (n m : ℕ) → CallsInvariant w → Full w n → Full w m → (x : NumberedCall) →
    x.number < first_undigested_at w n x.client → first_undigested_at w m x.client ≤ x.number → window x.client (call_at w x.client (w.first x.client))
    (first_unreplicated w x.client) x ≡ true
between_both w n m s fn fm x high low = grind (arith, in_window_from, oldest, first_undigested-low, first_undigested-received_by_all)

-- steps that stand in a log and are replicated
of_acked : (w : World) (i : ℕ) → CallsInvariant w → (c : ℕ) → contains (touched (all_effects (records_between w c (w.first c) (received_by_all w c)))) i
    ≡ false →
    Each (λ x. window c (call_at w c (w.first c)) (first_unreplicated w c) x.0 ≡ true → contains (touched x.1.effects) i ≡ false) (steps w)
unfolding first_unreplicated
of_acked w i s c h = (part_of w c (w.first c) (received_by_all w c) s (s.first_border c) (received_by_all-border w s c) (omega arith)
    (first-received_by_all w s c) (received_by_all-end w c)).touch i h

standing_steps : (w : World) (i : ℕ) → CallsInvariant w →
    ((c : ℕ) → contains (touched (all_effects (records_between w c (w.first c) (received_by_all w c)))) i ≡ false) →
    Each (λ x. window x.0.client (call_at w x.0.client (w.first x.0.client)) (first_unreplicated w x.0.client) x.0 ≡ true → contains (touched x.1.effects) i
    ≡ false) (steps w)
standing_steps w i s h =
    each-client (λ c x. window c (call_at w c (w.first c)) (first_unreplicated w c) x.0 ≡ true → contains (touched x.1.effects) i ≡ false) (steps w)
    (λ c. grind (arith, each-map, of_acked w i s c (h c)))

pub same_areas : (w : World) (n m i : ℕ) → CallsInvariant w → Full w n → Full w m →
    ((c : ℕ) → contains (touched (all_effects (records_between w c (w.first c) (received_by_all w c)))) i ≡ false) → w.area n i ≡ w.area m i
same_areas w n m i s fn fm h =
    area_at w n i s fn
    ∙ same_value (below (first_undigested_at w n)) (below (first_undigested_at w m)) i (opening_values i) (steps w)
    (grind (arith, each-map, between_both, standing_steps w i s h))
    ∙ sym (area_at w m i s fm)
