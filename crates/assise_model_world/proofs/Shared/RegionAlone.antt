-- What a full node's region alone says is what the calls that all full nodes have made.
use Rattle.assise_model_world.proofs.Common.{◌≡◌, ℕ, zero, suc, ◌<◌, ◌≤◌, inl, inr, Bool, true, false, Option, refl, ap, sym, ◌∙◌, subst, ◌&&◌, arith, filter}
use Rattle.assise_model_world.proofs.Common.{cases_eq, opening_tree, AreAnswered, tree_after_calls, all_effects, Content, value_after, late_value, raised_at}
use Rattle.assise_model_world.proofs.Common.{Spells, trace, values_after_calls, AllMakeNew, exchanges, ops, below, window, CallsInvariant, WorldInvariant}
use Rattle.assise_model_world.proofs.Common.{World, Full, opening_values, digested_by_all, received_by_all, records_between, first_undigested_at}
use Rattle.assise_model_world.proofs.Common.{first_undigested, first_unreplicated, steps, calls_replicated, undigested_below, all_undigested_records, alone_at}
use Rattle.assise_model_world.proofs.Common.{value_after-append, each-map, opening_spells}
use Rattle.assise_model_world.proofs.Lists.{value-cong, value-filter, values-value}
use Rattle.assise_model_world.proofs.Shared.WorldObserved.{call_at-mono, received_by_all-below, received_by_all-end, first_undigested-low}
use Rattle.assise_model_world.proofs.Shared.WorldObserved.{first_undigested-received_by_all, received_by_all-border, IsCounted}
use Rattle.assise_model_world.proofs.Shared.WorldObserved.{all_counted, part_value, raised_same}
use Rattle.assise_model_world.proofs.Shared.WorldObserved.{raised_other, later, area_at}
use Rattle.assise_model_world.proofs.Between.{digested_by_all-received_by_all}
use Rattle.assise_model_world.proofs.Shared.Views.{ahead_below_between}
use Rattle.assise_inode_table.proofs.Shared.CallsRemoved.{tails_trace, tails_run, tails_new, tails_spelled}

-- the thresholds that are replicated for clients 1 to m, and digested at n for the others
mixed : World → ℕ → ℕ → ℕ → ℕ
mixed w n zero = first_undigested_at w n
mixed w n (suc m) = raised_at (mixed w n m) (suc m) (first_unreplicated w (suc m))

mixed-after : (w : World) (n m d : ℕ) → m < d → mixed w n m d ≡ first_undigested_at w n d
unfolding mixed
mixed-after w n zero d h = refl
mixed-after w n (suc m) d h = raised_other (mixed w n m) (suc m) (first_unreplicated w (suc m)) d (λ e. omega (arith, e, h)) ∙ mixed-after w n m d (omega arith)

mixed-before : (w : World) (n m d : ℕ) → 1 ≤ d → d ≤ m → mixed w n m d ≡ first_unreplicated w d
unfolding mixed
mixed-before w n zero d low h = absurd (omega arith)
mixed-before w n (suc m) d low h =
    elim (cases_eq d (suc m)) [
      | inl last ↦ raised_same (mixed w n m) (suc m) (first_unreplicated w (suc m)) d last ∙ ap (first_unreplicated w) (sym last)
      | inr other ↦ raised_other (mixed w n m) (suc m) (first_unreplicated w (suc m)) d other ∙ mixed-before w n m d low (grind (arith, other, h))
    ]

last_part : (w : World) (n m i : ℕ) (v : Option Content) → CallsInvariant w → Full w n →
    value_after i v (all_effects (records_between w m (w.digested n m) (received_by_all w m)))
    ≡ late_value (window m (first_undigested_at w n m) (first_unreplicated w m)) i v (steps w)
unfolding first_undigested_at first_unreplicated
last_part w n m i v s f = grind (arith, part_value, received_by_all-border, received_by_all-end)

-- the node's own records that are replicated and not digested there
own_part : (w : World) (n c : ℕ) → WorldInvariant w → Full w n → undigested_below w n c (received_by_all w c) ≡ records_between w c (w.digested n c)
    (received_by_all w c)
own_part w n c s f = ahead_below_between w n c (received_by_all w c) s f (received_by_all-below w n c f)

alone_mixed : (w : World) (n m i : ℕ) → WorldInvariant w → Full w n →
    value_after i (w.area n i) (all_undigested_records w n m) ≡ late_value (below (mixed w n m)) i (opening_values i) (steps w)
unfolding mixed
alone_mixed w n zero i s f = area_at w n i s.coherent f
alone_mixed w n (suc m) i s f =
    let c : ℕ = suc m in
    let v : Option Content = late_value (below (mixed w n m)) i (opening_values i) (steps w) in
    let here : mixed w n m c ≡ first_undigested_at w n c = mixed-after w n m c (omega arith) in
    value_after-append i (w.area n i) (all_undigested_records w n m) (all_effects (undigested_below w n c (received_by_all w c)))
    ∙ ap (λ rs. value_after i (value_after i (w.area n i) (all_undigested_records w n m)) (all_effects rs)) (own_part w n c s f)
    ∙ ap (λ u. value_after i u (all_effects (records_between w c (w.digested n c) (received_by_all w c)))) (alone_mixed w n m i s f)
    ∙ last_part w n c i v s.coherent f
    ∙ ap (λ k. late_value (window c k (first_unreplicated w c)) i v (steps w)) (sym here)
    ∙ sym (grind (arith, later, first_undigested-low, first_undigested-received_by_all))

alone_value : (w : World) (n i : ℕ) → WorldInvariant w → Full w n → alone_at w n i ≡ late_value (below (first_unreplicated w)) i (opening_values i) (steps w)
unfolding alone_at
alone_value w n i s f = grind (arith, alone_mixed, value-cong, mixed, each-map, IsCounted, mixed-before, all_counted)

pub first_undigested-below : (w : World) → CallsInvariant w → (c : ℕ) → first_undigested w c ≤ first_unreplicated w c
unfolding first_undigested first_unreplicated
first_undigested-below w s c = call_at-mono w c (digested_by_all w c) (received_by_all w c) s (digested_by_all-received_by_all w s c)

-- calls past thresholds that all full nodes have digested may be taken out
pub tails_at : (w : World) (b : ℕ → ℕ) → CallsInvariant w → ((c : ℕ) → first_undigested w c ≤ b c) →
    trace opening_values (filter (below b) w.calls) ≡ filter (λ x. below b x.0) (steps w)
unfolding steps
tails_at w b s le = tails_trace opening_values (first_undigested w) b w.calls s.ascends s.unseen le

pub spelled_at : (w : World) (b : ℕ → ℕ) → CallsInvariant w → ((c : ℕ) → first_undigested w c ≤ b c) →
    Spells (values_after_calls opening_values (filter (below b) w.calls)) (tree_after_calls opening_tree (ops (filter (below b) w.calls)))
unfolding steps
spelled_at w b s le = tails_spelled opening_values opening_tree (first_undigested w) b w.calls opening_spells s.answered s.ascends s.make_new s.unseen le

pub answered_at : (w : World) (b : ℕ → ℕ) → CallsInvariant w → ((c : ℕ) → first_undigested w c ≤ b c) →
    AreAnswered opening_tree (exchanges (filter (below b) w.calls))
unfolding steps
answered_at w b s le = tails_run opening_values opening_tree (first_undigested w) b w.calls opening_spells s.answered s.ascends s.make_new s.unseen le

pub new_at : (w : World) (b : ℕ → ℕ) → CallsInvariant w → ((c : ℕ) → first_undigested w c ≤ b c) → AllMakeNew opening_values (filter (below b) w.calls)
unfolding steps
new_at w b s le = tails_new opening_values opening_tree (first_undigested w) b w.calls opening_spells s.answered s.ascends s.make_new s.unseen le

pub rebuilds : (w : World) (n i : ℕ) → WorldInvariant w → Full w n → alone_at w n i ≡ values_after_calls opening_values (calls_replicated w) i
unfolding calls_replicated
rebuilds w n i s f =
    alone_value w n i s f
    ∙ sym (grind arith)
    ∙ sym (value-filter (λ x. true) (below (first_unreplicated w)) i (opening_values i) (steps w))
    ∙ ap (λ xs. late_value (λ x. true) i (opening_values i) xs) (sym (tails_at w (first_unreplicated w) s.coherent (first_undigested-below w s.coherent)))
    ∙ sym (values-value opening_values (filter (below (first_unreplicated w)) w.calls) i)
  where
    and_true : (b : Bool) → (b && true) ≡ b
    and_true true = refl
    and_true false = refl

-- so it spells the tree of those calls
pub rebuilds_tree : (w : World) (n : ℕ) → WorldInvariant w → Full w n → Spells (alone_at w n) (tree_after_calls opening_tree (ops (calls_replicated w)))
unfolding calls_replicated
rebuilds_tree w n s f =
    subst (λ v. Spells v (tree_after_calls opening_tree (ops (filter (below (first_unreplicated w)) w.calls)))) (sym (λ t i. rebuilds w n i s f t))
    (spelled_at w (first_unreplicated w) s.coherent (first_undigested-below w s.coherent))

-- and those calls are a run
pub rebuilds_run : (w : World) → WorldInvariant w → AreAnswered opening_tree (exchanges (calls_replicated w))
unfolding calls_replicated
rebuilds_run w s = answered_at w (first_unreplicated w) s.coherent (first_undigested-below w s.coherent)
