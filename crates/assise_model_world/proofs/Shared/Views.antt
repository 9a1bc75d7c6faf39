-- What a client reads at its home is what the calls made.
use Rattle.assise_model_world.proofs.Common.{◌≡◌, ℕ, ◌-◌, ◌≤◌, ◌⊎◌, true, false, List, [], ◌∷◌, refl, ap, sym, ◌∙◌, ◌==◌, arith, drop-take, take-take, eq-eqb}
use Rattle.assise_model_world.proofs.Common.{or_right, answer, all_effects, Values, value_after, touched, contains, Step, AgreeOn, late_value, raised_at}
use Rattle.assise_model_world.proofs.Common.{NumberedCall, step_of, below, Clear, IsOrdered, CallsInvariant, WorldInvariant, World, Full, opening_values}
use Rattle.assise_model_world.proofs.Common.{end_of_log, records_between, call_at, first_undigested_at, first_undigested, steps, now, tree, undigested_records}
use Rattle.assise_model_world.proofs.Common.{undigested_below, view, step_at_home, each-both, step_replies}
use Rattle.assise_inode_table.proofs.Shared.Local.{step_local}
use Rattle.assise_model_world.proofs.Lists.{same_value, values-value}
use Rattle.assise_model_world.proofs.Shared.WorldObserved.{call_at-mono, call_at-end, received_by_all-below}
use Rattle.assise_model_world.proofs.Shared.WorldObserved.{received_by_all-end, first_undigested-low, IsCounted}
use Rattle.assise_model_world.proofs.Shared.WorldObserved.{all_counted, guarded_all, part_value, later, area_at, disjoint}

pub clear_from : (d ys : List ℕ) → ((i : ℕ) → contains ys i ≡ true → contains d i ≡ false) → Clear d ys
clear_from d [] f = tt
clear_from d (y ∷ ys) f = (f y (rw (eq-eqb y y refl) refl), clear_from d ys (λ i e. f i (or_right (y == i) (contains ys i) e)))

pub now_value : (w : World) (i : ℕ) → now w i ≡ late_value (λ x. true) i (opening_values i) (steps w)
unfolding now steps
now_value w i = values-value opening_values w.calls i

-- all of a client's records over a full node's area
abbrev over_area : World → ℕ → ℕ → Values
over_area w n c i = value_after i (w.area n i) (all_effects (records_between w c (w.digested n c) (end_of_log w c)))

-- they give what the calls made of an inode that the client holds
over_area_now : (w : World) (n c i : ℕ) → CallsInvariant w → Full w n → w.holds c i ≡ true → over_area w n c i ≡ now w i
unfolding first_undigested_at
over_area_now w n c i s f held =
    let xs : List (NumberedCall × Step) = steps w in
    let b : ℕ → ℕ = first_undigested_at w n in
    let k : ℕ = call_at w c (end_of_log w c) in
    let o : IsOrdered w n c = s.order n c f in
    let le : w.digested n c ≤ end_of_log w c = omega (arith, o.replicated, received_by_all-end w c) in
    ap (λ v. value_after i v (all_effects (records_between w c (w.digested n c) (end_of_log w c)))) (area_at w n i s f)
    ∙ part_value w c (w.digested n c) (end_of_log w c) i (late_value (below b) i (opening_values i) xs) s o.digested_border (s.end_border c) o.begun le
    (omega arith)
    ∙ sym (later w b c k i (opening_values i) s (first_undigested-low w n s f c) (call_at-mono w c (w.digested n c) (end_of_log w c) s le))
    ∙ same_value (below (raised_at b c k)) (λ x. true) i (opening_values i) xs
    (each-both (λ x. (i : ℕ) → first_undigested w x.0.client ≤ x.0.number → w.writes x.0.client i ≡ false → contains (touched x.1.effects) i ≡ false)
    (λ x. IsCounted w x.0)
    (λ x. (below (raised_at b c k) x.0 ≡ true) ⊎ (contains (touched x.1.effects) i ≡ false)) xs
    (grind (arith, call_at-end, first_undigested-low, disjoint))
    (guarded_all w s) (all_counted w s))
    ∙ sym (now_value w i)

-- ---- a full node's log

-- what a full node has ahead are the client's own records from what it digested on, as far as it received them
pub ahead_between : (w : World) (n c : ℕ) → WorldInvariant w → Full w n → undigested_records w n c ≡ records_between w c (w.digested n c) (w.received n c)
unfolding undigested_records records_between
ahead_between w n c s f = grind (arith, received_by_all-below w n c f, drop-take (w.digested n c - w.first c) (w.received n c - w.digested n c) (w.records c))

pub ahead_below_between : (w : World) (n c k : ℕ) → WorldInvariant w → Full w n → k ≤ w.received n c → undigested_below w n c k
    ≡ records_between w c (w.digested n c) k
unfolding undigested_below records_between
ahead_below_between w n c k s f h = grind (arith, ahead_between, take-take)

-- ---- at home

-- a client reads at its home what the calls made of an inode that it holds
pub reads_truth : (w : World) (c i : ℕ) → WorldInvariant w → w.lives c ≡ true → w.holds c i ≡ true → view w (w.home c) c i ≡ now w i
unfolding view
reads_truth w c i s lives held = grind (arith, ahead_between, over_area_now)

agree_held : (w : World) (c : ℕ) (is : List ℕ) → WorldInvariant w → w.lives c ≡ true → ((i : ℕ) → contains is i ≡ true → w.holds c i ≡ true) →
    AgreeOn is (view w (w.home c) c) (now w)
agree_held w c [] s f h = tt
agree_held w c (i ∷ is) s f h =
    (reads_truth w c i s f (h i (rw (eq-eqb i i refl) refl)), agree_held w c is s f (λ j t. h j (or_right (i == j) (contains is j) t)))

-- the step of a call over what its client reads is the step over all calls
pub true_step : (w : World) (x : NumberedCall) → WorldInvariant w → w.lives x.client ≡ true →
    ((i : ℕ) → contains (step_at_home w x).visits i ≡ true → w.holds x.client i ≡ true) → step_at_home w x ≡ step_of (now w) x
true_step w x s f h = step_local (view w (w.home x.client) x.client) (now w) x.op x.fresh (agree_held w x.client (step_at_home w x).visits s f h)

pub true_reply : (w : World) (x : NumberedCall) → WorldInvariant w → w.lives x.client ≡ true →
    ((i : ℕ) → contains (step_at_home w x).visits i ≡ true → w.holds x.client i ≡ true) → (step_at_home w x).reply ≡ (answer (tree w) x.op).0
true_reply w x s f h = ap (λ t. t.reply) (true_step w x s f h) ∙ step_replies (now w) (tree w) x.op x.fresh s.coherent.spelled
