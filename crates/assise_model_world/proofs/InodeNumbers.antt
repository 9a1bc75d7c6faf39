-- Numbers of inodes.
use Rattle.assise_model_world.proofs.Common.{◌≡◌, ℕ, ◌<◌, inl, inr, true, List, [], ◌∷◌, IsSome, sym, subst, list_any, Values, after, makes, NumberedCall}
use Rattle.assise_model_world.proofs.Common.{trace, step_of, values_after_calls, Each, IsMadeBy, IsMade, Counted, Numbered, AreMade, World, IsClient}
use Rattle.assise_model_world.proofs.Common.{opening_values, steps, now, root_alone}
use Rattle.assise_inode_table.proofs.Shared.CallEnds.{makes_own}
use Rattle.assise_inode_table.proofs.Shared.InodeNumbers.{there_or_made}

-- after a call more
pub made_here : (w : World) (v : Values) (x : NumberedCall) → IsClient w x.client →
    (list_any (makes x.fresh) (step_of v x).effects ≡ true → IsMadeBy w x.client x.fresh) →
    ((i : ℕ) → IsSome (v i) → IsMade w i) → (i : ℕ) → IsSome (after v (step_of v x).effects i) → IsMade w i
made_here w v x client numbered old i h =
    elim (there_or_made i (v i) (step_of v x).effects h) [
      | inl there ↦ old i there
      | inr new ↦
          let is : i ≡ x.fresh = (makes_own v x.op x.fresh i new).0 in
          inr (x.client, (client, subst (IsMadeBy w x.client) (sym is) (numbered (subst (λ j. list_any (makes j) (step_of v x).effects ≡ true) is new))))
    ]

made_all : (w : World) (v : Values) (xs : List NumberedCall) → ((i : ℕ) → IsSome (v i) → IsMade w i) →
    Each (λ x. IsClient w x.client × (x.number < w.next x.client)) xs →
    Each (λ x. list_any (makes x.0.fresh) x.1.effects ≡ true → IsMadeBy w x.0.client x.0.fresh) (trace v xs) →
    (i : ℕ) → IsSome (values_after_calls v xs i) → IsMade w i
made_all w v [] old c m i h = old i h
made_all w v (x ∷ xs) old c m i h = made_all w (after v (step_of v x).effects) xs (made_here w v x c.0.0 m.0 old) c.1 m.1 i h

-- each inode that is there is the root, or a client made it
pub there_was_made : (w : World) → Counted w → Numbered w → AreMade w
unfolding Counted Numbered AreMade now steps
there_was_made w c m = made_all w opening_values w.calls (λ i h. inl (root_alone i h)) c m
