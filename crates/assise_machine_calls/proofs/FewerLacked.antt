-- With each lease that a call gets it lacks fewer.
use Rattle.assise_machine_calls.proofs.Common.{◌≡◌, ℕ, suc, ◌<◌, ◌≤◌, true, if◌then◌else◌, List, [], ◌∷◌, Some, None, inl, inr, subst, sym, arith, cases_Bool}
use Rattle.assise_machine_calls.proofs.Common.{Mode, LeaseView, first_missing}

-- how many of them aren't leased so
abbrev pub unserved : LeaseView → List (ℕ × Mode) → ℕ
unserved leased [] = 0
unserved leased (w ∷ ws) = if leased w.0 w.1 then unserved leased ws else suc (unserved leased ws)

-- what is leased stays so
abbrev pub Grows : LeaseView → LeaseView → Type 0
Grows old new = (i : ℕ) (mode : Mode) → old i mode ≡ true → new i mode ≡ true

not_more : (old new : LeaseView) (ws : List (ℕ × Mode)) → Grows old new → unserved new ws ≤ unserved old ws
not_more old new [] grows = omega arith
not_more old new (w ∷ ws) grows =
    let rest = not_more old new ws grows in
    elim (cases_Bool (old w.0 w.1)) [
      | inl had ↦ rw (had, grows w.0 w.1 had) rest
      | inr lacked ↦
          elim (cases_Bool (new w.0 w.1)) [
            | inl got ↦ rw (lacked, got) (omega (arith, rest))
            | inr lacks ↦ rw (lacked, lacks) (omega (arith, rest))
          ]
    ]

pub fewer : (old new : LeaseView) (ws : List (ℕ × Mode)) (w : ℕ × Mode) → Grows old new → first_missing old ws ≡ Some w → new w.0 w.1 ≡ true →
    unserved new ws < unserved old ws
fewer old new [] w grows missing got = absurd (let none : None ≡ Some w = missing in cc)
fewer old new (v ∷ vs) w grows missing got =
    elim (cases_Bool (old v.0 v.1)) [
      | inl had ↦ rw (had, grows v.0 v.1 had) (fewer old new vs w grows (subst (λ b. (if b then first_missing old vs else Some v) ≡ Some w) had missing) got)
      | inr lacked ↦
          let here : v ≡ w = some_same (subst (λ b. (if b then first_missing old vs else Some v) ≡ Some w) lacked missing) in
          let now : new v.0 v.1 ≡ true = subst (λ u. new u.0 u.1 ≡ true) (sym here) got in
          let rest = not_more old new vs grows in
          rw (lacked, now) (omega (arith, rest))
    ]
  where
    some_same : Some v ≡ Some w → v ≡ w
    some_same e = cc
