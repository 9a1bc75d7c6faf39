-- What was synced is kept.
use Rattle.assise_model_history.proofs.Common.{◌≡◌, ℕ, List, [], ◌∷◌, ◌++◌, Contains, refl, sym, subst, ◌∙◌, ◌⊎◌, inl, inr, arith, append_assoc, Call, Loss}
use Rattle.assise_model_history.proofs.Common.{EntryValue, calls, fails, kept, IsTaken, IsFair, IsLegal, IsNextCall, IsOn, MayCall, MayLose, prefix_in}
use Rattle.assise_model_history.proofs.Common.{follows_in, passes_at, one_place, WasSynced}
use Rattle.assise_history.proofs.Shared.Lost.{kept_from}

-- where two entries of a list stand to one another
record Between {X : Type 0} (before since : List X) (x : X) (prefix behind : List X) (y : X) : Type 0 where
  rest : List X
  since_is : since ≡ rest ++ y ∷ behind
  prefix_is : prefix ≡ before ++ x ∷ rest

record Same {X : Type 0} (before since : List X) (x : X) (prefix behind : List X) (y : X) : Type 0 where
  prefix_is : before ≡ prefix
  entry_is : x ≡ y
  behind_is : since ≡ behind

placed : {X : Type 0} (before since : List X) (x : X) (prefix behind : List X) (y : X) → before ++ x ∷ since ≡ prefix ++ y ∷ behind →
    Same before since x prefix behind y ⊎ Between before since x prefix behind y ⊎ Between prefix behind y before since x
placed [] since x [] behind y h = inl record { prefix_is = refl; entry_is = cc; behind_is = cc }
placed [] since x (f ∷ prefix) behind y h = grind arith
placed (b ∷ before) since x [] behind y h = grind arith
placed (b ∷ before) since x (f ∷ prefix) behind y h =
    let here : b ≡ f = cc in
    let tails : before ++ x ∷ since ≡ prefix ++ y ∷ behind = cc in
    elim (placed before since x prefix behind y tails) [
      | inl p ↦ let q = p.prefix_is in inl record { prefix_is = cc; entry_is = p.entry_is; behind_is = p.behind_is }
      | inr more ↦ grind arith
    ]

-- a client whose node failed, since it was opened there, makes no call
failed_since : (h prefix rest : List EntryValue) (c n : ℕ) (losses : List Loss) → IsLegal h → h ≡ prefix ++ fails n losses ∷ rest → IsOn prefix c n →
    MayCall h c → ⊥
failed_since h prefix rest c n losses legal split on may = grind (arith, append_assoc, one_place, passes_at)

-- no failure takes it, neither before the sync nor after it
not_taken : (h before since : List EntryValue) (y : Call) → IsLegal h → h ≡ before ++ calls y ∷ since → WasSynced h y → IsTaken since y → ⊥
not_taken h before since y legal split f t =
    let prefix : List EntryValue = before ++ calls y ∷ t.before in
    let failed : h ≡ prefix ++ fails t.node t.losses ∷ t.behind = grind (arith, append_assoc) in
    let fair : IsFair prefix t.node t.losses = follows_in h prefix t.behind (fails t.node t.losses) legal failed in
    let may : MayLose prefix t.node t.loss = fair.each t.lower t.higher t.loss t.listed in
    let same : f.sync.client ≡ t.loss.client = f.client ∙ sym t.client in
    elim (placed f.before f.since (calls f.sync) prefix t.behind (fails t.node t.losses) (sym f.split ∙ failed)) [
      | inl p ↦ let never : calls f.sync ≡ fails t.node t.losses = p.entry_is in cc
      | inr more ↦ elim more [
        | inl p ↦
            grind arith
        | inr p ↦
            let next : IsNextCall f.before f.sync = follows_in h f.before f.since (calls f.sync) legal f.split in
            let ready : MayCall f.before t.loss.client = subst (λ c. MayCall f.before c) same next.ready in
            failed_since f.before prefix p.rest t.loss.client t.node t.losses (prefix_in h f.before (calls f.sync ∷ f.since) legal f.split) p.prefix_is may.on
            ready
      ]
    ]

pub synced_kept : (h before since : List EntryValue) (y : Call) → IsLegal h → h ≡ before ++ calls y ∷ since → WasSynced h y → Contains (kept h) y
synced_kept h before since y legal split f = grind (arith, kept_from, not_taken)
