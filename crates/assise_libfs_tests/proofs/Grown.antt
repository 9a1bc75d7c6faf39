-- A ledger with an entry more.
use Rattle.assise_libfs_tests.proofs.Common.{◌≡◌, ◌≢◌, ℕ, ◌+◌, ◌≤◌, arith, List, [], ◌∷◌, ◌++◌, refl, sym, ap, subst, ◌∙◌, inl, inr, Fsync, Done, EntryValue}
use Rattle.assise_libfs_tests.proofs.Common.{opens, calls, told_call}
use mathlib.Core.Logic.{dite}
use native.Mathlib.Decide.{ℕ_discrete}
use Rattle.std.proofs.Math.Bridge.{le_prop}
use Rattle.std.proofs.Math.Logic.{∥∥₁_elim, ∥∥₁_map}
use Rattle.assise_names.specs.declared.durability.Durability.{Durability}
use Rattle.assise_history.specs.Legal.{IsDown, IsOpenedOn, MayCall, calls_made, clients_opened}
use Rattle.assise_history.proofs.Shared.ClientCounts.{next_opened, opened_within}
use Rattle.assise_history.proofs.Shared.Legality.{fits_in, legal-nil}
use Rattle.assise_history.proofs.Shared.OneMore.{legal-call, legal-open}
use Rattle.assise_history.proofs.Shared.LivesOneMore.{down-last, down-nil, may_call-opened, may_call-push, opened-push, opened-still}
use Rattle.assise_libfs_tests.specs.Ledgers.{IsLedger}

ledger-nil : IsLedger 0 []
ledger-nil = record { legal = legal-nil; count = refl; calls = λ c lo hi. absurd (omega arith); up = down-nil }

still_up : (h : List EntryValue) (e : EntryValue) → ((m : ℕ) (losses : _) → e ≢ Rattle.assise_history.specs.Entries.fails m losses) →
    ((m : ℕ) → IsDown h m → ⊥) → (m : ℕ) → IsDown (h ++ e ∷ []) m → ⊥
still_up h e none up m d = elim (down-last h e m d) [
  | inl failed ↦ none m failed.0 failed.1
  | inr still ↦ up m still.0
]

ledger-open : (n : ℕ) (u : Durability) (h : List EntryValue) → IsLedger n h → IsLedger (n + 1) (h ++ opens (n + 1) 1 u ∷ [])
ledger-open n u h k = record {
  legal = legal-open h (n + 1) 1 u k.legal (record { next = ap (λ (z : ℕ). z + 1) k.count; up = k.up 1 });
  count = ap (λ (z : ℕ). z + 1) k.count ∙ sym (opened-push h (n + 1) 1 u);
  calls = λ c lo hi. dite (ℕ_discrete c (n + 1))
      (λ e. subst (λ (z : ℕ). MayCall (h ++ opens z 1 u ∷ []) c) e (may_call-opened h c 1 u))
      (λ ne. may_call-push h (opens (n + 1) 1 u) c (k.calls c lo (omega arith)) refl refl);
  up = still_up h (opens (n + 1) 1 u) (λ m losses e. cc) k.up;
}

ledger-call : (n : ℕ) (h : List EntryValue) (c : ℕ) → 1 ≤ c → c ≤ n → IsLedger n h → IsLedger n (h ++ told_call c h Fsync Done ∷ [])
ledger-call n h c lo hi k = record {
  legal = legal-call h (record { client = c; number = calls_made c h; op = Fsync; reply = Done }) k.legal (record { ready = k.calls c lo hi; number = refl })
      refl;
  count = k.count ∙ sym (opened-still h (told_call c h Fsync Done) refl);
  calls = λ d lo' hi'. may_call-push h (told_call c h Fsync Done) d (k.calls d lo' hi') refl refl;
  up = still_up h (told_call c h Fsync Done) (λ m losses e. cc) k.up;
}

pub begun : ∥ IsLedger 0 [] ∥₁
begun = ∣ ledger-nil ∣₁

pub opened : (n : ℕ) (u : Durability) (h h' : List EntryValue) → ∥ IsLedger n h ∥₁ → h' ≡ h ++ opens (n + 1) 1 u ∷ [] → ∥ IsLedger (n + 1) h' ∥₁
opened n u h h' k e = ∥∥₁_map k (λ l. subst (IsLedger (n + 1)) (sym e) (ledger-open n u h l))

pub called : (n : ℕ) (h h' : List EntryValue) (c : ℕ) → 1 ≤ c → c ≤ n → ∥ IsLedger n h ∥₁ → h' ≡ h ++ told_call c h Fsync Done ∷ [] → ∥ IsLedger n h' ∥₁
called n h h' c lo hi k e = ∥∥₁_map k (λ l. subst (IsLedger n) (sym e) (ledger-call n h c lo hi l))

pub unchanged : (n : ℕ) (h h' : List EntryValue) → ∥ IsLedger n h ∥₁ → h' ≡ h → ∥ IsLedger n h' ∥₁
unchanged n h h' k e = subst (λ z. ∥ IsLedger n z ∥₁) (sym e) k

no_proofs : (x y : ⊥) → x ≡ y
no_proofs x y = absurd x

-- no node is down
pub none_down : (n : ℕ) (h : List EntryValue) → ∥ IsLedger n h ∥₁ → (m : ℕ) → IsDown h m → ⊥
none_down n h k m down = ∥∥₁_elim k no_proofs (λ l. l.up m down)

-- as many clients were opened as it says
pub opened_so_many : (n : ℕ) (h : List EntryValue) → ∥ IsLedger n h ∥₁ → clients_opened h ≡ n
opened_so_many n h k =
    let most : clients_opened h ≤ n = ∥∥₁_elim k le_prop (λ l. let same = l.count in omega (arith, same)) in
    let least : n ≤ clients_opened h = ∥∥₁_elim k le_prop (λ l. let same = l.count in omega (arith, same)) in
    omega (arith, most, least)

-- its clients may call
pub may_call : (n : ℕ) (h : List EntryValue) (c : ℕ) → ∥ IsLedger n h ∥₁ → 1 ≤ c → c ≤ n → ∥ MayCall h c ∥₁
may_call n h c k lo hi = ∥∥₁_map k (λ l. l.calls c lo hi)

-- no other client was ever opened
pub no_other : (n : ℕ) (h : List EntryValue) (c : ℕ) → ∥ IsLedger n h ∥₁ → (1 ≤ c → c ≤ n → ⊥) → (m : ℕ) → IsOpenedOn h c m → ⊥
no_other n h c k other m o = ∥∥₁_elim k no_proofs (λ l.
    let first = next_opened o.before c m o.durability (fits_in h o.before o.since (opens c m o.durability) l.legal o.split) in
    let within = opened_within h o.before o.since c m o.durability l.legal o.split in
    let count = l.count in
    other (omega arith) (omega arith))
