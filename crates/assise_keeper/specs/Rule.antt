-- The rule of a keeper, over its word, its slot and the views of all passes.
use Rattle.std.specs.Prelude.{◌≡◌, ℕ, ◌<◌, Bool, true, false, List, [], ◌∷◌, Option, Some, None, Box}
use Rattle.std.specs.declared.alloc.Global.{Global}
use mathlib.Core.Option.{some, none}
use mathlib.Core.Option as maybe
use lib.ListN.{get_elem?}
use Rattle.atomic_table.specs.Table.{State}
use Rattle.assise_history.specs.Entries.{EntryValue}
use Rattle.assise_keeper.specs.declared.view.Half.{Half}
use Rattle.assise_keeper.specs.declared.view.Opens.{Opens}
use Rattle.assise_keeper.specs.declared.view.Opens.TheVariants.{Never, Alone, AmongOthers}
use Rattle.assise_keeper.specs.declared.view.Stage.{Stage}
use Rattle.assise_keeper.specs.declared.view.Stage.TheVariants.{Fresh, Idle, Holding}
use Rattle.assise_keeper.specs.declared.view.View.{View}
use Rattle.assise_keeper.specs.Clients.{openings, openings_of, calls_by, Extends}
use Rattle.assise_keeper.specs.Views.{newcomer}

-- what lies in the slot where the state is home
abbrev pub Boxed : Type 0 → Type 0
Boxed S = Box S Global

-- where the state is: not in yet, at home, or out with a pass
pub data StatePlace : Type 0 where
  not_in : StatePlace
  home : StatePlace
  out : ℕ → StatePlace

-- The word, the slot and who holds the state. Until the state is in, the word is 2, the slot is home and empty, and the
-- one pass has seen nothing. Where the state is home, the word is 0. Where it is out, the word is 1, the slot is out, and
-- there is a pass that holds it and noted it with its history.
module _ {S : Type 0} (history : S → List EntryValue) where
  abbrev pub IsAt : List ℕ → List (maybe.Option (Option (Boxed S))) → List (View S) → List EntryValue → Option S → StatePlace → Type 0
  IsAt words homes views h now not_in = (words ≡ 2 ∷ []) × (homes ≡ some None ∷ []) × (views ≡ newcomer ∷ []) × (h ≡ []) × (now ≡ None)
  IsAt words homes views h now home = (words ≡ 0 ∷ []) × ((b : Boxed S) × (homes ≡ some (Some b) ∷ []) × (history b.value ≡ h) × (now ≡ Some b.value))
  IsAt words homes views h now (out j) = (words ≡ 1 ∷ []) × (homes ≡ none ∷ []) × ((v : View S) × (get_elem? views j ≡ some v) × ((s : S) × (v.stage ≡ Holding h s) × (now ≡ Some s)))

-- No other pass holds: a pass holds only where the state is out with it.
abbrev pub IsStage : {S : Type 0} → StatePlace → List EntryValue → Option S → ℕ → Stage S → Type 0
IsStage p h now j Fresh = p ≡ not_in
IsStage p h now j Idle = Unit {0}
IsStage p h now j (Holding taken s) = (p ≡ out j) × (taken ≡ h) × (now ≡ Some s)

-- what was noted leads to the state, if something was
abbrev pub IsLed : {S : Type 0} → (S → S → Type 0) → Option S → Option S → Type 0
IsLed leads None now = Unit {0}
IsLed leads (Some s) None = ⊥
IsLed leads (Some s) (Some t) = leads s t

-- what a half noted leads to the state, and by work alone where the half alone may open
pub record IsHalfLed {S : Type 0} (leads works : S → S → Type 0) (v : Half S) (now : Option S) : Type 0 where
  pub led : IsLed leads v.last now
  pub worked : v.opens ≡ Alone → IsLed works v.last now

-- so does what both halves noted
pub record AreLed {S : Type 0} (leads works : S → S → Type 0) (v : View S) (now : Option S) : Type 0 where
  pub own : IsHalfLed leads works v.own now
  pub guest : IsHalfLed leads works v.guest now

-- The history extends what was seen. It has no call of the client that wasn't seen, and no opening where the half alone may open.
abbrev pub CoversHalf : {S : Type 0} → List EntryValue → Half S → Type 0
CoversHalf h v = Extends h v.seen × ((c : ℕ) → v.client ≡ Some c → calls_by c h ≡ calls_by c v.seen) × (v.opens ≡ Alone → openings_of h ≡ openings_of v.seen)

-- Where a client is: with which pass, and whether with the pass itself (true) or with the one that it meets.
abbrev pub Owner : Type 0
Owner = ℕ × Bool

-- who may open clients: one half alone, or each that was given the right
pub data Opener : Type 0 where
  alone : Owner → Opener
  anyone : Opener

-- a half that is there may have this right
abbrev pub HasRight : Opener → Owner → Opens → Type 0
HasRight who at Never = Unit {0}
HasRight who at Alone = who ≡ alone at
HasRight who at AmongOthers = who ≡ anyone

-- The half is covered; its client was opened in what was seen, and is with this half alone; and it may have its right.
abbrev pub HalfFits : {S : Type 0} → List EntryValue → (ℕ → Owner) → Opener → ℕ → Bool → Half S → Type 0
HalfFits h owner who pass side v = CoversHalf h v × ((c : ℕ) → v.client ≡ Some c → (0 < openings c v.seen) × (owner c ≡ (pass, side))) × HasRight who (pass, side) v.opens

abbrev pub IsPassAt : {S : Type 0} → (leads works : S → S → Type 0) → StatePlace → List EntryValue → Option S → (ℕ → Owner) → Opener → ℕ → View S → Type 0
IsPassAt leads works p h now owner who j v = HalfFits h owner who j true v.own × HalfFits h owner who j false v.guest × IsStage p h now j v.stage × AreLed leads works v now

-- There is one state, with one history: the state at home, or as it was when it was taken. The history covers what every pass knows, and
-- what every pass noted leads to the state: by work alone, where the pass alone may open clients.
pub record IsKept {S : Type 0} (history : S → List EntryValue) (leads works : S → S → Type 0) (s : State (Option (Boxed S)) (View S)) : Type 0 where
  pub h : List EntryValue
  pub now : Option S
  pub place : StatePlace
  pub owner : ℕ → Owner
  pub who : Opener
  pub is_at : IsAt history s.words s.homes s.views h now place
  pub each : (j : ℕ) (v : View S) → get_elem? s.views j ≡ some v → IsPassAt leads works place h now owner who j v
