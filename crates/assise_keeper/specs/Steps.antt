-- What the steps on the word tell the pass that makes them: its view and what it carries, before and after.
use Rattle.std.specs.Prelude.{◌≡◌, ◌≢◌, ℕ, List, [], ◌∷◌, Option, Some, None}
use mathlib.Core.Option.{some}
use Rattle.atomic_table.specs.Table.{Me, Step}
use Rattle.assise_history.specs.Entries.{EntryValue}
use Rattle.assise_keeper.specs.declared.view.Stage.TheVariants.{Fresh, Holding}
use Rattle.assise_keeper.specs.declared.view.View.{View}
use Rattle.assise_keeper.specs.Views.{beginning, holding, given}
use Rattle.assise_keeper.specs.Rule.{AreLed, Boxed, CoversHalf}

-- a pass as the table sees it: its view, and the slot with what lies in it while the pass carries it
abbrev pub Sitting : Type 0 → Type 0
Sitting S = Me (Option (Boxed S)) (View S)

module _ {S : Type 0} (history : S → List EntryValue) where
  -- from 0 to 1: the pass carries the slot and notes the state, whose history covers what it knows, and to which what it had noted leads
  abbrev pub taking : (leads works : S → S → Type 0) → Step (Option (Boxed S)) → Sitting S → ℕ → Sitting S → Type 0
  taking leads works st m found m' =
      (found ≡ 0 → (b : Boxed S) × (m' ≡ (holding m.0 (history b.value) b.value, (0, Some b) ∷ m.1)) × CoversHalf (history b.value) m.0.own × CoversHalf (history b.value) m.0.guest × AreLed leads works m.0 (Some b.value))
      × (found ≢ 0 → m' ≡ m)

  -- from 1 to 0: the slot goes home, and the pass has seen the state in it
  abbrev pub releasing : Step (Option (Boxed S)) → Sitting S → ℕ → Sitting S → Type 0
  releasing st m found m' = (b : Boxed S) (h : List EntryValue) (s : S) → m.1 ≡ (0, Some b) ∷ [] → m.0.stage ≡ Holding h s → m' ≡ (given m.0 h (history b.value) b.value, [])

  -- from 2 to 1: the first pass carries the empty slot, and has seen the state that it is to put in
  abbrev pub setting_up : Step (Option (Boxed S)) → Sitting S → ℕ → Sitting S → Type 0
  setting_up st m found m' = (b : Boxed S) → st.said ≡ some (Some b) → m.0.stage ≡ Fresh → (found ≡ 2) × (m' ≡ (beginning (history b.value) b.value, (0, None) ∷ m.1))
