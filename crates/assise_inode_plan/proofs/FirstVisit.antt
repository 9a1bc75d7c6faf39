-- Where a walk passed the root, the call notes its first visit.
use Rattle.assise_inode_plan.proofs.Common.{◌≡◌, ℕ, true, List, [], ◌∷◌, Read, walk, Content, Values, Interaction, visits_of, LeaseView, NotesAVisit}

pub note_walk : (leased : LeaseView) (v : Values) (p : List (List ℕ)) (next : ℕ → Content → Interaction) → leased 0 Read ≡ true →
    NotesAVisit leased (visits_of v (walk p next))
note_walk leased v [] next seen = seen
note_walk leased v (name ∷ p) next seen = seen
