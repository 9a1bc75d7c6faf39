-- What is left of a traversal, step by step.
use Rattle.assise_seq_tree.proofs.Common.{◌≡◌, ◌≤◌, map, length-append, Ok, ◌+◌, ℕ, List, [], ◌∷◌, ◌++◌, length, refl, ap, arith, append_assoc, append-nil}
use Rattle.assise_seq_tree.proofs.Common.{length-map, map-append, as_directory, Place, places_below, places_of, Tree, places_left, map_entries}
use Rattle.assise_seq_tree.proofs.Entries.{Stored}

-- the innermost directory gives an entry
pub left-next : (path names : List (List ℕ)) (more : List (List Stored)) (e : Stored) (es : List Stored) → length more ≡ length names →
    places_left path names (more ++ (e ∷ es) ∷ []) ≡ ((path ++ names) ++ e.0 ∷ [], e.1) ∷ places_below ((path ++ names) ++ e.0 ∷ []) e.1 ++ places_left path
    names (more ++ es ∷ [])
left-next path [] [] e es long = rw (append-nil path) refl
left-next path [] (m ∷ more) e es long = absurd (omega (arith, long))
left-next path (n ∷ names) [] e es long = absurd (omega (arith, long))
left-next path (n ∷ names) (m ∷ more) e es long = grind (arith, left-next (path ++ n ∷ []) names more e es (omega (arith, long)), append_assoc)

-- the innermost directory has ended
pub left-ended : (path names : List (List ℕ)) (more : List (List Stored)) → places_left path names (more ++ [] ∷ []) ≡ places_left path names more
left-ended path [] [] = refl
left-ended path (n ∷ names) [] = refl
left-ended path [] (m ∷ more) = ap (λ ps. ps ++ places_of path (map_entries m)) (left-ended path [] more)
left-ended path (n ∷ names) (m ∷ more) = ap (λ ps. ps ++ places_of path (map_entries m)) (left-ended (path ++ n ∷ []) names more)

-- a name below the innermost directory doesn't count
pub left-above : (path names : List (List ℕ)) (name : List ℕ) (more : List (List Stored)) → length more ≤ length names + 1 →
    places_left path (names ++ name ∷ []) more ≡ places_left path names more
left-above path names name [] long = refl
left-above path [] name (m ∷ []) long = refl
left-above path [] name (m ∷ k ∷ more) long = absurd (omega (arith, long))
left-above path (n ∷ names) name (m ∷ more) long = grind (arith, left-above (path ++ n ∷ []) names name more (omega (arith, long)))

-- the entries of a directory come before what was left
pub left-entered : (path names : List (List ℕ)) (name : List ℕ) (more : List (List Stored)) (es below : List Stored) → length more ≡ length names →
    places_left path (names ++ name ∷ []) ((more ++ es ∷ []) ++ below ∷ []) ≡ places_of ((path ++ names) ++ name ∷ []) (map_entries below) ++ places_left path
    names (more ++ es ∷ [])
left-entered path [] name [] es below long = rw (append-nil path) refl
left-entered path [] name (m ∷ more) es below long = absurd (omega (arith, long))
left-entered path (n ∷ names) name [] es below long = absurd (omega (arith, long))
left-entered path (n ∷ names) name (m ∷ more) es below long = grind
    (arith, left-entered (path ++ n ∷ []) names name more es below (omega (arith, long)), append_assoc)

-- the way up from a directory that has ended: the one above it goes on
pub left-behind : {N : Type 0} (f : N → List ℕ) (names rest : List N) (name : N) (above more : List (List Stored)) (ended es : List Stored) (left : List Place)
    →
    names ≡ rest ++ name ∷ [] → above ≡ more ++ es ∷ [] → ended ≡ [] → length above ≡ length names → places_left [] (map f names) (above ++ ended ∷ []) ≡ left →
    places_left [] (map f rest) (more ++ es ∷ []) ≡ left
left-behind f names rest name above more ended es left way front none long is = grind (arith, length-append, length-map, map-append, left-above, left-ended)

pub along-behind : {N : Type 0} (names rest : List N) (name : N) (above more : List (List Stored)) (es : List Stored) →
    names ≡ rest ++ name ∷ [] → above ≡ more ++ es ∷ [] → length above ≡ length names → length more ≡ length rest
along-behind names rest name above more es way front long =
    omega (arith, ap length front, ap length way, length-append rest (name ∷ []), length-append more (es ∷ []), long)

-- the way down: what a directory holds comes next
pub left-into : {N : Type 0} (f : N → List ℕ) (names pushed : List N) (name : N) (above more : List (List Stored)) (es below top : List Stored) (t : Tree)
    (way : List (List ℕ)) (left : List Place) →
    length above ≡ length names → pushed ≡ names ++ name ∷ [] → more ≡ above ++ es ∷ [] → top ≡ below → as_directory t ≡ Ok (map_entries below) →
    map f names ≡ way → places_left [] (map f names) (above ++ es ∷ []) ≡ left →
    places_left [] (map f pushed) (more ++ top ∷ []) ≡ places_below (way ++ f name ∷ []) t ++ left
left-into f names pushed name above more es below top t way left long named kept same is along before = grind (arith, left-entered, length-map, map-append)
