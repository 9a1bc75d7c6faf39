-- An entry that a directory gets.
use Rattle.assise_seq_tree.proofs.Common.{◌≡◌, ℕ, Bool, true, false, List, [], ◌∷◌, None, Err, BTreeMap, nat_cmp, cond, refl, ap, ◌∙◌, get, insert_entry}
use Rattle.assise_seq_tree.proofs.Common.{slice_cmp, NoEnt, Tree, dir, Entries, no_entries, entry, insert, set, at, put, AreOrdered, IsOrdered, map_entries}
use Rattle.assise_seq_tree.proofs.Common.{arith}
use Rattle.assise_seq_tree.proofs.Entries.{find-entries_of, insert-entries_of}
use Rattle.assise_seq_tree.proofs.Order.{below_trans}
use Rattle.assise_seq_tree.proofs.Walk.{at_missing}
use Rattle.assise_seq_tree.proofs.Shared.Sets.{find_below}

within : (other : List ℕ) (u : Tree) (b : Bool) (new changed inserted : Entries) → new ≡ cond b changed inserted →
    entry other u new ≡ cond b (entry other u changed) (entry other u inserted)
within other u true new changed inserted e = ap (entry other u) e
within other u false new changed inserted e = ap (entry other u) e

-- in order, a name that is there already stands at its sorted place
pub insert_sets : (name : List ℕ) (t : Tree) (es : Entries) → AreOrdered es → insert name t es ≡ set name t es
insert_sets name t no_entries s = refl
insert_sets name t (entry other u es) s = grind (arith, insert_sets name t es s.2, find_below, below_trans)

pub put_entry : (t x : Tree) (name : List ℕ) (m n : BTreeMap (List ℕ) Tree) → IsOrdered t → t ≡ dir (map_entries m.entries)
    → n.entries ≡ insert_entry (slice_cmp nat_cmp) m.entries name x → dir (map_entries n.entries) ≡ put t (name ∷ []) x
unfolding put
put_entry t x name m n s is written = grind (arith, insert-entries_of, insert_sets)

pub new_entry : (t : Tree) (name : List ℕ) (m : BTreeMap (List ℕ) Tree) → t ≡ dir (map_entries m.entries) → get (slice_cmp nat_cmp) m name ≡ None →
    at t (name ∷ []) ≡ Err NoEnt
new_entry t name m is none = at_missing t (name ∷ []) (map_entries m.entries) name [] refl is (find-entries_of name m.entries ∙ none)
