-- The calls that change nothing agree with the tree: stat, read, list and fsync.
use Rattle.assise_inode_table.proofs.Common.{ℕ, [], length, refl, Done, Bytes, Names, File, Dir, Error, NotDir, IsDir, bytes_from, Tree, read_answer}
use Rattle.assise_inode_table.proofs.Common.{list_answer, stat_answer, Path, Values, finish, read_call, list_call, stat_call, Spells}
use Rattle.std.specs.FinMap as map
use Rattle.assise_inode_table.proofs.CallsAgree.{Agrees, agrees_quietly}
use Rattle.assise_inode_table.proofs.WalkMeets.{settled, walk_fails, walk_to_file, walk_to_directory, Meets, nothing, a_file, a_directory, meets, same_count}

pub stat_agrees : (v : Values) (t : Tree) (p : Path) (fresh : ℕ) → Spells v t → Agrees v fresh (settled v (stat_call p)) (stat_answer t p)
stat_agrees v t p fresh s = go (meets v t p s)
  where
    go : Meets v t p → Agrees v fresh (settled v (stat_call p)) (stat_answer t p)
    go (nothing e f a) = agrees_quietly v t fresh _ _ (Error e) s (walk_fails v p _ e f) (rw a refl)
    go (a_file f) = agrees_quietly v t fresh _ _ (File (length f.bytes)) s (walk_to_file v t p _ f) (rw f.there refl)
    go (a_directory d) =
        agrees_quietly v t fresh _ _ (Dir (length (map.keys d.links))) s (walk_to_directory v t p _ d) (rw (d.there, same_count d.entries d.links d.names) refl)

pub read_agrees : (v : Values) (t : Tree) (p : Path) (offset most fresh : ℕ) → Spells v t → Agrees v fresh (settled v (read_call p offset most))
    (read_answer t p offset most)
read_agrees v t p offset most fresh s = go (meets v t p s)
  where
    go : Meets v t p → Agrees v fresh (settled v (read_call p offset most)) (read_answer t p offset most)
    go (nothing e f a) = agrees_quietly v t fresh _ _ (Error e) s (walk_fails v p _ e f) (rw a refl)
    go (a_file f) = agrees_quietly v t fresh _ _ (Bytes (bytes_from offset most f.bytes)) s (walk_to_file v t p _ f) (rw f.there refl)
    go (a_directory d) = agrees_quietly v t fresh _ _ (Error IsDir) s (walk_to_directory v t p _ d) (rw d.there refl)

pub list_agrees : (v : Values) (t : Tree) (p : Path) (fresh : ℕ) → Spells v t → Agrees v fresh (settled v (list_call p)) (list_answer t p)
list_agrees v t p fresh s = go (meets v t p s)
  where
    go : Meets v t p → Agrees v fresh (settled v (list_call p)) (list_answer t p)
    go (nothing e f a) = agrees_quietly v t fresh _ _ (Error e) s (walk_fails v p _ e f) (rw a refl)
    go (a_file f) = agrees_quietly v t fresh _ _ (Error NotDir) s (walk_to_file v t p _ f) (rw f.there refl)
    go (a_directory d) = agrees_quietly v t fresh _ _ (Names (map.keys d.links)) s (walk_to_directory v t p _ d) (rw (d.there, d.names) refl)

pub sync_agrees : (v : Values) (t : Tree) (fresh : ℕ) → Spells v t → Agrees v fresh (settled v (finish Done [])) (Done, t)
sync_agrees v t fresh s = agrees_quietly v t fresh (Done, []) (Done, t) Done s refl refl
