use Rattle.assise_seq_tree.proofs.Common.{◌≡◌, is_some, sym, ap, ◌∙◌, false, true, nat_le, arith, nat_tests, find, count, map_entries}
use Rattle.assise_seq_tree.proofs.Entries.{find-entries_of, count-entries_of}
use Rattle.assise_seq_tree.proofs.answer.room_for.Goals as goal

pub returns-then-len-ge-MOST_ENTRIES : goal.returns-then-len-ge-MOST_ENTRIES
returns-then-len-ge-MOST_ENTRIES c =
    let es = c.args.entries.now.entries in
    let absent : is_some (find c.args.name.now (map_entries es)) ≡ false = ap is_some (find-entries_of _ es) ∙ sym (c.contains_key.ensures)
    ∙ c.if-contains_key.false in
    let full : nat_le 4096 (count (map_entries es)) ≡ true = rw (count-entries_of es) (grind (arith, nat_tests)) in
    rw (absent, full)

pub returns : goal.returns
returns c =
    let es = c.args.entries.now.entries in
    let absent : is_some (find c.args.name.now (map_entries es)) ≡ false = ap is_some (find-entries_of _ es) ∙ sym (c.contains_key.ensures)
    ∙ c.if-contains_key.false in
    let room : nat_le 4096 (count (map_entries es)) ≡ false = rw (count-entries_of es) (grind (arith, nat_tests)) in
    rw (absent, room)
