use Rattle.assise_manager.proofs.Common.{◌∙◌, ◌++◌, sym, ap, map, take, drop, subst, length, stale_again, with_written, IsMembership, full_nodes, standing}
use Rattle.assise_manager.proofs.Common.{listed_inodes, membership}
use Rattle.std.specs.FinSet as set
use Rattle.assise_manager.proofs.Places.{whole}
use Rattle.assise_manager.proofs.Shared.Nodes.{full_from_map}
use Rattle.assise_manager.proofs.Shared.Lawful.{noted_lawful, stale_full}
use Rattle.assise_manager.proofs.members.Members.note_reserved.Goals as goal

pub invariant_of-self : goal.invariant_of-self
invariant_of-self c =
    let old = c.args.self.now in
    let inodes = set.from_list c.args.inodes.now in
    let nodes_same = whole old.nodes.items c.note_all.new.nodes old.nodes.len old.nodes.ok.0 (c.note_all.ensures.len ∙ ap length c.deref_mut-2.ensures.value) in
    let lists_same = whole old.written.items c.insert_last.new.lists old.written.len old.written.ok.0
    (c.insert_last.ensures.len ∙ ap length c.deref_mut.ensures.value) in
    let nodes = ap (map standing) nodes_same ∙ c.note_all.ensures.nodes ∙ ap (λ ns. map (stale_again c.args.node inodes) (map standing ns))
    c.deref_mut-2.ensures.value in
    let lists = ap (map listed_inodes) lists_same ∙ c.insert_last.ensures.lists ∙ ap (λ ls. with_written (map listed_inodes ls) inodes)
    c.deref_mut.ensures.value in
    record {
      lawful = subst (λ ns. IsMembership
          (record {
            epoch = old.epoch;
            nodes = ns;
            written =
                map listed_inodes (take old.written.len (c.insert_last.new.lists ++ drop (length c.insert_last.new.lists) old.written.items));
            levels =
                old.levels.items;
          })) (sym nodes)
          (subst (λ ls. IsMembership (record
          { epoch = old.epoch; nodes = map (stale_again c.args.node inodes) (map standing old.nodes.items); written = ls; levels = old.levels.items }))
          (sym lists) (noted_lawful (membership old) c.args.node inodes old.lawful));
      listed = old.listed ∙ sym
          (ap full_nodes nodes ∙ full_from_map (stale_again c.args.node inodes) (stale_full c.args.node inodes) 1 (map standing old.nodes.items));
      room = old.room;
      few = old.few;
    }
