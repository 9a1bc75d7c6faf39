use Rattle.assise_manager.proofs.Common.{◌∙◌, sym, ap, map, subst, length, IsMembership, with_standing, full_nodes, standing, listed_inodes, membership}
use Rattle.assise_manager.proofs.Places.{whole, full_away}
use Rattle.assise_manager.proofs.Shared.Lawful.{with_node_lawful}
use Rattle.assise_manager.proofs.members.Members.put.Goals as goal

pub invariant_of-self : goal.invariant_of-self
invariant_of-self c =
    let old = c.args.self.now in
    let now = standing c.args.now in
    let same = whole old.nodes.items c.put.new.nodes old.nodes.len old.nodes.ok.0 (c.put.ensures.len ∙ ap length c.deref_mut.ensures.value) in
    let nodes = ap (map standing) same ∙ c.put.ensures.nodes ∙ ap (λ ns. with_standing (map standing ns) c.args.node now) c.deref_mut.ensures.value in
    record {
      lawful = subst (λ ns. IsMembership (record { epoch = old.epoch; nodes = ns; written = map listed_inodes old.written.items; levels = old.levels.items }))
          (sym nodes) (with_node_lawful (membership old) c.args.node now old.lawful c.requires.there c.requires.away c.requires.known);
      listed = old.listed ∙ sym (ap full_nodes nodes ∙ full_away (map standing old.nodes.items) c.args.node now c.requires.there c.requires.away);
      room = old.room;
      few = old.few;
    }
