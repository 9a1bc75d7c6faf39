use Rattle.assise_inode_table.proofs.Common.{◌-◌, length, take, ◌∙◌, sym, false≢true}
use Rattle.assise_inode_table.proofs.LinkingFirst.{all_take_away, last_behind, link_last_asks, made_in_order}
use Rattle.assise_inode_table.proofs.whole.apply_changes.Goals.{else-is_link-via-then-is_link+else-only_take_away, else-is_link-via-else-is_link}
use Rattle.assise_inode_table.proofs.whole.apply_changes.Goals as goal

pub apply_link_first-requires-clause-take_away : goal.apply_link_first-requires-clause-take_away
apply_link_first-requires-clause-take_away g c =
    all_take_away (take (length c.args.effects.now - 1) c.args.effects.now) (sym c.only_take_away.ensures ∙ c.if-only_take_away.true)

pub apply_in_order-requires : goal.apply_in_order-requires
apply_in_order-requires g c =
    record {
      asks = made_in_order c.args.effects.now (take (length c.args.effects.now - 1) c.args.effects.now) c.last-item.result
          (last_behind c.args.effects.now c.last-item.result c.in-len1-up.len_at_least c.last-item.is) c.requires.whole (λ links away.
          elim c.else-is_link.branch [
            | else-is_link-via-then-is_link+else-only_take_away w ↦ false≢true (sym w.if-only_take_away.false ∙ w.only_take_away.ensures ∙ away)
            | else-is_link-via-else-is_link w ↦ false≢true (sym w.if-is_link.false ∙ c.is_link.ensures ∙ links)
          ]);
    }

pub returns-then-only_take_away-clause-taken_away : goal.returns-then-only_take_away-clause-taken_away
returns-then-only_take_away-clause-taken_away g c =
    λ t. absurd (link_last_asks c.args.effects.now (take (length c.args.effects.now - 1) c.args.effects.now) c.last-item.result
    (last_behind c.args.effects.now c.last-item.result c.in-len1-up.len_at_least c.last-item.is) (sym c.is_link.ensures ∙ c.if-is_link.true) t)
