use Rattle.assise_private_log.proofs.Common.{◌≤◌, rules, arith, end}
use Rattle.assise_private_log.proofs.Shared.Borders.{border_end, covers_group, next_is_group_end}
use Rattle.assise_private_log.proofs.log_view.LogView.group_end.Goals as goal

pub returns-then-is_border-clause-end : goal.returns-then-is_border-clause-end
returns-then-is_border-clause-end c = next_is_group_end c.args.self.now c.args.number _ (search rules) (search rules) c.loop-border.invariant

pub returns-then-is_border-clause-covers : goal.returns-then-is_border-clause-covers
returns-then-is_border-clause-covers c inode = covers_group c.args.self.now inode c.args.number c.end-end.ensures.lawful

pub returns-clause-end : goal.returns-clause-end
returns-clause-end c =
    let past : end c.args.self.now ≤ c.max.result = omega (arith, c.end-end.ensures.end) in
    next_is_group_end c.args.self.now c.args.number _ (search rules) (border_end c.args.self.now _ c.end-end.ensures.lawful.marks past)
    (λ k from below. c.loop-border.invariant k from (omega arith))

pub returns-clause-covers : goal.returns-clause-covers
returns-clause-covers c inode = covers_group c.args.self.now inode c.args.number c.end-end.ensures.lawful
