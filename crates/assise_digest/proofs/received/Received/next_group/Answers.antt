use Rattle.assise_digest.proofs.Common.{◌-◌, ap, seen_log}
use Rattle.assise_digest.proofs.Grouped.{is_next_group}
use Rattle.assise_digest.proofs.received.Received.next_group.Goals as goal

pub returns : goal.returns
returns c =
    is_next_group (seen_log c.args.self.now) _ c.end.ensures.lawful c.requires.begun c.requires.more
    (ap (λ n. n - c.args.self.now.digested) c.group_end.ensures)
