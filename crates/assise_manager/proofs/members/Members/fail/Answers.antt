use Rattle.assise_manager.proofs.Common.{◌∙◌, Some, ap, standing, membership}
use Rattle.assise_manager.proofs.Shared.Lawful.{down_known}
use Rattle.assise_manager.proofs.members.Members.fail.Goals as goal

pub put-requires-clause-known : goal.put-requires-clause-known
put-requires-clause-known c = down_known (membership c.args.self.now) c.args.node c.in-Returning.returning.since _ _ c.args.self.now.lawful
    (c.in_ok-returning.ensures.ok ∙ ap (λ n. Some (standing n)) c.in-Returning.is)
