use Rattle.assise_history.proofs.Common.{ap, arith, payloads}
use Rattle.assise_history.proofs.Payloads.{payloads_more}
use Rattle.assise_history.proofs.history.History.push.Goals as goal

pub invariant_of-self-inside : goal.invariant_of-self-inside
invariant_of-self-inside c =
    let more = payloads_more c.self.inside.entries.items c.args.entry in
    (omega (arith, c.saturating_add-self-inside.ensures, c.payload.ensures, c.self.inside.counted, more, ap payloads c.push_reserved.ensures.items), tt)
