use Rattle.assise_digest.proofs.Common.{◌≡◌, Some, ◌∙◌, ap, sym, subst, all_applied, CanBeMadeWhole, record_at, ahead, first_effects, next_effects}
use Rattle.assise_digest.proofs.Common.{LogInvariant, seen_log}
use Rattle.assise_digest.proofs.ReceivedLogs.{ahead_next}
use Rattle.assise_digest.proofs.RegionLogs.{here_sound, in_place, next_whole, same_item}
use Rattle.assise_digest.proofs.Grouped.{digested_sound_all, digested_view_all, first_alone}
use Rattle.assise_digest.proofs.region.Region.digest_next.Goals as goal
use Rattle.assise_digest.proofs.region.Region.digest_next.Goals.{After-count_digested}

pub apply_all-requires : goal.apply_all-requires
apply_all-requires c =
    let x = c.index-received.result.now in
    let here = here_sound _ c.self.inside.logs.items c.args.self.now c.args.client x
    c.self.invariant c.self.view_is c.requires.client c.index-received.ensures in
    record { whole = subst CanBeMadeWhole (sym c.effects.ensures.effects) (next_whole x c.in-Some.next.now here.begun here.whole c.in-Some.ensures) }

-- the log is sound, and the effects of its next record are made
next_here : (c : After-count_digested) → let x = c.index_mut.result.now in let m = c.self.inside.area.inodes in
    LogInvariant m x × (c.apply_all.new.self.inodes ≡ all_applied m (next_effects (seen_log x)))
next_here c =
    let xs = c.self.inside.logs.items in
    let x = c.index_mut.result.now in
    let r = c.args.self.now in
    let next = c.in-Some.next.now in
    let within = in_place _ xs r c.args.client c.self.view_is c.requires.client in
    let here = here_sound _ xs r c.args.client x c.self.invariant c.self.view_is c.requires.client c.index_mut.ensures.value in
    let same = same_item xs _ c.index-received.result.now x within c.index-received.ensures c.index_mut.ensures.value in
    let is = subst (λ z. Some next ≡ record_at z.log z.digested) same c.in-Some.ensures in (
      here,
      c.in_ok-apply_all.ensures.ok
          ∙ ap (all_applied c.self.inside.area.inodes) (c.effects.ensures.effects ∙ sym (ap first_effects (ahead_next (seen_log x) next here.begun is))),
    )

pub invariant_of-self-2 : goal.invariant_of-self-2
invariant_of-self-2 c =
    let m = c.self.inside.area.inodes in
    let x = c.index_mut.result.now in
    let now = next_here (goal.at.invariant_of-self-2 c).After-count_digested in
    digested_sound_all m c.apply_all.new.self.inodes c.self.inside.logs.items c.args.self.now c.args.client 1 x c.count_digested.new.self
    c.self.view_is c.requires.client c.requires.disjoint c.self.invariant c.index_mut.ensures.value
    (now.1 ∙ ap (all_applied m) (sym (first_alone (ahead (seen_log x)))))
    (subst (λ w. LogInvariant w c.count_digested.new.self) (sym now.1) (c.count_digested.ensures.sound m now.0))

pub returns-clause-ok : goal.returns-clause-ok
returns-clause-ok c =
    let m = c.self.inside.area.inodes in
    let x = c.index_mut.result.now in
    let now = next_here (goal.at.returns-clause-ok c).After-count_digested in
    digested_view_all m c.apply_all.new.self.inodes c.apply_all.new.self.capacity c.self.inside.logs.items c.args.self.now c.args.client 1 x
    c.count_digested.new.self c.self.view_is c.requires.client c.index_mut.ensures.value
    (now.1 ∙ ap (all_applied m) (sym (first_alone (ahead (seen_log x))))) c.apply_all.ensures.capacity c.count_digested.ensures.seen
