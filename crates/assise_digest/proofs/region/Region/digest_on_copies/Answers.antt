use Rattle.assise_digest.proofs.Common.{◌≡◌, take, ◌∙◌, ap, sym, subst, all_applied, all_effects, ahead, LogInvariant, seen_log}
use Rattle.assise_digest.proofs.Grouped.{digested_sound_all, digested_view_all}
use Rattle.assise_digest.proofs.RegionLogs.{here_sound, in_place, same_item}
use Rattle.assise_digest.proofs.region.Region.digest_on_copies.Goals as goal
use Rattle.assise_digest.proofs.region.Region.digest_on_copies.Goals.{After-count_all_digested}

-- what the effects make of the area
applied : (c : After-count_all_digested) → c.apply_all_on_copies.new.store.inodes
    ≡ all_applied c.self.inside.area.inodes (all_effects (take c.args.count (ahead (seen_log c.index_mut.result.now))))
applied c =
    let within = in_place c.self.inside.area.inodes c.self.inside.logs.items c.args.self.now c.args.client c.self.view_is c.requires.client in
    let same = same_item c.self.inside.logs.items _ c.index.result.now c.index_mut.result.now within c.index.ensures c.index_mut.ensures.value in
    c.in_ok-apply_all_on_copies.ensures.ok
    ∙ ap (all_applied c.self.inside.area.inodes)
    (c.deref.ensures.value ∙ c.in_ok-effects.ensures.effects ∙ ap (λ z. all_effects (take c.args.count (ahead (seen_log z)))) same)

pub invariant_of-self-2 : goal.invariant_of-self-2
invariant_of-self-2 c =
    let m = c.self.inside.area.inodes in
    let xs = c.self.inside.logs.items in
    let x = c.index_mut.result.now in
    let is = applied (goal.at.invariant_of-self-2 c).After-count_all_digested in
    let here = here_sound m xs c.args.self.now c.args.client x c.self.invariant c.self.view_is c.requires.client c.index_mut.ensures.value in
    digested_sound_all m c.apply_all_on_copies.new.store.inodes xs c.args.self.now c.args.client c.args.count x c.count_all_digested.new.self
    c.self.view_is c.requires.client c.requires.disjoint c.self.invariant c.index_mut.ensures.value is
    (subst (λ w. LogInvariant w c.count_all_digested.new.self) (sym is) (c.count_all_digested.ensures.sound m here))

pub returns-clause-ok : goal.returns-clause-ok
returns-clause-ok c =
    digested_view_all c.self.inside.area.inodes c.apply_all_on_copies.new.store.inodes c.apply_all_on_copies.new.store.capacity c.self.inside.logs.items
    c.args.self.now c.args.client c.args.count c.index_mut.result.now c.count_all_digested.new.self c.self.view_is c.requires.client c.index_mut.ensures.value
    (applied (goal.at.returns-clause-ok c).After-count_all_digested) c.apply_all_on_copies.ensures.setting c.count_all_digested.ensures.seen
