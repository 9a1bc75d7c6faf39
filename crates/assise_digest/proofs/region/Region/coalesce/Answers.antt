use Rattle.assise_digest.proofs.Common.{◌≡◌, ap, subst, sym, ◌∙◌, ok_map, AllHaveEffects, IsNumberedLog, records_from, IsBegun, log_of, read_by, regrouped_from}
use Rattle.assise_digest.proofs.Common.{seen_log}
use Rattle.assise_digest.proofs.RegionLogs.{changed_sound, changed_there, here_sound, log_there}
use Rattle.assise_digest.proofs.RegroupedLogs.{coalesced_read}
use Rattle.assise_digest.proofs.region.Region.coalesce.Goals as goal
use Rattle.assise_digest.proofs.region.Region.coalesce.Goals.{After-coalesce}

pub coalesce-requires-clause-sound : goal.coalesce-requires-clause-sound
coalesce-requires-clause-sound c =
    let m = c.self.inside.area.inodes in
    (m, here_sound m c.self.inside.logs.items c.args.self.now c.args.client _ c.self.invariant c.self.view_is c.requires.client c.index_mut.ensures.value)

pub invariant_of-self : goal.invariant_of-self
invariant_of-self c = changed_sound c.self.inside.area.inodes _ _ c.args.client _ _ c.self.invariant c.self.view_is c.requires.client
    c.index_mut.ensures.value (c.coalesce.ensures.sound c.self.inside.area.inodes)

pub returns-clause-ok : goal.returns-clause-ok
returns-clause-ok c =
    ok_map c.coalesce.result c.coalesce.ensures.seen (λ step.
    changed_there (λ l. regrouped_from l c.args.from) c.self.inside.area.inodes _ _ c.args.client _ _ c.self.view_is c.requires.client
    c.index_mut.ensures.value step)

there : (c : After-coalesce) → log_of c.args.self.now c.args.client ≡ seen_log c.index_mut.result.now
there c =
    log_there c.self.inside.area.inodes c.self.inside.logs.items c.args.self.now c.args.client _ c.self.view_is c.requires.client c.index_mut.ensures.value

pub returns-clause-read : goal.returns-clause-read
returns-clause-read c =
    let m = c.self.inside.area.inodes in
    let xs = c.self.inside.logs.items in
    let r = c.args.self.now in
    let x = c.index_mut.result.now in
    let here = here_sound m xs r c.args.client x c.self.invariant c.self.view_is c.requires.client c.index_mut.ensures.value in
    let begun : IsBegun (log_of r c.args.client) = subst IsBegun (sym (there (goal.at.returns-clause-read c).After-coalesce)) here.begun in
    ok_map c.coalesce.result c.coalesce.ensures.seen (λ step i.
    ap (λ s. read_by s c.args.client i)
    (changed_there (λ l. regrouped_from l c.args.from) m xs r c.args.client x c.coalesce.new.self c.self.view_is c.requires.client c.index_mut.ensures.value
    step)
    ∙ coalesced_read r c.args.client c.args.from c.requires.client begun c.requires.digested c.requires.to_end i)

pub returns-clause-effects : goal.returns-clause-effects
returns-clause-effects c =
    ok_map c.coalesce.result c.coalesce.ensures.effects
    (subst (λ l. AllHaveEffects (records_from l.log c.args.from)) (sym (there (goal.at.returns-clause-effects c).After-coalesce)))

pub returns-clause-lawful : goal.returns-clause-lawful
returns-clause-lawful c = subst (λ l. IsNumberedLog l.log) (sym (there (goal.at.returns-clause-lawful c).After-coalesce)) c.coalesce.ensures.lawful
