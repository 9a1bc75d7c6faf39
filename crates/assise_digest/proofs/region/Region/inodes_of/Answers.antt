use Rattle.assise_digest.proofs.Common.{◌∙◌, ap, subst, sym, all_effects, all_applied, ahead, log_of, StandsHere, seen_log}
use Rattle.assise_digest.proofs.RegionLogs.{here_sound, log_there}
use Rattle.assise_digest.proofs.RebuiltInodes.{stood_over}
use Rattle.assise_digest.proofs.region.Region.inodes_of.Goals as goal

pub returns : goal.returns
returns c =
    let m = c.self.inside.area.inodes in
    let xs = c.self.inside.logs.items in
    let r = c.args.self.now in
    let x = c.index.result.now in
    let here = here_sound m xs r c.args.client x c.self.invariant c.self.view_is c.requires.client c.index.ensures in
    c.new.ensures ∙ stood_over c.in-Some.pending m x.digested (ahead (seen_log x)) (subst (StandsHere m (seen_log x)) c.in-Some.is here.stands)
    ∙ ap (λ l. all_applied m (all_effects (ahead l))) (sym (log_there m xs r c.args.client x c.self.view_is c.requires.client c.index.ensures))
    ∙ ap (λ n. all_applied n (all_effects (ahead (log_of r c.args.client)))) (ap (λ s. s.inodes) c.self.view_is)
