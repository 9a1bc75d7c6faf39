use Rattle.assise_digest.proofs.Common.{◌≡◌, ◌∙◌, ◌-◌, length, take, ap, sym, arith, length-map, take-map, without_last_client, seen_log, seen_logs}
use Rattle.assise_digest.proofs.RegionLogs.{region}
use Rattle.assise_digest.proofs.region.Region.remove_last_client.Goals as goal

pub returns : goal.returns
returns c =
    let m = c.self.inside.area.inodes in
    let hot = c.self.inside.area.capacity in
    let xs = c.self.inside.logs.items in
    let counted = length-map xs seen_log in
    let kept : c.saturating_sub-kept.result ≡ length (seen_logs xs) - 1 = omega (arith, c.saturating_sub-kept.ensures, c.len.ensures, counted) in
    ap (λ ys. region m hot ys) c.truncate.ensures.items
    ∙ ap (λ ls. record { inodes = m; logs = ls; capacity = hot })
    (sym (take-map seen_log c.saturating_sub-kept.result xs) ∙ ap (λ n. take n (seen_logs xs)) kept)
    ∙ ap without_last_client c.self.view_is
