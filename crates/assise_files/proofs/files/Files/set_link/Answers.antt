use Rattle.assise_files.proofs.Common.{rules, ◌≡◌, ◌-◌, ◌<◌, length, subst, sym, MOST_NODES, kind_of_link}
use Rattle.assise_files.proofs.Links.{below_most, map_set}
use Rattle.assise_files.proofs.files.Files.set_link.Goals as goal

pub listed : goal.listed
listed c =
    let most : length c.args.self.now.links ≡ MOST_NODES = search rules in
    subst (λ n. c.args.node - 1 < n) (sym most) (below_most c.args.self.now.cluster c.args.node c.in_ok-phase.field-0 c.in_ok-phase.ensures.phase)

pub way_replace-drop : goal.way_replace-drop
way_replace-drop c = below_most c.args.self.now.cluster c.args.node c.in_ok-phase.field-0 c.in_ok-phase.ensures.phase

pub returns-clause-set : goal.returns-clause-set
returns-clause-set c = map_set kind_of_link c.args.self.now.links (c.args.node - 1) c.args.link
