use Rattle.assise_files.proofs.Common.{rules, ◌≡◌, ◌<◌, ◌∙◌, ap, length, replicate, subst, MOST_NODES, kind_of_link}
use Rattle.assise_link.specs.Kinds.{perfect}
use Rattle.assise_files.proofs.Links.{all_alike}
use Rattle.assise_files.proofs.files.Files.new.Goals as goal

pub returns-clause-links : goal.returns-clause-links
returns-clause-links c =
    let made = c.from_fn.ensures.items in
    let long : length c.from_fn.result ≡ MOST_NODES = search rules in
    all_alike kind_of_link perfect c.from_fn.result (λ k e few. let called = made.at k e (subst (λ n. k < n) long few) in search (rules, called))
    ∙ ap (λ n. replicate n perfect) long
