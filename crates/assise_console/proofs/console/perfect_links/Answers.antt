use Rattle.assise_console.proofs.Common.{rules, ◌≡◌, ◌<◌, ◌∙◌, ap, length, replicate, subst, MOST_NODES, perfect, kind_of_link}
use Rattle.assise_console.proofs.Links.{all_alike}
use Rattle.assise_console.proofs.console.perfect_links.Goals as goal

pub returns : goal.returns
returns c =
    let made = c.from_fn.ensures.items in
    let long : length c.from_fn.result ≡ MOST_NODES = search rules in
    all_alike kind_of_link perfect c.from_fn.result (λ k e few. let called = made.at k e (subst (λ n. k < n) long few) in search (rules, called))
    ∙ ap (λ n. replicate n perfect) long
