use Rattle.assise_desk.proofs.Common.{◌∙◌, refl, ap, sym, option_map, shows_listed}
use Rattle.assise_desk.proofs.listings.show_listed.Goals as goal

pub returns-in-Some : goal.returns-in-Some
returns-in-Some c =
    shows_listed c.in-Some.names.now (sym c.names_at.ensures ∙ ap (option_map (λ names. names.now)) c.in-Some.is) record {
      count = c.place_page.result;
      result_is = refl;
      page = c.place_page.ensures.page;
      progress = c.place_page.ensures.progress;
      all = refl;
    }
