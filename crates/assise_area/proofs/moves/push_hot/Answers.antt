use Rattle.assise_area.proofs.Common.{Some, ap, sym, ◌∙◌}
use Rattle.assise_area.proofs.ColdToHot.{put_new}
use Rattle.assise_area.proofs.moves.push_hot.Goals as goal

pub returns-in-Ok-clause-pushed : goal.returns-in-Ok-clause-pushed
returns-in-Ok-clause-pushed c = record {
  content = c.replace-content.result;
  there = sym c.in-Some.ensures.value ∙ ap Some (sym c.replace-content.ensures.value);
  entries = ap (λ l. l.entries) c.in-Ok.ensures.entries ∙ put_new c.args.hot.now.entries c.args.inode c.args.hot.now.cap c.replace-content.result
      c.requires.absent;
  cap = ap (λ l. l.cap) c.in-Ok.ensures.entries;
}
