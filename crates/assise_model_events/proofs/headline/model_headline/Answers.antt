use Rattle.assise_model_events.proofs.Common.{begun_as}
use Rattle.assise_model_events.proofs.Shared.Whatever.{all_told, handed_over_replicated, lasts, only_tails, reached_holds, remaining, safe}
use Rattle.assise_model_events.proofs.headline.model_headline.Goals as goal

pub returns-clause-legal : goal.returns-clause-legal
returns-clause-legal r = λ nodes limit hot es m some run. (reached_holds nodes limit hot es m some run).recorded.legal

pub returns-clause-entries : goal.returns-clause-entries
returns-clause-entries r = λ nodes limit hot es m run. all_told (begun_as nodes limit hot) m es run

pub returns-clause-extends : goal.returns-clause-extends
returns-clause-extends r = λ m m' es run. all_told m m' es run

pub returns-clause-only_tails : goal.returns-clause-only_tails
returns-clause-only_tails r = λ nodes limit hot es m some run. only_tails m (reached_holds nodes limit hot es m some run)

pub returns-clause-remaining : goal.returns-clause-remaining
returns-clause-remaining r = λ nodes limit hot es m some run. remaining m (reached_holds nodes limit hot es m some run)

pub returns-clause-alone : goal.returns-clause-alone
returns-clause-alone r = λ nodes limit hot es m some run n full. (safe m (reached_holds nodes limit hot es m some run)).rebuilt n full

pub returns-clause-synced : goal.returns-clause-synced
returns-clause-synced r = λ nodes limit hot es m some run before later x split is. (safe m (reached_holds nodes limit hot es m some run)).synced before later x
    split is

pub returns-clause-handed_over : goal.returns-clause-handed_over
returns-clause-handed_over r = λ nodes limit hot es m some run c i away. handed_over_replicated m (reached_holds nodes limit hot es m some run) c i away

pub returns-clause-lasting : goal.returns-clause-lasting
returns-clause-lasting r = λ nodes limit hot es fs m m' some run more. lasts m m' fs (reached_holds nodes limit hot es m some run) more
