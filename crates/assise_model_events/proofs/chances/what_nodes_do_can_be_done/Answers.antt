use Rattle.assise_model_events.proofs.Common.{refl, with_hot}
use Rattle.assise_model_events.specs.NodeEvents.SettingHot.{is_set}
use Rattle.assise_model_events.proofs.Shared.Digestible.{digested_can}
use Rattle.assise_model_events.proofs.Doable.{delivered_can}
use Rattle.assise_model_events.proofs.Freeable.{released_can}
use Rattle.assise_model_events.proofs.chances.what_nodes_do_can_be_done.Goals as goal

pub returns-clause-delivered : goal.returns-clause-delivered
returns-clause-delivered r = λ m f n h fine timely. delivered_can m f n h fine timely

pub returns-clause-digested : goal.returns-clause-digested
returns-clause-digested r = λ m n count h fine few some borders. digested_can m n count h fine few some borders

pub returns-clause-released : goal.returns-clause-released
returns-clause-released r = λ m most h few. released_can m most h few

pub returns-clause-hot : goal.returns-clause-hot
returns-clause-hot r = λ m n capacity fine. (with_hot m n capacity, is_set fine refl refl)
