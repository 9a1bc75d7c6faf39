use Rattle.assise_seq_tree.proofs.Placed.{path_is_placed, place_stands, places_ascend}
use Rattle.assise_seq_tree.proofs.laws.each_path_is_printed.Goals as goal

pub returns-clause-stands : goal.returns-clause-stands
returns-clause-stands c = place_stands

pub returns-clause-printed : goal.returns-clause-printed
returns-clause-printed c = path_is_placed

pub returns-clause-ascends : goal.returns-clause-ascends
returns-clause-ascends c = places_ascend
