use Rattle.assise_area.proofs.Common.{◌≡◌, [], drop, ◌∙◌, keys_of, regular}
use Rattle.assise_area.proofs.Cooled.{beyond_absent, beyond_placed, cooled}
use Rattle.assise_area.proofs.cooling.cool.Goals as goal
use Rattle.assise_area.proofs.cooling.cool.Goals.{After-as_slice}

leaving : (c : After-as_slice) → c.as_slice.result.now ≡ keys_of (drop c.args.most c.args.hot.now.entries)
leaving c = c.as_slice.ensures.value ∙ c.in_ok-leaving.ensures

pub make_places-requires : goal.make_places-requires
make_places-requires c =
    let are = leaving (goal.at.make_places-requires c).After-as_slice in
    record { absent = λ q. beyond_absent c.args.most c.args.hot.now.entries q c.args.cold.now.entries c.as_slice.result.now c.requires.disjoint are }

pub move_beyond-requires : goal.move_beyond-requires
move_beyond-requires c =
    let are = leaving (goal.at.move_beyond-requires c).After-as_slice in
    record {
      places = λ q. beyond_placed c.args.most c.args.hot.now.entries q c.args.cold.now.entries c.make_places.new.cold.entries c.as_slice.result.now
          (regular []) are c.in_ok-make_places.ensures.ok;
    }

pub returns-clause-ok : goal.returns-clause-ok
returns-clause-ok c =
    cooled c.args.most c.args.hot.now c.move_beyond.new.hot c.args.cold.now.entries c.make_places.new.cold.entries c.move_beyond.new.cold.entries
    c.as_slice.result.now (regular []) c.len.ensures.valid.0 c.requires.disjoint (leaving (goal.at.returns-clause-ok c).After-as_slice)
    c.in_ok-make_places.ensures.ok c.move_beyond.ensures.left c.move_beyond.ensures.moved
