use Rattle.assise_manager.proofs.Common.{◌∙◌, ap}
use Rattle.std.specs.FinSet as set
use Rattle.assise_manager.proofs.Shared.Sets.{union_empty}
use Rattle.assise_manager.proofs.written_list.WrittenList.of.Goals as goal

pub returns : goal.returns
returns c = record {
  inodes = c.insert_reserved.ensures ∙ ap (λ s. set.union s (set.from_list c.args.inodes.now)) (c.reserve.ensures.same ∙ c.new-list.ensures)
      ∙ union_empty _;
}
