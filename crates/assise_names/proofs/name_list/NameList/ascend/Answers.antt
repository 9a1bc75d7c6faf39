use Rattle.assise_names.proofs.Common.{arith, refl}
use Rattle.assise_names.proofs.AscendingNames.{all_ascend, falls}
use Rattle.assise_names.proofs.name_list.NameList.ascend.Goals as goal

pub returns-then-ge : goal.returns-then-ge
returns-then-ge c = (
  λ ascends. cc,
  λ sorted. absurd (falls c.args.names.now c.loop-i.i c.index-names-i.result c.index-names-i-in-loop-i.result (omega arith) c.loop-i-test.true
      c.index-names-i.is c.index-names-i-in-loop-i.is c.if-ge.ensures sorted),
)

pub returns : goal.returns
returns c = (λ ascends. all_ascend c.args.names.now c.loop-i.i (omega arith) c.loop-i.invariant, λ sorted. refl)
