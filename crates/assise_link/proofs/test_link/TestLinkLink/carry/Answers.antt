use Rattle.assise_link.proofs.test_link.TestLinkLink.carry.Goals as goal

pub returns-in-Repeat-clause-stores : goal.returns-in-Repeat-clause-stores
returns-in-Repeat-clause-stores c = rw c.in-Repeat.is c.carry-in-Repeat.ensures.stores

pub returns-in-Delay-clause-stores : goal.returns-in-Delay-clause-stores
returns-in-Delay-clause-stores c = rw c.in-Delay.is c.carry-in-Delay.ensures.stores
