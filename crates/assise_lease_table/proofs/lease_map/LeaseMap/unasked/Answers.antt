use Rattle.assise_lease_table.proofs.Common.{◌≡◌, ap, ◌∙◌, SmallVec, Lease, is_asked, are_once, are_uncut}
use Rattle.assise_lease_table.proofs.Shared.Unasked.{all_listed, once_in, unasked_in, uncut_in, which_in}
use Rattle.assise_lease_table.proofs.lease_map.LeaseMap.unasked.Given.{Over}
use Rattle.assise_lease_table.proofs.lease_map.LeaseMap.unasked.Goals as goal
use Rattle.assise_lease_table.proofs.lease_map.LeaseMap.unasked.Goals.{In-None}

-- all of them are listed
all : (g : Over) (c : In-None g)
    → c.loop-inode.asked.items ≡ unasked_in (λ (v : SmallVec Lease). v.items) (g.T.Chooses.choice c.args.test.now) c.args.self.now.inodes.entries
all g c =
    all_listed (λ (v : SmallVec Lease). v.items) (g.T.Chooses.choice c.args.test.now) c.loop-inode.asked.items c.args.self.now.inodes.entries
    c.loop-inode.inode-iterator c.in-None.ensures.steps.0 c.loop-inode.invariant

pub returns-clause-once : goal.returns-clause-once
returns-clause-once g c =
    ap are_once (all g (goal.at.returns-clause-once g c).In-None)
    ∙ once_in (λ (v : SmallVec Lease). v.items)
    (g.T.Chooses.choice c.args.test.now) c.args.self.now.inodes.entries c.iter-inode-items.ensures.unique c.requires.compatible

pub returns-clause-uncut : goal.returns-clause-uncut
returns-clause-uncut g c =
    ap are_uncut (all g (goal.at.returns-clause-uncut g c).In-None)
    ∙ uncut_in (λ (v : SmallVec Lease). v.items) (g.T.Chooses.choice c.args.test.now) c.args.self.now.inodes.entries

pub returns-clause-which : goal.returns-clause-which
returns-clause-which g c = λ d i.
    ap (λ xs. is_asked xs d i) (all g (goal.at.returns-clause-which g c).In-None)
    ∙ which_in (λ (v : SmallVec Lease). v.items) (g.T.Chooses.choice c.args.test.now) c.args.self.now.inodes.entries c.iter-inode-items.ensures.unique d i
