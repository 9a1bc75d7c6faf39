use Rattle.assise_lease_table.proofs.Common.{sym, ◌∙◌, SmallVec, Lease}
use Rattle.assise_lease_table.proofs.Shared.Retained.{none_at, some_at}
use Rattle.assise_lease_table.proofs.lease_map.LeaseMap.is_any_chosen.Goals as goal

pub returns-clause-none : goal.returns-clause-none
returns-clause-none g c none =
    none_at (λ (v : SmallVec Lease). v.items) (g.T.Chooses.choice c.args.test.now) c.args.self.now.inodes.entries (sym c.is_any_list_chosen.ensures ∙ none)

pub returns-clause-some : goal.returns-clause-some
returns-clause-some g c some = some_at (λ (v : SmallVec Lease). v.items) (g.T.Chooses.choice c.args.test.now) c.args.self.now.inodes.entries
    c.args.self.now.unique (sym c.is_any_list_chosen.ensures ∙ some)
