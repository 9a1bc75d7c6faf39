use Rattle.assise_lease_tree.proofs.Common.{sym, ◌∙◌, none_at, some_at, BothLevels}
use Rattle.assise_lease_tree.proofs.lease_levels.LeaseLevels.is_any_chosen.Goals as goal

pub returns-clause-none : goal.returns-clause-none
returns-clause-none g c none =
    none_at (λ (b : BothLevels). b.clients.items) (g.T.Chooses.choice c.args.test.now) c.args.self.now.inodes.entries (sym c.is_any_entry_chosen.ensures ∙ none)

pub returns-clause-some : goal.returns-clause-some
returns-clause-some g c some = some_at (λ (b : BothLevels). b.clients.items) (g.T.Chooses.choice c.args.test.now) c.args.self.now.inodes.entries
    c.args.self.now.unique (sym c.is_any_entry_chosen.ensures ∙ some)
