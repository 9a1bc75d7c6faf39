use Rattle.assise_area.proofs.Common.{Some, nat_eq, sym, is_there, keys-set_value}
use Rattle.assise_area.proofs.WrittenValues.{disjoint_set, disjoint_write, set_hot}
use Rattle.assise_area.proofs.settled.put_reserved.Goals as goal

pub returns-in_default-clause-disjoint : goal.returns-in_default-clause-disjoint
returns-in_default-clause-disjoint c =
    disjoint_write c.args.hot.now.entries c.args.cold.now.entries c.insert.new.self.entries c.args.inode (Some c.args.content) (sym c.in_default.ensures.value)
    c.in-Ok.ensures.updates.0 c.requires.disjoint

pub returns-clause-values : goal.returns-clause-values
returns-clause-values c = set_hot c.args.hot.now.entries c.args.cold.now.entries c.args.inode c.args.content
    (is_there c.in-Some.held.now _ c.in-Some.ensures.value)

pub returns-clause-keys : goal.returns-clause-keys
returns-clause-keys c = keys-set_value (nat_eq c.args.inode) c.args.hot.now.entries c.args.content

pub returns-clause-disjoint : goal.returns-clause-disjoint
returns-clause-disjoint c = disjoint_set c.args.hot.now.entries c.args.cold.now.entries c.args.inode c.args.content
    (is_there c.in-Some.held.now _ c.in-Some.ensures.value) c.requires.disjoint
