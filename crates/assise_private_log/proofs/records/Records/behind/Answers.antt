use Rattle.assise_private_log.proofs.Common.{rules}
use Rattle.assise_private_log.proofs.Prefixes.{drop_of_two}
use Rattle.assise_private_log.proofs.records.Records.behind.Goals as goal

pub returns : goal.returns
returns c = search (rules, drop_of_two c.args.passed c.args.older.now c.args.newer.now)
