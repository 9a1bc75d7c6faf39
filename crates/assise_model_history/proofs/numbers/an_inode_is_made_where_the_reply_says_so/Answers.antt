use Rattle.assise_model_history.proofs.Shared.InodeMakers.{makes_where_done}
use Rattle.assise_model_history.proofs.numbers.an_inode_is_made_where_the_reply_says_so.Goals as goal

pub returns : goal.returns
returns c = makes_where_done
