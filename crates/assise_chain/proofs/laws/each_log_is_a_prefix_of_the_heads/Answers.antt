use Rattle.assise_chain.proofs.StepsKeepPrefixes.{all_prefixes}
use Rattle.assise_chain.proofs.laws.each_log_is_a_prefix_of_the_heads.Goals as goal

pub returns : goal.returns
returns c full head epoch client steps old new begun done node a = all_prefixes full head epoch client steps old new begun done node a
