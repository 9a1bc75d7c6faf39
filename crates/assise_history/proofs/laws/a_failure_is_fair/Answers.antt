use Rattle.assise_history.proofs.Common.{◌++◌, ◌∷◌, refl, fails, IsFair, MayLose}
use Rattle.assise_history.proofs.Shared.OneMore.{follows_in}
use Rattle.assise_history.proofs.laws.a_failure_is_fair.Goals as goal

pub returns-clause-ascending : goal.returns-clause-ascending
returns-clause-ascending c =
    λ h before later n losses legal split. let fair : IsFair before n losses = follows_in h before later (fails n losses) legal split in fair.ascending

pub returns-clause-on : goal.returns-clause-on
returns-clause-on c = λ h before later n lower higher l legal split.
    let fair : IsFair before n (lower ++ l ∷ higher) = follows_in h before later (fails n (lower ++ l ∷ higher)) legal split in
    let pair : MayLose before n l = fair.each lower higher l refl in
    pair.on

pub returns-clause-past : goal.returns-clause-past
returns-clause-past c = λ h before later n lower higher l legal split.
    let fair : IsFair before n (lower ++ l ∷ higher) = follows_in h before later (fails n (lower ++ l ∷ higher)) legal split in
    let pair : MayLose before n l = fair.each lower higher l refl in
    pair.past
