-- What a revoker of each kind answers.
use Rattle.std.specs.Prelude.{◌≡◌, ℕ}
use Rattle.assise_private_log.specs.NumberedLog.{NumberedLog, end}
use Rattle.assise_revokers.specs.Kinds.{IsEighths, IsLeast}
use Rattle.assise_files.specs.declared.cut_kind.CutKind.{CutKind}
use Rattle.assise_files.specs.declared.cut_kind.CutKind.TheVariants.{Eights, Least, Whole}

-- it is the cut of this log at this inode
abbrev pub IsCutOf : CutKind → NumberedLog → ℕ → ℕ → Type 0
IsCutOf Least log inode cut = IsLeast log inode cut
IsCutOf Whole log inode cut = cut ≡ end log
IsCutOf Eights log inode cut = IsEighths log inode cut
