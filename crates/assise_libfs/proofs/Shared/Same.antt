-- A client stays the same over several turns.
use Rattle.assise_libfs.proofs.Common.{◌∙◌, IsSameClient}
use Rattle.assise_libfs.specs.declared.libfs.LibFs.{LibFs}

module _ {S : Type 0} where
  pub same-then : (a b d : LibFs S) → IsSameClient a b → IsSameClient b d → IsSameClient a d
  same-then a b d s t = record
      { client = t.client ∙ s.client; node = t.node ∙ s.node; keeper = t.keeper ∙ s.keeper; limit = t.limit ∙ s.limit; right = t.right ∙ s.right }
