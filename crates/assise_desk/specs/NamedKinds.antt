-- What the numbers of a request name.
use Rattle.std.specs.Prelude.{ℕ, zero, suc, Option, None, Some}
use Rattle.assise_names.specs.declared.durability.Durability.{Durability}
use Rattle.assise_names.specs.declared.durability.Durability.TheVariants.{Pessimistic, Optimistic}
use Rattle.assise_link.specs.Kinds.{Kind, cut, delay, fault, lose, perfect, repeat}
use Rattle.assise_files.specs.declared.cut_kind.CutKind.{CutKind}
use Rattle.assise_files.specs.declared.cut_kind.CutKind.TheVariants.{Least, Whole, Eights}

-- the kind of revoker, if it is one
abbrev pub kind_named : ℕ → Option CutKind
kind_named zero = Some Least
kind_named (suc zero) = Some Whole
kind_named (suc (suc zero)) = Some Eights
kind_named (suc (suc (suc n))) = None

-- how fsyncs are served, if it is a way
abbrev pub durability_named : ℕ → Option Durability
durability_named zero = Some Pessimistic
durability_named (suc zero) = Some Optimistic
durability_named (suc (suc n)) = None

-- the kind of link, if it is one; a cutting link lets `most` bytes through
abbrev pub link_named : (number most : ℕ) → Option Kind
link_named zero most = Some perfect
link_named (suc zero) most = Some lose
link_named (suc (suc zero)) most = Some repeat
link_named (suc (suc (suc zero))) most = Some delay
link_named (suc (suc (suc (suc zero)))) most = Some (cut most)
link_named (suc (suc (suc (suc (suc zero))))) most = Some fault
link_named (suc (suc (suc (suc (suc (suc n)))))) most = None
