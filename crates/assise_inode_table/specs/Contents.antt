-- What an inode holds.
-- POSIX.1-2017, base definitions, chapter 3: Regular File, Directory, Directory Entry (or Link), File Serial Number.
use Rattle.std.specs.Prelude.{◌≡◌, ℕ, List, Option, refl, ◌⊎◌}
use Rattle.std.proofs.Common.{inl, inr}
use Rattle.std.specs.Ordering.{nat_cmp}
use Rattle.std.specs.Cmp.Lexicographic.{slice_cmp}
use Rattle.std.specs.Coded.{Coded, code_by, coded⊎, coded_list, coded_ℕ}
use Rattle.std.specs.FinMap as map

-- the entries of a directory: from each name the number of the inode that it links to
abbrev pub Links : Type 0
Links = map.FinMap (slice_cmp nat_cmp) ℕ

-- a file with its bytes, or a directory with its links
pub data Content : Type 0 where
  regular : List ℕ → Content
  directory : Links → Content

-- a finite map of inodes by their numbers
abbrev pub InodeMap : Type 0
InodeMap = map.FinMap nat_cmp Content

-- what each inode holds, or that there is none of that number
abbrev pub Values : Type 0
Values = ℕ → Option Content

abbrev pub values : InodeMap → Values
values m i = map.get m i

-- ---- a content is stored as numbers and pairs, so it can be a model's value

abbrev pub parts_of : Content → List ℕ ⊎ Links
parts_of (regular bytes) = inl bytes
parts_of (directory links) = inr links

abbrev pub from_parts : List ℕ ⊎ Links → Content
from_parts (inl bytes) = regular bytes
from_parts (inr links) = directory links

pub from_parts-parts_of : (c : Content) → from_parts (parts_of c) ≡ c
from_parts-parts_of (regular bytes) = refl
from_parts-parts_of (directory links) = refl

abbrev pub coded_links : Coded Links
coded_links = map.code (coded_list coded_ℕ) coded_ℕ

abbrev pub coded_content : Coded Content
coded_content = code_by (List ℕ ⊎ Links) (coded⊎ (coded_list coded_ℕ) coded_links) parts_of from_parts from_parts-parts_of

abbrev pub coded_inodes : Coded InodeMap
coded_inodes = map.code coded_ℕ coded_content
