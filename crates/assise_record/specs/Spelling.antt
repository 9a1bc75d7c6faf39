-- Which bytes spell a frame. All numbers stand with their highest byte first (RFC 791, appendix B: Data Transmission
-- Order); a list of bytes is a list of numbers below 256. The layout is this crate's own.
use Rattle.std.specs.Prelude.{◌≡◌, ℕ, ◌^◌, ◌<◌, ◌≤◌, Bool, true, false, IsTrue, List, [], ◌∷◌, ◌++◌, length, take, Option, Some, None}
use Rattle.std.specs.List.{flat_map, AllByRecursion}
use Rattle.byteorder.specs.Endian.{big_bytes}
use Rattle.assise_names.specs.Name.{is_name}
use Rattle.assise_record.specs.Patch.{Patch, IsPatch}
use Rattle.assise_record.specs.LogRecord.{LogRecord}
use Rattle.assise_record.specs.LogFrame.{LogFrame, HasRanges}
use Rattle.assise_record.specs.declared.effect.Effect.{Effect}
use Rattle.assise_record.specs.declared.effect.Effect.TheVariants.{NewFile, NewDir, Write, SetLen, Link, Unlink, Free}

-- ---- what has a spelling

abbrev pub IsEffect : Effect → Type 0
IsEffect (NewFile inode) = inode < 2 ^ 64
IsEffect (NewDir inode) = inode < 2 ^ 64
IsEffect (Write inode patch) = (inode < 2 ^ 64) × IsPatch patch
IsEffect (SetLen inode size) = (inode < 2 ^ 64) × (size ≤ 1048576)
IsEffect (Link directory name inode) = (directory < 2 ^ 64) × IsTrue (is_name name) × (inode < 2 ^ 64)
IsEffect (Unlink directory name) = (directory < 2 ^ 64) × IsTrue (is_name name)
IsEffect (Free inode) = inode < 2 ^ 64

-- 1 to 4 effects
pub record IsLogRecord (r : LogRecord) : Type 0 where
  pub call : r.call < 2 ^ 64
  pub some : 0 < length r.effects
  pub few : length r.effects ≤ 4
  pub effects : AllByRecursion IsEffect r.effects

-- lawful numbers, marks and records
pub record IsLogFrame (f : LogFrame) : Type 0 where
  pub ranges : HasRanges f
  pub records : AllByRecursion IsLogRecord f.records

-- ---- effects: a tag, and the fields behind it

abbrev pub tag_of : Effect → ℕ
tag_of (NewFile inode) = 1
tag_of (NewDir inode) = 2
tag_of (Write inode patch) = 3
tag_of (SetLen inode size) = 4
tag_of (Link directory name inode) = 5
tag_of (Unlink directory name) = 6
tag_of (Free inode) = 7

-- where the bytes go, how many they are, and the bytes
abbrev pub patch_spelling : Patch → List ℕ
patch_spelling p = big_bytes 4 p.offset ++ (big_bytes 4 (length p.bytes) ++ p.bytes)

-- the name behind its length
abbrev pub name_spelling : List ℕ → List ℕ
name_spelling name = length name ∷ name

abbrev pub fields_of : Effect → List ℕ
fields_of (NewFile inode) = big_bytes 8 inode
fields_of (NewDir inode) = big_bytes 8 inode
fields_of (Write inode patch) = big_bytes 8 inode ++ patch_spelling patch
fields_of (SetLen inode size) = big_bytes 8 inode ++ big_bytes 4 size
fields_of (Link directory name inode) = big_bytes 8 directory ++ (name_spelling name ++ big_bytes 8 inode)
fields_of (Unlink directory name) = big_bytes 8 directory ++ name_spelling name
fields_of (Free inode) = big_bytes 8 inode

abbrev pub effect_spelling : Effect → List ℕ
effect_spelling effect = tag_of effect ∷ fields_of effect

-- ---- records: the call, the mark in versions that have marks, the count of the effects, and the effects

abbrev pub mark_spelling : Option Bool → List ℕ
mark_spelling None = []
mark_spelling (Some false) = 0 ∷ []
mark_spelling (Some true) = 1 ∷ []

abbrev pub record_spelling : Option Bool → LogRecord → List ℕ
record_spelling mark r = big_bytes 8 r.call ++ (mark_spelling mark ++ (length r.effects ∷ flat_map effect_spelling r.effects))

-- ---- frames: the bytes `AS`, the version, the header's numbers, how many bytes the records have, and the records

-- records with their marks, as far as there are marks
abbrev pub body_of : List LogRecord → List Bool → List ℕ
body_of [] last = []
body_of (r ∷ rs) [] = record_spelling None r ++ body_of rs []
body_of (r ∷ rs) (mark ∷ last) = record_spelling (Some mark) r ++ body_of rs last

abbrev pub header_of : LogFrame → ℕ → List ℕ
header_of f size = big_bytes 8 f.epoch ++ (big_bytes 4 f.client ++ (big_bytes 8 f.first ++ (big_bytes 2 (length f.records) ++ big_bytes 4 size)))

abbrev pub spelling : LogFrame → List ℕ
spelling f = 65 ∷ 83 ∷ f.version ∷ (header_of f (length (body_of f.records f.last)) ++ body_of f.records f.last)

-- the bytes are the spelling of this frame, whose version is no newer than the newest
pub record SpellsFrame (newest : ℕ) (text : List ℕ) (f : LogFrame) : Type 0 where
  pub lawful : IsLogFrame f
  pub version : f.version ≤ newest
  pub spelled : text ≡ spelling f

-- the first n bytes spell this frame
pub record BeginsWith (newest : ℕ) (bytes : List ℕ) (f : LogFrame) (n : ℕ) : Type 0 where
  pub inside : n ≤ length bytes
  pub prefix : SpellsFrame newest (take n bytes) f
