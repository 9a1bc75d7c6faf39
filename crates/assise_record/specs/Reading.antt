-- The first fault of bytes. Fields are read from left to right, each behind the one before it: a reading is a value
-- and the bytes behind it, or the fault that was found first. Which bytes are frames is said apart from this, in
-- `Spelling`; that both agree are laws of the crate.
use Rattle.std.specs.Prelude.{◌≡◌, ◌<◌, ◌≤◌, ℕ, ◌+◌, ◌-◌, zero, suc, Bool, true, false, nat_lt, nat_le, ◌==◌, ◌&&◌, ◌||◌, if◌then◌else◌, List, [], ◌∷◌, ◌++◌, get_or, length, take, drop}
use Rattle.std.specs.Prelude.{Option, Some, None, Result, Ok, Err}
use Rattle.std.specs.Option.{option_to_list}
use Rattle.byteorder.specs.Endian.{big_number}
use Rattle.assise_names.specs.Name.{is_name}
use Rattle.assise_record.specs.Patch.{Patch}
use Rattle.assise_record.specs.LogRecord.{LogRecord}
use Rattle.assise_record.specs.LogFrame.{LogFrame, is_marked}
use Rattle.assise_record.specs.Header.{Header}
use Rattle.assise_record.specs.declared.effect.Effect.{Effect}
use Rattle.assise_record.specs.declared.effect.Effect.TheVariants.{NewFile, NewDir, Write, SetLen, Link, Unlink, Free}
use Rattle.assise_record.specs.declared.fault.FrameFault.{FrameFault}
use Rattle.assise_record.specs.declared.fault.FrameFault.TheVariants.{Short, BadMagic, BadVersion, BadTag, BadLength, BadValue, Memory}

infixl 10 ◌>>=◌
abbrev pub ◌>>=◌ : {A B : Type 0} → Result A FrameFault → (A → Result B FrameFault) → Result B FrameFault
(Ok x) >>= f = f x
(Err fault) >>= f = Err fault

abbrev pub guard : Bool → FrameFault → Result (Unit {0}) FrameFault
guard holds fault = if holds then Ok tt else Err fault

-- a list of bytes
abbrev pub AreBytes : List ℕ → Type 0
AreBytes bytes = (i : ℕ) → get_or bytes i 0 < 256

-- ---- fields: where the bytes end first, the fault is the one that is handed in

abbrev pub Read : Type 0 → Type 0
Read A = Result (A × List ℕ) FrameFault

abbrev pub byte_at : FrameFault → List ℕ → Read ℕ
byte_at fault [] = Err fault
byte_at fault (b ∷ rest) = Ok (b, rest)

-- `n` bytes
abbrev pub bytes_at : ℕ → FrameFault → List ℕ → Read (List ℕ)
bytes_at n fault bytes = if nat_lt (length bytes) n then Err fault else Ok (take n bytes, drop n bytes)

-- a number of `n` bytes, the highest first
abbrev pub number_at : ℕ → FrameFault → List ℕ → Read ℕ
number_at n fault bytes = if nat_lt (length bytes) n then Err fault else Ok (big_number n (take n bytes), drop n bytes)

-- a number of readings, one behind the other
unfoldable pub many_at : {A : Type 0} → (List ℕ → Read A) → ℕ → List ℕ → Read (List A)
many_at read zero bytes = Ok ([], bytes)
many_at read (suc n) bytes = do
  first ← read bytes
  others ← many_at read n first.1
  Ok (first.0 ∷ others.0, others.1)

-- ---- effects

abbrev pub is_extent : ℕ → ℕ → Bool
is_extent offset size = nat_lt 0 size && (nat_le size 65536 && nat_le (offset + size) 1048576)

unfoldable pub extent_at : List ℕ → Read Patch
extent_at bytes = do
  offset ← number_at 4 BadLength bytes
  size ← number_at 4 BadLength offset.1
  _ ← guard (is_extent offset.0 size.0) BadValue
  payload ← bytes_at size.0 BadLength size.1
  Ok (record { offset = offset.0; bytes = payload.0 }, payload.1)

unfoldable pub read_size : List ℕ → Read ℕ
read_size bytes = do
  size ← number_at 4 BadLength bytes
  _ ← guard (nat_le size.0 1048576) BadValue
  Ok size

abbrev pub name_in : List ℕ → Result (List ℕ) FrameFault
name_in bytes = if is_name bytes then Ok bytes else Err BadValue

unfoldable pub name_at : List ℕ → Read (List ℕ)
name_at bytes = do
  size ← byte_at BadLength bytes
  _ ← guard (nat_lt 0 size.0) BadValue
  text ← bytes_at size.0 BadLength size.1
  name ← name_in text.0
  Ok (name, text.1)

-- an effect of an inode alone
abbrev pub inode_at : (ℕ → Effect) → List ℕ → Read Effect
inode_at make bytes = do
  inode ← number_at 8 BadLength bytes
  Ok (make inode.0, inode.1)

-- an effect of an inode and of what is read behind it
abbrev pub inode_then_at : {A : Type 0} → (ℕ → A → Effect) → (List ℕ → Read A) → List ℕ → Read Effect
inode_then_at make read bytes = do
  inode ← number_at 8 BadLength bytes
  field ← read inode.1
  Ok (make inode.0 field.0, field.1)

unfoldable pub new_file_at : List ℕ → Read Effect
new_file_at bytes = inode_at NewFile bytes

unfoldable pub new_dir_at : List ℕ → Read Effect
new_dir_at bytes = inode_at NewDir bytes

unfoldable pub write_at : List ℕ → Read Effect
write_at bytes = inode_then_at Write extent_at bytes

unfoldable pub set_len_at : List ℕ → Read Effect
set_len_at bytes = inode_then_at SetLen read_size bytes

unfoldable pub link_at : List ℕ → Read Effect
link_at bytes = do
  directory ← number_at 8 BadLength bytes
  name ← name_at directory.1
  inode ← number_at 8 BadLength name.1
  Ok (Link directory.0 name.0 inode.0, inode.1)

unfoldable pub unlink_at : List ℕ → Read Effect
unlink_at bytes = inode_then_at Unlink name_at bytes

unfoldable pub free_at : List ℕ → Read Effect
free_at bytes = inode_at Free bytes

-- what stands behind a tag
unfoldable pub fields_at : ℕ → List ℕ → Read Effect
fields_at tag bytes =
    if tag == 1 then new_file_at bytes
    else (if tag == 2 then new_dir_at bytes
    else (if tag == 3 then write_at bytes
    else (if tag == 4 then set_len_at bytes
    else (if tag == 5 then link_at bytes
    else (if tag == 6 then unlink_at bytes
    else (if tag == 7 then free_at bytes
    else Err BadTag))))))

unfoldable pub effect_at : List ℕ → Read Effect
effect_at bytes = do
  tag ← byte_at BadLength bytes
  fields_at tag.0 tag.1

-- ---- records

-- 1 ends a group and 0 doesn't; the last record of a frame, behind which none is left, ends one
abbrev pub is_mark : ℕ → ℕ → Bool
is_mark left mark = mark == 1 || (mark == 0 && nat_lt 0 left)

-- the mark of a record with `left` records behind it, in versions that have marks
unfoldable pub mark_at : Bool → ℕ → List ℕ → Read (Option Bool)
mark_at false left bytes = Ok (None, bytes)
mark_at true left bytes = do
  mark ← byte_at BadLength bytes
  _ ← guard (is_mark left mark.0) BadValue
  Ok (Some (mark.0 == 1), mark.1)

-- the effects of a record of which the call, the mark and the count were read
abbrev pub effects_of_record : ℕ → Option Bool → ℕ → List ℕ → Read (LogRecord × Option Bool)
effects_of_record call mark count bytes = do
  effects ← many_at effect_at count bytes
  Ok ((record { call = call; effects = effects.0 }, mark), effects.1)

unfoldable pub read_record : Bool → ℕ → List ℕ → Read (LogRecord × Option Bool)
read_record marked left bytes = do
  call ← number_at 8 BadLength bytes
  mark ← mark_at marked left call.1
  count ← byte_at BadLength mark.1
  _ ← guard (nat_lt 0 count.0 && nat_le count.0 4) BadValue
  effects_of_record call.0 mark.0 count.0 count.1

-- a number of records, and their marks
unfoldable pub records_at : Bool → ℕ → List ℕ → Read (List LogRecord × List Bool)
records_at marked zero bytes = Ok (([], []), bytes)
records_at marked (suc left) bytes = do
  first ← read_record marked left bytes
  others ← records_at marked left first.1
  Ok ((first.0.0 ∷ others.0.0, option_to_list first.0.1 ++ others.0.1), others.1)

-- `count` records, and nothing behind them
unfoldable pub body_at : Bool → ℕ → List ℕ → Result (List LogRecord × List Bool) FrameFault
body_at marked count body = do
  records ← records_at marked count body
  _ ← guard (length records.1 == 0) BadLength
  Ok records.0

-- ---- the header

-- a version from 1 up to the newest
abbrev pub is_version : ℕ → ℕ → Bool
is_version newest version = nat_le 1 version && nat_le version newest

pub record IsVersion (newest version : ℕ) : Type 0 where
  pub some : 1 ≤ version
  pub known : version ≤ newest

-- the bytes `AS`, and the version
unfoldable pub version_at : ℕ → List ℕ → Read ℕ
version_at newest bytes = do
  a ← byte_at Short bytes
  _ ← guard (a.0 == 65) BadMagic
  s ← byte_at Short a.1
  _ ← guard (s.0 == 83) BadMagic
  version ← byte_at Short s.1
  _ ← guard (is_version newest version.0) BadVersion
  Ok version

-- 1 to 64 records, and the number behind the last fits 64 bits
abbrev pub has_count : ℕ → ℕ → Bool
has_count first count = nat_lt 0 count && (nat_le count 64 && nat_le (first + count) 18446744073709551615)

pub record HasCount (first count : ℕ) : Type 0 where
  pub some : 0 < count
  pub few : count ≤ 64
  pub numbers : first + count ≤ 18446744073709551615

-- the first number, and the count of records
unfoldable pub numbers_at : List ℕ → Read (ℕ × ℕ)
numbers_at bytes = do
  first ← number_at 8 Short bytes
  count ← number_at 2 Short first.1
  _ ← guard (has_count first.0 count.0) BadValue
  Ok ((first.0, count.0), count.1)

unfoldable pub header_at : ℕ → List ℕ → Read Header
header_at newest bytes = do
  version ← version_at newest bytes
  epoch ← number_at 8 Short version.1
  client ← number_at 4 Short epoch.1
  _ ← guard (nat_lt 0 client.0) BadValue
  numbers ← numbers_at client.1
  size ← number_at 4 Short numbers.1
  Ok (record { version = version.0; epoch = epoch.0; client = client.0; first = numbers.0.0; count = numbers.0.1; size = size.0 }, size.1)

-- ---- frames: the frame of a version up to the newest that the bytes begin with, and of how many bytes it is

abbrev pub read_frame : Header → List LogRecord × List Bool → LogFrame
read_frame h records = record { version = h.version; epoch = h.epoch; client = h.client; first = h.first; records = records.0; last = records.1 }

-- the frame of a header and its body
abbrev pub frame_of_body : Header → List ℕ → Result (LogFrame × ℕ) FrameFault
frame_of_body h body = do
  records ← body_at (is_marked h.version) h.count body
  Ok (read_frame h records, 29 + h.size)

unfoldable pub frame_at : ℕ → List ℕ → Result (LogFrame × ℕ) FrameFault
frame_at newest bytes = do
  head ← header_at newest bytes
  body ← bytes_at head.0.size Short head.1
  frame_of_body head.0 body.0

-- ---- what is left of a reading

-- the value that is seen of it
abbrev pub frame_seen : {A B : Type 0} → (A → B) → Result A FrameFault → Result B FrameFault
frame_seen view (Ok x) = Ok (view x)
frame_seen view (Err fault) = Err fault

-- what stands behind it
abbrev pub rest_of : {A : Type 0} → Read A → Result (List ℕ) FrameFault
rest_of read = frame_seen (λ x. x.1) read

-- which is the end of the bytes
pub record IsRest (bytes rest : List ℕ) : Type 0 where
  pub within : length rest ≤ length bytes
  pub end : drop (length bytes - length rest) bytes ≡ rest

-- that there is one
abbrev pub checked : {A : Type 0} → Result A FrameFault → Result (Unit {0}) FrameFault
checked read = frame_seen (λ x. tt) read

-- ---- what a function returned, seen by view, is what reading gives

abbrev pub Exactly : {X Y : Type 0} → (X → Y) → Result X FrameFault → Result Y FrameFault → Type 0
Exactly view (Ok x) read = read ≡ Ok (view x)
Exactly view (Err fault) read = read ≡ Err fault

-- ---- the same, unless memory ran out

abbrev pub FailsReading : {Y : Type 0} → FrameFault → Result Y FrameFault → Type 0
FailsReading Memory read = Unit {0}
FailsReading Short read = read ≡ Err Short
FailsReading BadMagic read = read ≡ Err BadMagic
FailsReading BadVersion read = read ≡ Err BadVersion
FailsReading BadTag read = read ≡ Err BadTag
FailsReading BadLength read = read ≡ Err BadLength
FailsReading BadValue read = read ≡ Err BadValue

abbrev pub GivesFrame : {X Y : Type 0} → (X → Y) → Result X FrameFault → Result Y FrameFault → Type 0
GivesFrame view (Ok x) read = read ≡ Ok (view x)
GivesFrame view (Err fault) read = FailsReading fault read
