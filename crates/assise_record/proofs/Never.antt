-- A fault that no field has is never answered.
use Rattle.assise_record.proofs.Common.{◌≡◌, ◌≢◌, ℕ, zero, suc, Bool, true, false, ◌&&◌, nat_lt, nat_le, cond, ltb, List, [], ◌∷◌, length, Option, None, Result}
use Rattle.assise_record.proofs.Common.{Ok, Err, FrameFault, Short, BadMagic, BadVersion, BadTag, BadLength, BadValue, Memory, ◌>>=◌, guard, Read, byte_at}
use Rattle.assise_record.proofs.Common.{bytes_at, number_at, many_at, extent_at, read_size, name_in, name_at, new_file_at, new_dir_at, write_at, set_len_at}
use Rattle.assise_record.proofs.Common.{link_at, unlink_at, free_at, fields_at, effect_at, mark_at, read_record, records_at, body_at, version_at, numbers_at}
use Rattle.assise_record.proofs.Common.{header_at, frame_at, arith}

-- it is none of the faults of a body's fields
pub record IsNoBodyFault (bad : FrameFault) : Type 0 where
  pub not_length : BadLength ≢ bad
  pub not_value : BadValue ≢ bad
  pub not_tag : BadTag ≢ bad

pub not_short : IsNoBodyFault Short
not_short = record { not_length = λ e. cc; not_value = λ e. cc; not_tag = λ e. cc }

pub not_memory : IsNoBodyFault Memory
not_memory = record { not_length = λ e. cc; not_value = λ e. cc; not_tag = λ e. cc }

-- ---- in a body

module _ (bad : FrameFault) (others : IsNoBodyFault bad) where
  abbrev pub IsOther : {A : Type 0} → Result A FrameFault → Type 0
  IsOther r = ¬ (r ≡ Err bad)

  abbrev pub Never : {A : Type 0} → (List ℕ → Result A FrameFault) → Type 0
  Never read = (bytes : List ℕ) → IsOther (read bytes)

  pub value_is : {A : Type 0} (x : A) → IsOther (Ok x)
  value_is x e = absurd cc

  pub fault_is : {A B : Type 0} (fault : FrameFault) → IsOther {A = A} (Err fault) → IsOther {A = B} (Err fault)
  fault_is {A} {B} fault h e = grind arith

  bad_value : {A : Type 0} → IsOther {A = A} (Err BadValue)
  bad_value e = let same : BadValue ≡ bad = cc in others.not_value same

  bad_length : {A : Type 0} → IsOther {A = A} (Err BadLength)
  bad_length e = let same : BadLength ≡ bad = cc in others.not_length same

  pub chosen : {A : Type 0} (b : Bool) (x y : Result A FrameFault) → IsOther x → IsOther y → IsOther (cond b x y)
  chosen true x y p q = p
  chosen false x y p q = q

  pub then_never : {A B : Type 0} (read : List ℕ → Read A) (next : A → List ℕ → Result B FrameFault) → Never read
      → ((a : A) → Never (next a)) → Never (λ bytes. read bytes >>= λ x. next x.0 x.1)
  then_never {A} {B} read next first second bytes = grind arith

  pub guard_never : {A : Type 0} (b : Bool) (fault : FrameFault) (next : List ℕ → Result A FrameFault) → IsOther {A = A} (Err fault)
      → Never next → Never (λ bytes. guard b fault >>= λ _. next bytes)
  guard_never true fault next h g = g
  guard_never false fault next h g = λ bytes. h

  byte_never : Never (byte_at BadLength)
  byte_never [] e = bad_length e
  byte_never (b ∷ bytes) e = absurd cc

  bytes_never : (n : ℕ) → Never (bytes_at n BadLength)
  bytes_never n bytes = chosen (ltb (length bytes) n) _ _ bad_length (value_is _)

  number_never : (n : ℕ) → Never (number_at n BadLength)
  number_never n bytes = chosen (ltb (length bytes) n) _ _ bad_length (value_is _)

  pub done_never : {A : Type 0} (x : A) → Never (λ bytes. let made : Read A = Ok (x, bytes) in made)
  done_never x bytes = value_is (x, bytes)

  extent_never : Never extent_at
  unfolding extent_at
  extent_never = search arith parts 3

  size_never : Never read_size
  unfolding read_size
  size_never = then_never (number_at 4 BadLength) _ (number_never 4) (λ size. guard_never (nat_le size 1048576) BadValue _ bad_value (done_never size))

  text_never : (text : List ℕ) → Never (λ rest. name_in text >>= λ name. let made : Read (List ℕ) = Ok (name, rest) in made)
  text_never text rest = grind arith

  name_never : Never name_at
  unfolding name_at
  name_never = grind arith

  inode_never : {A : Type 0} (next : ℕ → List ℕ → Read A) → ((n : ℕ) → Never (next n)) → Never (λ bytes. number_at 8 BadLength bytes >>= λ x. next x.0 x.1)
  inode_never next h = then_never (number_at 8 BadLength) next (number_never 8) h

  fields_never : (tag : ℕ) → Never (fields_at tag)
  unfolding fields_at new_file_at new_dir_at write_at set_len_at link_at unlink_at free_at
  fields_never tag bytes = search (extent_never, size_never, name_never, arith) parts 3

  effect_never : Never effect_at
  unfolding effect_at
  effect_never = then_never (byte_at BadLength) _ byte_never fields_never

  many_never : {A : Type 0} (read : List ℕ → Read A) → Never read → (n : ℕ) → Never (many_at read n)
  unfolding many_at
  many_never read h zero bytes = value_is ([], bytes)
  many_never read h (suc n) bytes = grind (arith, many_never read h n)

  mark_never : (marked : Bool) (left : ℕ) → Never (mark_at marked left)
  unfolding mark_at
  mark_never false left bytes = value_is (None, bytes)
  mark_never true left bytes = grind arith

  record_never : (marked : Bool) (left : ℕ) → Never (read_record marked left)
  unfolding read_record
  record_never marked left =
      let counted = λ (call : ℕ) (mark : Option Bool) (count : ℕ). guard_never (nat_lt 0 count && nat_le count 4) BadValue _ bad_value
      (grind (arith, many_never, effect_never)) in
      let behind = λ (call : ℕ) (mark : Option Bool). then_never (byte_at BadLength) _ byte_never (counted call mark) in
      then_never (number_at 8 BadLength) _ (number_never 8) (λ call. then_never (mark_at marked left) _ (mark_never marked left) (behind call))

  records_never : (marked : Bool) (n : ℕ) → Never (records_at marked n)
  unfolding records_at
  records_never marked zero bytes = value_is (([], []), bytes)
  records_never marked (suc n) bytes = grind (arith, records_never marked n, record_never)

  pub body_never : (marked : Bool) (count : ℕ) → Never (body_at marked count)
  unfolding body_at
  body_never marked count = grind (arith, records_never)

  -- behind another reading
  pub result_never : {A B : Type 0} (r : Result A FrameFault) (f : A → Result B FrameFault) → IsOther r → ((a : A) → IsOther (f a)) → IsOther (r >>= f)
  result_never (Ok x) f h g = g x
  result_never (Err fault) f h g = fault_is fault h

-- ---- out of memory

abbrev HasMemory : {A : Type 0} → Result A FrameFault → Type 0
HasMemory r = IsOther Memory not_memory r

abbrev Always : {A : Type 0} → (List ℕ → Result A FrameFault) → Type 0
Always read = Never Memory not_memory read

is_other : {A : Type 0} (fault : FrameFault) → fault ≢ Memory → HasMemory {A = A} (Err fault)
is_other fault h e = let same : fault ≡ Memory = cc in h same

no_version : BadVersion ≢ Memory
no_version e = cc

no_magic : BadMagic ≢ Memory
no_magic e = cc

byte_always : Always (byte_at Short)
byte_always [] e = absurd cc
byte_always (b ∷ bytes) e = absurd cc

bytes_always : (n : ℕ) → Always (bytes_at n Short)
bytes_always n bytes = chosen Memory not_memory (ltb (length bytes) n) _ _ (λ e. absurd cc) (λ e. absurd cc)

number_always : (n : ℕ) → Always (number_at n Short)
number_always n bytes = chosen Memory not_memory (ltb (length bytes) n) _ _ (λ e. absurd cc) (λ e. absurd cc)

version_always : (newest : ℕ) → Always (version_at newest)
unfolding version_at
version_always newest = grind arith

numbers_always : Always numbers_at
unfolding numbers_at
numbers_always = grind arith

header_always : (newest : ℕ) → Always (header_at newest)
unfolding header_at
header_always newest = grind (arith, version_always, numbers_always)

-- no bytes are read as out of memory
pub frame_always : (newest : ℕ) (bytes : List ℕ) → HasMemory (frame_at newest bytes)
unfolding frame_at
frame_always newest bytes = grind (arith, header_always, body_never)
