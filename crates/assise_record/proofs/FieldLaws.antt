-- A field that is read is the field that was spelled, and what is spelled is read again.
use Rattle.assise_record.proofs.Common.{◌≡◌, ℕ, suc, ◌+◌, ◌^◌, ◌<◌, ◌≤◌, Bool, true, false, nat_lt, cond, ltb, List, [], ◌∷◌, ◌++◌, length, get_or, take, drop}
use Rattle.assise_record.proofs.Common.{Result, Ok, Err, refl, sym, ap, subst, ◌∙◌, append_assoc, arith, IsTrue, ltb-false, le-ltb, le-leb, take_at, drop_at}
use Rattle.assise_record.proofs.Common.{take-append-drop, length-take, get_or-drop, get_or-take, get_or_past, big_bytes, big_number, is_name, FrameFault}
use Rattle.assise_record.proofs.Common.{BadLength, BadValue, Patch, IsPatch, patch_spelling, name_spelling, ◌>>=◌, guard, Read, byte_at, bytes_at, number_at}
use Rattle.assise_record.proofs.Common.{is_extent, extent_at, read_size, name_in, name_at}
use Rattle.std.proofs.lemmas.List.{append-nil, length-append}
use Rattle.std.proofs.lemmas.Nat.{be_bytes_2, be_bytes_4, be_bytes_8}
use Rattle.byteorder.specs.Numbers.{big_number-reads_back, big_from-lt, length-bytes_high_first}
use Rattle.assise_record.proofs.Loop.{bind_ok, ok_is}
use Rattle.assise_record.proofs.Names.{named}

-- ---- lists of bytes

abbrev pub IsBytes : List ℕ → Type 0
IsBytes bytes = (i : ℕ) → get_or bytes i 0 < 256

pub IsBytes-drop : (n : ℕ) (bytes : List ℕ) → IsBytes bytes → IsBytes (drop n bytes)
IsBytes-drop n bytes h i = rw get_or-drop (h (n + i))

pub IsBytes-take : (n : ℕ) (bytes : List ℕ) → IsBytes bytes → IsBytes (take n bytes)
IsBytes-take n bytes h i = grind (arith, get_or-take, get_or_past, length-take)

-- what a reader took from the front
pub record Takes (bytes text rest : List ℕ) : Type 0 where
  pub parts : bytes ≡ text ++ rest
  pub rest_fits : IsBytes rest

pub Takes-then : (a x b y c : List ℕ) → Takes a x b → Takes b y c → Takes a (x ++ y) c
Takes-then a x b y c p q = record { parts = p.parts ∙ ap (λ (t : List ℕ). x ++ t) q.parts ∙ sym (append_assoc x y c); rest_fits = q.rest_fits }

-- a reader reads the spellings of what fits, and nothing else
pub record Reads {A : Type 0} (read : List ℕ → Read A) (spell : A → List ℕ) (Fits : A → Type 0) : Type 0 where
  pub takes : (bytes : List ℕ) (x : A × List ℕ) → IsBytes bytes → read bytes ≡ Ok x → Takes bytes (spell x.0) x.1 × Fits x.0
  pub again : (x : A) (rest : List ℕ) → Fits x → read (spell x ++ rest) ≡ Ok (x, rest)

-- ---- steps that did not fail

pub guard_ok : {A : Type 0} (b : Bool) (fault : FrameFault) (f : Unit {0} → Result A FrameFault) (y : A) → (guard b fault >>= f) ≡ Ok y →
    (b ≡ true) × (f tt ≡ Ok y)
guard_ok true fault f y e = (refl, e)
guard_ok false fault f y e = absurd cc

pub cond_ok : {A : Type 0} (b : Bool) (fault : FrameFault) (x y : A) → cond b (Err fault) (Ok x) ≡ Ok y → (b ≡ false) × (x ≡ y)
cond_ok true fault x y e = absurd cc
cond_ok false fault x y e = (refl, cc)

-- the first of several readings
pub seq_takes : {A B : Type 0} {read : List ℕ → Read A} {spell : A → List ℕ} {Fits : A → Type 0} (reads : Reads read spell Fits)
    (f : A × List ℕ → Result B FrameFault) (y : B) (bytes : List ℕ)
    → IsBytes bytes
    → (read bytes >>= f) ≡ Ok y → (x : A × List ℕ) × Takes bytes (spell x.0) x.1 × Fits x.0 × (f x ≡ Ok y)
seq_takes {read = read} reads f y bytes fits e =
    let b = bind_ok (read bytes) f y e in
    let t = reads.takes bytes b.0 fits b.1 in
    (b.0, t.0, t.1, b.2)

-- ---- bytes

pub byte_reads : (fault : FrameFault) → Reads (byte_at fault) (λ b. b ∷ []) (λ b. b < 256)
byte_reads fault = record {
  takes = byte_takes fault;
  again = λ b rest fits. refl;
} where
  byte_takes : (fault : FrameFault) (bytes : List ℕ) (x : ℕ × List ℕ) → IsBytes bytes → byte_at fault bytes ≡ Ok x → Takes bytes (x.0 ∷ []) x.1 × (x.0 < 256)
  byte_takes fault [] x fits e = absurd cc
  byte_takes fault (b ∷ bytes) x fits e =
      subst (λ (y : ℕ × List ℕ). Takes (b ∷ bytes) (y.0 ∷ []) y.1 × (y.0 < 256)) (ok_is (b, bytes) x e)
      (record { parts = refl; rest_fits = λ i. fits (suc i) }, fits 0)

-- `n` bytes
pub bytes_take : (n : ℕ) (fault : FrameFault) (bytes : List ℕ) (x : List ℕ × List ℕ) → IsBytes bytes → bytes_at n fault bytes ≡ Ok x →
    Takes bytes x.0 x.1 × (length x.0 ≡ n) × IsBytes x.0
bytes_take n fault bytes x fits e =
    let g = cond_ok (ltb (length bytes) n) fault (take n bytes, drop n bytes) x e in
    let long : n ≤ length bytes = ltb-false _ _ g.0 in
    let len : length (take n bytes) ≡ n = omega (arith, length-take n bytes) in
    subst (λ (y : List ℕ × List ℕ). Takes bytes y.0 y.1 × (length y.0 ≡ n) × IsBytes y.0) g.1
    (record { parts = sym (take-append-drop n bytes); rest_fits = IsBytes-drop n bytes fits }, len, IsBytes-take n bytes fits)

pub bytes_again : (fault : FrameFault) (text rest : List ℕ) → bytes_at (length text) fault (text ++ rest) ≡ Ok (text, rest)
bytes_again fault text rest = grind (arith, length-append, take_at, drop_at)

-- ---- numbers

-- bytes are the spelling of the number that they are read as
abbrev pub IsWidth : ℕ → Type 0
IsWidth n = (bytes : List ℕ) → length bytes ≡ n → IsBytes bytes → big_bytes n (big_number n bytes) ≡ bytes

width_2 : IsWidth 2
width_2 bytes len fits = be_bytes_2 bytes (big_number 2 bytes) len fits (omega arith)

width_4 : IsWidth 4
width_4 bytes len fits = be_bytes_4 bytes (big_number 4 bytes) len fits (omega arith)

width_8 : IsWidth 8
width_8 bytes len fits = be_bytes_8 bytes (big_number 8 bytes) len fits (omega arith)

number_takes : (n : ℕ) → IsWidth n → (fault : FrameFault) (bytes : List ℕ) (x : ℕ × List ℕ) → IsBytes bytes → number_at n fault bytes ≡ Ok x →
    Takes bytes (big_bytes n x.0) x.1 × (x.0 < 256 ^ n)
number_takes n width fault bytes x fits e =
    let g = cond_ok (ltb (length bytes) n) fault (big_number n (take n bytes), drop n bytes) x e in
    let long : n ≤ length bytes = ltb-false _ _ g.0 in
    let prefix : big_bytes n (big_number n (take n bytes)) ≡ take n bytes = width (take n bytes) (omega (arith, length-take n bytes))
    (IsBytes-take n bytes fits) in
    let parts : bytes ≡ big_bytes n (big_number n (take n bytes)) ++ drop n bytes = grind (arith, take-append-drop) in
    subst (λ (y : ℕ × List ℕ). Takes bytes (big_bytes n y.0) y.1 × (y.0 < 256 ^ n)) g.1
    (record { parts = parts; rest_fits = IsBytes-drop n bytes fits }, big_from-lt 0 n (take n bytes) (IsBytes-take n bytes fits))

number_again : (n : ℕ) (fault : FrameFault) (x : ℕ) (rest : List ℕ) → x < 256 ^ n → number_at n fault (big_bytes n x ++ rest) ≡ Ok (x, rest)
number_again n fault x rest lt = grind
    (arith, length-bytes_high_first n x, le-ltb, length-append (big_bytes n x) rest, append-nil (big_bytes n x), big_number-reads_back n x, take_at, drop_at)

number_reads : (n : ℕ) → IsWidth n → (fault : FrameFault) → Reads (number_at n fault) (big_bytes n) (λ x. x < 256 ^ n)
number_reads n width fault = record { takes = number_takes n width fault; again = number_again n fault }

pub u16_reads : (fault : FrameFault) → Reads (number_at 2 fault) (big_bytes 2) (λ x. x < 2 ^ 16)
u16_reads fault = number_reads 2 width_2 fault

pub u32_reads : (fault : FrameFault) → Reads (number_at 4 fault) (big_bytes 4) (λ x. x < 2 ^ 32)
u32_reads fault = number_reads 4 width_4 fault

pub u64_reads : (fault : FrameFault) → Reads (number_at 8 fault) (big_bytes 8) (λ x. x < 2 ^ 64)
u64_reads fault = number_reads 8 width_8 fault

-- ---- the bytes of a write

is_patch : (offset size : ℕ) (bytes : List ℕ) → is_extent offset size ≡ true → length bytes ≡ size → IsPatch (record { offset = offset; bytes = bytes })
is_patch offset size bytes e len = grind arith

is_patch-again : (p : Patch) → IsPatch p → is_extent p.offset (length p.bytes) ≡ true
is_patch-again p h = grind arith

extent_takes : (bytes : List ℕ) (x : Patch × List ℕ) → IsBytes bytes → extent_at bytes ≡ Ok x → Takes bytes (patch_spelling x.0) x.1 × IsPatch x.0
unfolding extent_at
extent_takes bytes x fits e =
    let last = λ (offset : ℕ) (p : List ℕ × List ℕ). let made : Result (Patch × List ℕ) FrameFault = Ok (record { offset = offset; bytes = p.0 }, p.1) in
    made in
    let a = seq_takes (u32_reads BadLength)
    (λ offset. number_at 4 BadLength offset.1 >>= λ size. guard (is_extent offset.0 size.0) BadValue >>= λ _. bytes_at size.0 BadLength size.1 >>= last
    offset.0) x bytes fits e in
    let b = seq_takes (u32_reads BadLength) (λ size. guard (is_extent a.0.0 size.0) BadValue >>= λ _. bytes_at size.0 BadLength size.1 >>= last a.0.0) x a.0.1
    a.1.rest_fits a.3 in
    let g = guard_ok (is_extent a.0.0 b.0.0) BadValue (λ _. bytes_at b.0.0 BadLength b.0.1 >>= last a.0.0) x b.3 in
    let d = bind_ok (bytes_at b.0.0 BadLength b.0.1) (last a.0.0) x g.1 in
    let t = bytes_take b.0.0 BadLength b.0.1 d.0 b.1.rest_fits d.1 in
    let size : Takes a.0.1 (big_bytes 4 (length d.0.0)) b.0.1 = subst (λ (n : ℕ). Takes a.0.1 (big_bytes 4 n) b.0.1) (sym t.1) b.1 in
    let second = Takes-then a.0.1 (big_bytes 4 (length d.0.0)) b.0.1 d.0.0 d.0.1 size t.0 in
    let whole = Takes-then bytes (big_bytes 4 a.0.0) a.0.1 (big_bytes 4 (length d.0.0) ++ d.0.0) d.0.1 a.1 second in
    subst (λ (y : Patch × List ℕ). Takes bytes (patch_spelling y.0) y.1 × IsPatch y.0) (ok_is (record { offset = a.0.0; bytes = d.0.0 }, d.0.1) x d.2)
    (whole, is_patch a.0.0 b.0.0 d.0.0 g.0 t.1)

extent_again : (p : Patch) (rest : List ℕ) → IsPatch p → extent_at (patch_spelling p ++ rest) ≡ Ok (p, rest)
unfolding extent_at
extent_again p rest h = grind (arith, bytes_again BadLength p.bytes rest)

pub extent_reads : Reads extent_at patch_spelling IsPatch
extent_reads = record { takes = extent_takes; again = extent_again }

-- ---- the length of a file

size_takes : (bytes : List ℕ) (x : ℕ × List ℕ) → IsBytes bytes → read_size bytes ≡ Ok x → Takes bytes (big_bytes 4 x.0) x.1 × (x.0 ≤ 1048576)
unfolding read_size
size_takes bytes x fits e = grind (arith, u32_reads BadLength)

size_again : (size : ℕ) (rest : List ℕ) → size ≤ 1048576 → read_size (big_bytes 4 size ++ rest) ≡ Ok (size, rest)
unfolding read_size
size_again size rest h = rw ((u32_reads BadLength).again size rest (omega (arith, h)), le-leb size 1048576 h) refl

pub size_reads : Reads read_size (big_bytes 4) (λ size. size ≤ 1048576)
size_reads = record { takes = size_takes; again = size_again }

-- ---- names

name_takes : (bytes : List ℕ) (x : List ℕ × List ℕ) → IsBytes bytes → name_at bytes ≡ Ok x → Takes bytes (name_spelling x.0) x.1 × IsTrue (is_name x.0)
unfolding name_at
name_takes bytes x fits e =
    let last = λ (p : List ℕ × List ℕ). name_in p.0 >>= λ name. let made : Result (List ℕ × List ℕ) FrameFault = Ok (name, p.1) in made in
    let a = seq_takes (byte_reads BadLength) (λ size. guard (nat_lt 0 size.0) BadValue >>= λ _. bytes_at size.0 BadLength size.1 >>= last) x bytes fits e in
    let g = guard_ok (nat_lt 0 a.0.0) BadValue (λ _. bytes_at a.0.0 BadLength a.0.1 >>= last) x a.3 in
    let b = bind_ok (bytes_at a.0.0 BadLength a.0.1) last x g.1 in
    let t = bytes_take a.0.0 BadLength a.0.1 b.0 a.1.rest_fits b.1 in
    let n = bind_ok (name_in b.0.0) (λ name. Ok (name, b.0.1)) x b.2 in
    let lawful = named b.0.0 n.0 n.1 in
    let size : Takes bytes (length b.0.0 ∷ []) a.0.1 = subst (λ (k : ℕ). Takes bytes (k ∷ []) a.0.1) (sym t.1) a.1 in
    let whole = Takes-then bytes (length b.0.0 ∷ []) a.0.1 b.0.0 b.0.1 size t.0 in
    let made : (b.0.0, b.0.1) ≡ x = ap (λ (name : List ℕ). (name, b.0.1)) lawful.1 ∙ ok_is (n.0, b.0.1) x n.2 in
    subst (λ (y : List ℕ × List ℕ). Takes bytes (name_spelling y.0) y.1 × IsTrue (is_name y.0)) made (whole, lawful.0)

name_again : (name rest : List ℕ) → IsTrue (is_name name) → name_at (name_spelling name ++ rest) ≡ Ok (name, rest)
unfolding name_at
name_again name rest h = grind (arith, bytes_again)

pub name_reads : Reads name_at name_spelling (λ name. IsTrue (is_name name))
name_reads = record { takes = name_takes; again = name_again }
