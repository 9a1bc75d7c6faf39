-- A frame that is read is the frame that was spelled, and what is spelled is read again.
use Rattle.assise_record.proofs.Common.{◌≡◌, ℕ, ◌+◌, ◌^◌, ◌<◌, ◌≤◌, true, ◌==◌, nat_lt, List, [], ◌∷◌, ◌++◌, length, take, drop, Result, Ok, refl, sym, ap}
use Rattle.assise_record.proofs.Common.{subst, ◌∙◌, append_assoc, arith, length-append, ltb-true, lt-ltb, le-leb, eqb-true, and_from, take-append-drop, take_at}
use Rattle.assise_record.proofs.Common.{length-take, big_bytes, Header, FrameFault, Short, BadMagic, BadVersion, BadValue, LogFrame, is_marked, IsLogFrame}
use Rattle.assise_record.proofs.Common.{body_of, spelling, SpellsFrame, BeginsWith, ◌>>=◌, guard, HasCount, IsVersion, has_count, is_version, byte_at, bytes_at}
use Rattle.assise_record.proofs.Common.{number_at, body_at, version_at, numbers_at, header_at, read_frame, frame_at}
use Rattle.assise_record.proofs.Loop.{bind_ok, ok_is}
use Rattle.assise_record.proofs.FieldLaws.{IsBytes, Takes, Takes-then, Reads, seq_takes, guard_ok, bytes_take, bytes_again, byte_reads, u16_reads, u32_reads}
use Rattle.assise_record.proofs.FieldLaws.{u64_reads}
use Rattle.assise_record.proofs.RecordLaws.{IsBody, Records, body_takes, body_again}
use Rattle.assise_record.proofs.SizeBounds.{body_bytes}

-- ---- the magic bytes and the version

pub version_is : (newest version : ℕ) → is_version newest version ≡ true → IsVersion newest version
version_is newest version e = grind arith

pub version_again : (newest version : ℕ) → IsVersion newest version → is_version newest version ≡ true
version_again newest version h = and_from _ _ (le-leb 1 version h.some) (le-leb version newest h.known)

abbrev begin_with : ℕ → List ℕ
begin_with version = 65 ∷ 83 ∷ version ∷ []

version_takes : (newest : ℕ) (bytes : List ℕ) (x : ℕ × List ℕ) → IsBytes bytes → version_at newest bytes ≡ Ok x → Takes bytes (begin_with x.0) x.1
    × IsVersion newest x.0
unfolding version_at
version_takes newest bytes x fits e =
    let last = λ (version : ℕ × List ℕ). guard (is_version newest version.0) BadVersion >>= λ _. let made : Result (ℕ × List ℕ) FrameFault = Ok version in
    made in
    let second = λ (s : ℕ × List ℕ). guard (s.0 == 83) BadMagic >>= λ _. byte_at Short s.1 >>= last in
    let a = seq_takes (byte_reads Short) (λ a. guard (a.0 == 65) BadMagic >>= λ _. byte_at Short a.1 >>= second) x bytes fits e in
    let ga = guard_ok (a.0.0 == 65) BadMagic (λ _. byte_at Short a.0.1 >>= second) x a.3 in
    let b = seq_takes (byte_reads Short) second x a.0.1 a.1.rest_fits ga.1 in
    let gb = guard_ok (b.0.0 == 83) BadMagic (λ _. byte_at Short b.0.1 >>= last) x b.3 in
    let c = seq_takes (byte_reads Short) last x b.0.1 b.1.rest_fits gb.1 in
    let gc = guard_ok (is_version newest c.0.0) BadVersion (λ _. Ok c.0) x c.3 in
    let is = λ (bytes : List ℕ) (n m : ℕ) (rest : List ℕ) (e : n ≡ m) (t : Takes bytes (n ∷ []) rest). subst (λ (k : ℕ). Takes bytes (k ∷ []) rest) e t in
    let ta = is bytes a.0.0 65 a.0.1 (eqb-true a.0.0 65 ga.0) a.1 in
    let tb = is a.0.1 b.0.0 83 b.0.1 (eqb-true b.0.0 83 gb.0) b.1 in
    let both = Takes-then a.0.1 (83 ∷ []) b.0.1 (c.0.0 ∷ []) c.0.1 tb c.1 in
    let whole = Takes-then bytes (65 ∷ []) a.0.1 (83 ∷ c.0.0 ∷ []) c.0.1 ta both in
    subst (λ (y : ℕ × List ℕ). Takes bytes (begin_with y.0) y.1 × IsVersion newest y.0) (ok_is c.0 x gc.1) (whole, version_is newest c.0.0 gc.0)

version_read_again : (newest version : ℕ) (rest : List ℕ) → IsVersion newest version → version_at newest (begin_with version ++ rest) ≡ Ok (version, rest)
unfolding version_at
version_read_again newest version rest h = rw (version_again newest version h) refl

version_reads : (newest : ℕ) → Reads (version_at newest) begin_with (IsVersion newest)
version_reads newest = record { takes = version_takes newest; again = version_read_again newest }

-- ---- the first number and the count

pub count_is : (first count : ℕ) → has_count first count ≡ true → HasCount first count
count_is first count e = grind arith

pub count_again : (first count : ℕ) → HasCount first count → has_count first count ≡ true
count_again first count h = and_from _ _ (lt-ltb 0 count h.some) (and_from _ _ (le-leb count 64 h.few) (le-leb (first + count) 18446744073709551615 h.numbers))

abbrev numbers_spelling : ℕ × ℕ → List ℕ
numbers_spelling x = big_bytes 8 x.0 ++ big_bytes 2 x.1

numbers_take : (bytes : List ℕ) (x : (ℕ × ℕ) × List ℕ) → IsBytes bytes → numbers_at bytes ≡ Ok x → Takes bytes (numbers_spelling x.0) x.1 × HasCount x.0.0 x.0.1
unfolding numbers_at
numbers_take bytes x fits e =
    let last = λ (first : ℕ) (count : ℕ × List ℕ). guard (has_count first count.0) BadValue >>= λ _. let made : Result ((ℕ × ℕ) × List ℕ) FrameFault =
    Ok ((first, count.0), count.1) in made in
    let a = seq_takes (u64_reads Short) (λ first. number_at 2 Short first.1 >>= last first.0) x bytes fits e in
    let b = seq_takes (u16_reads Short) (last a.0.0) x a.0.1 a.1.rest_fits a.3 in
    let g = guard_ok (has_count a.0.0 b.0.0) BadValue (λ _. Ok ((a.0.0, b.0.0), b.0.1)) x b.3 in
    let both = Takes-then bytes (big_bytes 8 a.0.0) a.0.1 (big_bytes 2 b.0.0) b.0.1 a.1 b.1 in
    subst (λ (y : (ℕ × ℕ) × List ℕ). Takes bytes (numbers_spelling y.0) y.1 × HasCount y.0.0 y.0.1) (ok_is ((a.0.0, b.0.0), b.0.1) x g.1)
    (both, count_is a.0.0 b.0.0 g.0)

numbers_again : (x : ℕ × ℕ) (rest : List ℕ) → HasCount x.0 x.1 → numbers_at (numbers_spelling x ++ rest) ≡ Ok (x, rest)
unfolding numbers_at
numbers_again x rest h = grind arith

numbers_read : Reads numbers_at numbers_spelling (λ x. HasCount x.0 x.1)
numbers_read = record { takes = numbers_take; again = numbers_again }

-- ---- the header

abbrev pub header_spelling : Header → List ℕ
header_spelling h = 65 ∷ 83 ∷ h.version ∷
    (big_bytes 8 h.epoch ++ (big_bytes 4 h.client ++ (big_bytes 8 h.first ++ (big_bytes 2 h.count ++ big_bytes 4 h.size))))

pub record IsHeader (newest : ℕ) (h : Header) : Type 0 where
  pub version : IsVersion newest h.version
  pub epoch : h.epoch < 2 ^ 64
  pub client : 0 < h.client
  pub client_fits : h.client < 2 ^ 32
  pub count : HasCount h.first h.count
  pub size : h.size < 2 ^ 32

pub header_takes : (newest : ℕ) (bytes : List ℕ) (x : Header × List ℕ) → IsBytes bytes → header_at newest bytes ≡ Ok x → Takes bytes (header_spelling x.0) x.1
    × IsHeader newest x.0
unfolding header_at
header_takes newest bytes x fits e =
    let last = λ (version epoch client : ℕ) (numbers : (ℕ × ℕ) × List ℕ) (size : ℕ × List ℕ). let made : Result (Header × List ℕ) FrameFault =
    Ok (record { version = version; epoch = epoch; client = client; first = numbers.0.0; count = numbers.0.1; size = size.0 }, size.1) in made in
    let ends = λ (version epoch client : ℕ) (numbers : (ℕ × ℕ) × List ℕ). number_at 4 Short numbers.1 >>= last version epoch client numbers in
    let behind = λ (version epoch : ℕ) (client : ℕ × List ℕ). guard (nat_lt 0 client.0) BadValue >>= λ _. numbers_at client.1 >>= ends version epoch client.0 in
    let m = seq_takes (version_reads newest) (λ version. number_at 8 Short version.1 >>= λ epoch. number_at 4 Short epoch.1 >>= behind version.0 epoch.0) x
    bytes fits e in
    let a = seq_takes (u64_reads Short) (λ epoch. number_at 4 Short epoch.1 >>= behind m.0.0 epoch.0) x m.0.1 m.1.rest_fits m.3 in
    let b = seq_takes (u32_reads Short) (behind m.0.0 a.0.0) x a.0.1 a.1.rest_fits a.3 in
    let g = guard_ok (nat_lt 0 b.0.0) BadValue (λ _. numbers_at b.0.1 >>= ends m.0.0 a.0.0 b.0.0) x b.3 in
    let n = seq_takes numbers_read (ends m.0.0 a.0.0 b.0.0) x b.0.1 b.1.rest_fits g.1 in
    let z = seq_takes (u32_reads Short) (last m.0.0 a.0.0 b.0.0 n.0) x n.0.1 n.1.rest_fits n.3 in
    let nz = Takes-then b.0.1 (numbers_spelling n.0.0) n.0.1 (big_bytes 4 z.0.0) z.0.1 n.1 z.1 in
    let nz2 : Takes b.0.1 (big_bytes 8 n.0.0.0 ++ (big_bytes 2 n.0.0.1 ++ big_bytes 4 z.0.0)) z.0.1 =
    grind arith in
    let bz = Takes-then a.0.1 (big_bytes 4 b.0.0) b.0.1 (big_bytes 8 n.0.0.0 ++ (big_bytes 2 n.0.0.1 ++ big_bytes 4 z.0.0)) z.0.1 b.1 nz2 in
    let az = Takes-then m.0.1 (big_bytes 8 a.0.0) a.0.1 (big_bytes 4 b.0.0 ++ (big_bytes 8 n.0.0.0 ++ (big_bytes 2 n.0.0.1 ++ big_bytes 4 z.0.0))) z.0.1 a.1 bz
    in
    let whole = Takes-then bytes (begin_with m.0.0) m.0.1
    (big_bytes 8 a.0.0 ++ (big_bytes 4 b.0.0 ++ (big_bytes 8 n.0.0.0 ++ (big_bytes 2 n.0.0.1 ++ big_bytes 4 z.0.0)))) z.0.1 m.1 az in
    let made : Header × List ℕ = (record { version = m.0.0; epoch = a.0.0; client = b.0.0; first = n.0.0.0; count = n.0.0.1; size = z.0.0 }, z.0.1) in
    subst (λ (y : Header × List ℕ). Takes bytes (header_spelling y.0) y.1 × IsHeader newest y.0) (ok_is made x z.3)
    (whole, record { version = m.2; epoch = a.2; client = ltb-true 0 b.0.0 g.0; client_fits = b.2; count = n.2; size = z.2 })

header_again : (newest : ℕ) (h : Header) (rest : List ℕ) → IsHeader newest h → header_at newest (header_spelling h ++ rest) ≡ Ok (h, rest)
unfolding header_at
header_again newest h rest is =
    let last = big_bytes 4 h.size ++ rest in
    let numbers : List ℕ = numbers_spelling (h.first, h.count) ++ last in
    let r1 : (big_bytes 2 h.count ++ big_bytes 4 h.size) ++ rest ≡ big_bytes 2 h.count ++ last = append_assoc (big_bytes 2 h.count) (big_bytes 4 h.size) rest in
    let r2 : (big_bytes 8 h.first ++ (big_bytes 2 h.count ++ big_bytes 4 h.size)) ++ rest ≡ numbers =
    grind arith in
    let r3 : (big_bytes 4 h.client ++ (big_bytes 8 h.first ++ (big_bytes 2 h.count ++ big_bytes 4 h.size))) ++ rest ≡ big_bytes 4 h.client ++ numbers =
    grind arith in
    let r4 : (big_bytes 8 h.epoch ++ (big_bytes 4 h.client ++ (big_bytes 8 h.first ++ (big_bytes 2 h.count ++ big_bytes 4 h.size)))) ++ rest
    ≡ big_bytes 8 h.epoch ++ (big_bytes 4 h.client ++ numbers) =
    grind arith in
    let regrouped : header_spelling h ++ rest ≡ begin_with h.version ++ (big_bytes 8 h.epoch ++ (big_bytes 4 h.client ++ numbers)) =
    grind arith in
    let e0 = (version_reads newest).again h.version (big_bytes 8 h.epoch ++ (big_bytes 4 h.client ++ numbers)) is.version in
    let e1 = (u64_reads Short).again h.epoch (big_bytes 4 h.client ++ numbers) is.epoch in
    let e2 = (u32_reads Short).again h.client numbers is.client_fits in
    let e3 = numbers_read.again (h.first, h.count) last is.count in
    let e4 = (u32_reads Short).again h.size rest is.size in
    ap (header_at newest) regrouped ∙ rw (e0, e1, e2, lt-ltb 0 h.client is.client, e3, e4) refl

-- ---- frames

-- the parts of a frame that was read
is_spelled : (newest : ℕ) (h : Header) (body : List ℕ) (records : Records) → newest ≤ 2 → IsHeader newest h →
    IsBody (is_marked h.version) h.count body records → length body ≡ h.size
    → SpellsFrame newest (header_spelling h ++ body) (read_frame h records)
is_spelled newest h body records known is b len = grind arith

pub frame_takes : (newest : ℕ) (bytes : List ℕ) (x : LogFrame × ℕ) → newest ≤ 2 → IsBytes bytes → frame_at newest bytes ≡ Ok x → BeginsWith newest bytes x.0 x.1
unfolding frame_at
frame_takes newest bytes x known fits e =
    let last = λ (h : Header) (records : Records). let made : Result (LogFrame × ℕ) FrameFault = Ok (read_frame h records, 29 + h.size) in made in
    let a = bind_ok (header_at newest bytes)
    (λ head. bytes_at head.0.size Short head.1 >>= λ body. body_at (is_marked head.0.version) head.0.count body.0 >>= last head.0) x e in
    let t = header_takes newest bytes a.0 fits a.1 in
    let b = bind_ok (bytes_at a.0.0.size Short a.0.1) (λ body. body_at (is_marked a.0.0.version) a.0.0.count body.0 >>= last a.0.0) x a.2 in
    let bt = bytes_take a.0.0.size Short a.0.1 b.0 t.0.rest_fits b.1 in
    let c = bind_ok (body_at (is_marked a.0.0.version) a.0.0.count b.0.0) (last a.0.0) x b.2 in
    let ct = body_takes (is_marked a.0.0.version) a.0.0.count b.0.0 c.0 bt.2 c.1 in
    let text : List ℕ = header_spelling a.0.0 ++ b.0.0 in
    let both = Takes-then bytes (header_spelling a.0.0) a.0.1 b.0.0 b.0.1 t.0 bt.0 in
    let spelled = is_spelled newest a.0.0 b.0.0 c.0 known t.1 ct bt.1 in
    let len : length text ≡ 29 + a.0.0.size = omega (arith, bt.1, length-append (header_spelling a.0.0) b.0.0) in
    let prefix : take (29 + a.0.0.size) bytes ≡ text = ap (take (29 + a.0.0.size)) both.parts ∙ take_at text b.0.1 (29 + a.0.0.size) len in
    let inside : 29 + a.0.0.size ≤ length bytes = omega (arith, len, ap length both.parts, length-append text b.0.1) in
    let made : LogFrame = read_frame a.0.0 c.0 in
    subst (λ (y : LogFrame × ℕ). BeginsWith newest bytes y.0 y.1) (ok_is (made, 29 + a.0.0.size) x c.2)
    (record { inside = inside; prefix = subst (λ (t : List ℕ). SpellsFrame newest t made) (sym prefix) spelled })

pub frame_again : (newest : ℕ) (f : LogFrame) (rest : List ℕ) → f.version ≤ newest → IsLogFrame f → frame_at newest (spelling f ++ rest)
    ≡ Ok (f, length (spelling f))
unfolding frame_at
frame_again newest f rest known is =
    let body : List ℕ = body_of f.records f.last in
    let h : Header = record { version = f.version; epoch = f.epoch; client = f.client; first = f.first; count = length f.records; size = length body } in
    let few = body_bytes f.records f.last is.ranges.few is.records in
    let count : HasCount f.first (length f.records) = record { some = is.ranges.some; few = is.ranges.few; numbers = is.ranges.numbers } in
    let version : IsVersion newest f.version = record { some = is.ranges.some_version; known = known } in
    let lawful : IsHeader newest h =
    grind arith in
    let regrouped : spelling f ++ rest ≡ header_spelling h ++ (body ++ rest) = append_assoc (header_spelling h) body rest in
    let len : 29 + length body ≡ length (spelling f) = omega (arith, length-append (header_spelling h) body) in
    ap (frame_at newest) regrouped
    ∙ rw (
      header_again newest h (body ++ rest) lawful,
      bytes_again Short body rest,
      body_again (is_marked f.version) f.records f.last is.ranges.marks
          is.records,
      len,
    ) refl

-- what is read where the bytes begin with a frame
pub begins_again : (newest : ℕ) (bytes : List ℕ) (f : LogFrame) (n : ℕ) → BeginsWith newest bytes f n → frame_at newest bytes ≡ Ok (f, n)
begins_again newest bytes f n h = grind
    (arith, take-append-drop n bytes, length-take n bytes, frame_again newest f (drop n bytes) h.prefix.version h.prefix.lawful)
