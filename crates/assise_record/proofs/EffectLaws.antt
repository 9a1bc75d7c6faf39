-- An effect that is read is the effect that was spelled, and what is spelled is read again.
use Rattle.assise_record.proofs.Common.{◌≡◌, ℕ, ◌==◌, cond, List, [], ◌∷◌, ◌++◌, Result, Ok, refl, sym, ap, subst, ◌∙◌, append_assoc, big_bytes, Effect}
use Rattle.assise_record.proofs.Common.{◌<◌, ◌^◌, Read, NewFile, NewDir, Write, SetLen, Link, Unlink, Free, FrameFault, BadLength, IsEffect, tag_of, arith}
use Rattle.assise_record.proofs.Common.{fields_of, effect_spelling, patch_spelling, name_spelling, ◌>>=◌, number_at, name_at, new_file_at, new_dir_at, write_at}
use Rattle.assise_record.proofs.Common.{set_len_at, link_at, unlink_at, free_at, fields_at, effect_at}
use Rattle.assise_record.specs.Reading.{inode_at, inode_then_at}
use Rattle.assise_record.proofs.Loop.{ok_is}
use Rattle.assise_record.proofs.FieldLaws.{IsBytes, Takes, Takes-then, Reads, seq_takes, byte_reads, u64_reads, extent_reads, size_reads, name_reads}

-- what stands behind the tag of an effect was taken
abbrev TakesFields : ℕ → List ℕ → Effect × List ℕ → Type 0
TakesFields tag bytes x = (tag ≡ tag_of x.0) × Takes bytes (fields_of x.0) x.1 × IsEffect x.0

abbrev made : Effect → List ℕ → Result (Effect × List ℕ) FrameFault
made effect rest = Ok (effect, rest)

-- ---- from bytes to effects

-- an effect of an inode alone, and one of an inode and what is read behind it
inode_takes : (tag : ℕ) (make : ℕ → Effect)
    → ((text : List ℕ) (inode : ℕ) (rest : List ℕ) → Takes text (big_bytes 8 inode) rest → inode < 2 ^ 64 → TakesFields tag text (make inode, rest))
    → (bytes : List ℕ) (x : Effect × List ℕ) → IsBytes bytes → inode_at make bytes ≡ Ok x → TakesFields tag bytes x
inode_takes tag make is bytes x fits e =
    let a = seq_takes (u64_reads BadLength) (λ inode. made (make inode.0) inode.1) x bytes fits e in
    subst (TakesFields tag bytes) (ok_is (make a.0.0, a.0.1) x a.3) (is bytes a.0.0 a.0.1 a.1 a.2)

inode_then_takes : {A : Type 0} {read : List ℕ → Read A} {spell : A → List ℕ} {Fits : A → Type 0} (reads : Reads read spell Fits) (tag : ℕ)
    (make : ℕ → A → Effect)
    → ((text : List ℕ) (inode : ℕ) (y : A) (rest : List ℕ) → Takes text (big_bytes 8 inode ++ spell y) rest → inode < 2 ^ 64 → Fits y →
    TakesFields tag text (make inode y, rest)) → (bytes : List ℕ) (x : Effect × List ℕ) → IsBytes bytes → inode_then_at make read bytes ≡ Ok x →
    TakesFields tag bytes x
inode_then_takes {read = read} {spell = spell} reads tag make is bytes x fits e =
    let a = seq_takes (u64_reads BadLength) (λ inode. read inode.1 >>= λ y. made (make inode.0 y.0) y.1) x bytes fits e in
    let b = seq_takes reads (λ y. made (make a.0.0 y.0) y.1) x a.0.1 a.1.rest_fits a.3 in
    let both = Takes-then bytes (big_bytes 8 a.0.0) a.0.1 (spell b.0.0) b.0.1 a.1 b.1 in
    subst (TakesFields tag bytes) (ok_is (make a.0.0 b.0.0, b.0.1) x b.3) (is bytes a.0.0 b.0.0 b.0.1 both a.2 b.2)

link_takes : (bytes : List ℕ) (x : Effect × List ℕ) → IsBytes bytes → link_at bytes ≡ Ok x → TakesFields 5 bytes x
unfolding link_at
link_takes bytes x fits e =
    let a = seq_takes (u64_reads BadLength)
    (λ directory. name_at directory.1 >>= λ name. number_at 8 BadLength name.1 >>= λ inode. made (Link directory.0 name.0 inode.0) inode.1) x bytes fits e
    in
    let b = seq_takes name_reads (λ name. number_at 8 BadLength name.1 >>= λ inode. made (Link a.0.0 name.0 inode.0) inode.1) x a.0.1 a.1.rest_fits a.3 in
    let c = seq_takes (u64_reads BadLength) (λ inode. made (Link a.0.0 b.0.0 inode.0) inode.1) x b.0.1 b.1.rest_fits b.3 in
    let second = Takes-then a.0.1 (name_spelling b.0.0) b.0.1 (big_bytes 8 c.0.0) c.0.1 b.1 c.1 in
    let whole = Takes-then bytes (big_bytes 8 a.0.0) a.0.1 (name_spelling b.0.0 ++ big_bytes 8 c.0.0) c.0.1 a.1 second in
    subst (TakesFields 5 bytes) (ok_is (Link a.0.0 b.0.0 c.0.0, c.0.1) x c.3) (refl, whole, (a.2, b.2, c.2))

-- one test of a tag: what is read where it holds, and where not
choose : {P : Type 0} (tag n : ℕ) (here there : Result (Effect × List ℕ) FrameFault) (x : Effect × List ℕ) → (tag ≡ n → here ≡ Ok x → P) → (there ≡ Ok x → P) →
    cond (tag == n) here there ≡ Ok x → P
choose {P} tag n here there x this other = grind arith

fields_take : (tag : ℕ) (bytes : List ℕ) (x : Effect × List ℕ) → IsBytes bytes → fields_at tag bytes ≡ Ok x → TakesFields tag bytes x
unfolding fields_at new_file_at new_dir_at write_at set_len_at unlink_at free_at
fields_take tag bytes x fits =
    let is = λ (n : ℕ) (t : tag ≡ n) (h : TakesFields n bytes x). subst (λ (k : ℕ). TakesFields k bytes x) (sym t) h in
    choose tag 1 _ _ x (λ t e. is 1 t (inode_takes 1 NewFile (λ b n r t f. (refl, t, f)) bytes x fits e))
    (choose tag 2 _ _ x (λ t e. is 2 t (inode_takes 2 NewDir (λ b n r t f. (refl, t, f)) bytes x fits e))
    (choose tag 3 _ _ x (λ t e. is 3 t (inode_then_takes extent_reads 3 Write (λ b n y r t f g. (refl, t, (f, g))) bytes x fits e))
    (choose tag 4 _ _ x (λ t e. is 4 t (inode_then_takes size_reads 4 SetLen (λ b n y r t f g. (refl, t, (f, g))) bytes x fits e))
    (choose tag 5 _ _ x (λ t e. is 5 t (link_takes bytes x fits e))
    (choose tag 6 _ _ x (λ t e. is 6 t (inode_then_takes name_reads 6 Unlink (λ b n y r t f g. (refl, t, (f, g))) bytes x fits e))
    (choose tag 7 _ _ x (λ t e. is 7 t (inode_takes 7 Free (λ b n r t f. (refl, t, f)) bytes x fits e)) (λ e. absurd cc)))))))

effect_takes : (bytes : List ℕ) (x : Effect × List ℕ) → IsBytes bytes → effect_at bytes ≡ Ok x → Takes bytes (effect_spelling x.0) x.1 × IsEffect x.0
unfolding effect_at
effect_takes bytes x fits e =
    let a = seq_takes (byte_reads BadLength) (λ tag. fields_at tag.0 tag.1) x bytes fits e in
    let b = fields_take a.0.0 a.0.1 x a.1.rest_fits a.3 in
    let tag : Takes bytes (tag_of x.0 ∷ []) a.0.1 = subst (λ (k : ℕ). Takes bytes (k ∷ []) a.0.1) b.0 a.1 in
    (Takes-then bytes (tag_of x.0 ∷ []) a.0.1 (fields_of x.0) x.1 tag b.1, b.2)

-- ---- from effects to bytes and back

fields_again : (effect : Effect) (rest : List ℕ) → IsEffect effect → fields_at (tag_of effect) (fields_of effect ++ rest) ≡ Ok (effect, rest)
unfolding fields_at new_file_at new_dir_at write_at set_len_at link_at unlink_at free_at
fields_again (NewFile inode) rest h = rw ((u64_reads BadLength).again inode rest h) refl
fields_again (NewDir inode) rest h = rw ((u64_reads BadLength).again inode rest h) refl
fields_again (Write inode patch) rest h =
    let regrouped : (big_bytes 8 inode ++ patch_spelling patch) ++ rest ≡ big_bytes 8 inode ++ (patch_spelling patch ++ rest) = grind arith in
    ap write_at regrouped ∙ rw ((u64_reads BadLength).again inode (patch_spelling patch ++ rest) h.0, extent_reads.again patch rest h.1) refl
fields_again (SetLen inode size) rest h =
    let regrouped : (big_bytes 8 inode ++ big_bytes 4 size) ++ rest ≡ big_bytes 8 inode ++ (big_bytes 4 size ++ rest) = grind arith in
    ap set_len_at regrouped ∙ rw ((u64_reads BadLength).again inode (big_bytes 4 size ++ rest) h.0, size_reads.again size rest h.1) refl
fields_again (Link directory name inode) rest h =
    let regrouped : (big_bytes 8 directory ++ (name_spelling name ++ big_bytes 8 inode)) ++ rest
    ≡ big_bytes 8 directory ++ (name_spelling name ++ (big_bytes 8 inode ++ rest)) =
    grind (arith, append_assoc) in
    let first = (u64_reads BadLength).again directory (name_spelling name ++ (big_bytes 8 inode ++ rest)) h.0 in
    let second = name_reads.again name (big_bytes 8 inode ++ rest) h.1 in
    ap link_at regrouped ∙ rw (first, second, (u64_reads BadLength).again inode rest h.2) refl
fields_again (Unlink directory name) rest h =
    let regrouped : (big_bytes 8 directory ++ name_spelling name) ++ rest ≡ big_bytes 8 directory ++ (name_spelling name ++ rest) =
    grind arith in
    ap unlink_at regrouped ∙ rw ((u64_reads BadLength).again directory (name_spelling name ++ rest) h.0, name_reads.again name rest h.1) refl
fields_again (Free inode) rest h = rw ((u64_reads BadLength).again inode rest h) refl

effect_again : (effect : Effect) (rest : List ℕ) → IsEffect effect → effect_at (effect_spelling effect ++ rest) ≡ Ok (effect, rest)
unfolding effect_at
effect_again effect rest h = fields_again effect rest h

pub effect_reads : Reads effect_at effect_spelling IsEffect
effect_reads = record { takes = effect_takes; again = effect_again }
